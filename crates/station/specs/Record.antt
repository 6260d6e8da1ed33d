-- The rules of a sound station's record, document 01, "Record rules", and the answers of a board's two doors.
use Rattle.std.specs.Prelude.{ℕ, Result, Ok, Err, ◌+◌, Bool, ◌&&◌, ◌||◌, not, ltb, leb, eqb}
use Rattle.clock.specs.Limits.{max_round, max_reading, max_increment, max_period, max_step}
use Rattle.clock.specs.Pick.{pick, refuse}
use Rattle.clock.specs.Tests.{outside}
use Rattle.mask.specs.Mask.{has, count, below}
use Rattle.refusal.specs.declared.Refusal.{Refusal}
use Rattle.refusal.specs.Refusal.{number}
use Rattle.setup.specs.declared.Plan.{Plan}
use Rattle.setup.specs.Setup.{plan_answer}
use Rattle.station.specs.declared.Station.{Station}
use Rattle.station.specs.declared.Outcome.{Outcome}
use Rattle.station.specs.Station.{waits, mark_for, still, passes}

-- round, reading and last signed round within their limits
unfoldable pub bad_numbers : Station → Bool
bad_numbers s = ltb max_round s.round || ltb max_reading s.reading.0 || ltb max_round s.signed

-- one that waits for round k has k as its last signed round if its reading is at or past the mark, else a number below k
unfoldable pub bad_signed : Plan → Station → Bool
bad_signed plan s = not (pick (leb (mark_for plan s) s.reading.0) (eqb s.signed (waits s)) (ltb s.signed (waits s)))

-- it has gathered at most f signers, all below n
unfoldable pub bad_gathered : Plan → Station → Bool
bad_gathered plan s = not (below s.gathered plan.stations) || ltb plan.faults (count s.gathered)

-- a sound station's record breaks a rule
unfoldable pub bad_station : Plan → Station → Bool
bad_station plan s = bad_numbers s || bad_signed plan s || bad_gathered plan s

-- by so much a reading would exceed its limit, or a station in round 1,000,000 would reach its next mark
unfoldable pub exceeds : Plan → ℕ → Station → Bool
exceeds plan by s =
    ltb max_reading (s.reading.0 + by) || (eqb s.round max_round && leb (mark_for plan s) (s.reading.0 + by))

-- the answer to an increment alone: 12, then 14 where the mark would be passed
unfoldable pub move_answer : Plan → ℕ → Station → ℕ
move_answer plan by s = refuse (exceeds plan by s) 12 (refuse (passes plan by s) 14 0)

-- the period or the step is past its limit
unfoldable pub past_limits : Plan → Bool
past_limits plan = ltb max_period plan.period || ltb max_step plan.step

-- 10: the plan or the board's own record breaks a rule
unfoldable pub bad_board : Plan → Station → Bool
bad_board plan s = not (eqb (plan_answer plan) 0) || bad_station plan s

-- a board's answer: 0, or the number that refuses, and the outcome
pub record Board : Type 0 where
  pub answer : ℕ
  pub outcome : Outcome

-- the outcome of a refusal is the station as it was
abbrev pub as_board : Station → Result Outcome Refusal → Board
as_board s (Ok o) = record { answer = 0; outcome = o }
as_board s (Err r) = record { answer = number r; outcome = still s }

-- what a board answers: a number, and where it is 0 what the station then does
unfoldable pub answered : ℕ → Station → Outcome → Board
answered k s outcome = record { answer = k; outcome = pick (eqb k 0) outcome (still s) }

-- hearing: 10, then 11 for a round outside 1 to 1,000,000, an empty mask or one with a bit at n or above
unfoldable pub hear_answer : Plan → ℕ → ℕ → Station → ℕ
hear_answer plan round signers s =
    refuse (bad_board plan s) 10
    (refuse (outside 1 max_round round || eqb signers 0 || not (below signers plan.stations)) 11 0)

-- advancing station i: 10, then 11 for an increment over its limit or a station that is faulty or at n or above, then as
-- for the increment alone
unfoldable pub advance_answer : Plan → ℕ → ℕ → Station → ℕ
advance_answer plan i by s =
    refuse (bad_board plan s) 10
    (refuse (leb plan.stations i || has plan.faulty i || ltb max_increment by) 11 (move_answer plan by s))
