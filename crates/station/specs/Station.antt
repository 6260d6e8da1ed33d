-- What a station does, document 01: it signs at its mark, gathers signatures by distinct signers, starts with f + 1 of them
-- and relays what it then holds.
use Rattle.std.specs.Prelude.{ℕ, ◌+◌, ◌*◌, Bool, true, false, ◌&&◌, ltb, eqb}
use Rattle.clock.specs.Pick.{pick}
use Rattle.mask.specs.Mask.{count, join, only}
use Rattle.setup.specs.declared.Plan.{Plan}
use Rattle.station.specs.declared.Station.{Station}
use Rattle.station.specs.declared.Outcome.{Outcome}

-- a station in round j waits for round k = j + 1
abbrev pub waits : Station → ℕ
waits s = s.round + 1

-- whose mark is k·P
abbrev pub mark_for : Plan → Station → ℕ
mark_for plan s = waits s * plan.period

-- nothing but the station as it is
unfoldable pub still : Station → Outcome
still s = record { station = s; ready = false; relay = 0 }

-- it holds f + 1 signatures, by distinct signers
unfoldable pub complete : Plan → Station → Bool
complete plan s = ltb plan.faults (count s.gathered)

-- it starts round k: its reading becomes k·P + A, its gathering begins empty, its last signed round is as it was
unfoldable pub start : Plan → Station → Station
start plan s = record {
  round = waits s;
  reading = record { 0 = mark_for plan s + plan.step };
  signed = s.signed;
  gathered = 0;
}

-- as soon as it holds f + 1 it starts, and sends every signature it then holds as one relay
unfoldable pub settle : Bool → Plan → Station → Outcome
settle ready plan s =
    pick (complete plan s) (record { station = start plan s; ready = ready; relay = s.gathered })
    (record { station = s; ready = ready; relay = 0 })

-- it gathers signatures of the round it waits for
unfoldable pub gather : ℕ → Station → Station
gather signers s = record { round = s.round; reading = s.reading; signed = s.signed; gathered = join s.gathered signers }

-- it hears signatures of a round: those of any other round than the one it waits for are ignored
unfoldable pub hear : Plan → ℕ → ℕ → Station → Outcome
hear plan round signers s = pick (eqb round (waits s)) (settle false plan (gather signers s)) (still s)

-- station i signs the round it waits for, counts its own signature and sends it
unfoldable pub sign : Plan → ℕ → Station → Outcome
sign plan i s =
    settle true plan
    (record { round = s.round; reading = s.reading; signed = waits s; gathered = join s.gathered (only i) })

-- its clock goes on
unfoldable pub move : ℕ → Station → Station
move by s = record { round = s.round; reading = record { 0 = s.reading.0 + by }; signed = s.signed; gathered = s.gathered }

-- by so much its reading comes up from below to the mark
unfoldable pub lands : Plan → ℕ → Station → Bool
lands plan by s = ltb s.reading.0 (mark_for plan s) && eqb (s.reading.0 + by) (mark_for plan s)

-- by so much it would pass the mark
unfoldable pub passes : Plan → ℕ → Station → Bool
passes plan by s = ltb s.reading.0 (mark_for plan s) && ltb (mark_for plan s) (s.reading.0 + by)

-- its clock goes on, and it signs where that brings it up to the mark
unfoldable pub advance : Plan → ℕ → ℕ → Station → Outcome
advance plan i by s = pick (lands plan by s) (sign plan i (move by s)) (still (move by s))
