-- The record rules of a run as facts: what a valid record is. Within an advance a station may stand at its mark and have its
-- signature still to make: the rules name those stations, and between events there are none.
use Rattle.std.specs.Prelude.{ℕ, ◌^◌, ◌<◌, ◌≤◌, Bool, List, ◌≡◌, length, get_or}
use Rattle.std.proofs.Math.Bool.{true, false}
use Rattle.clock.specs.Limits.{max_time, max_round, max_reading, max_flight}
use Rattle.clock.specs.Pick.{pick}
use Rattle.mask.specs.Mask.{has, count}
use Rattle.setup.specs.declared.Plan.{Plan}
use Rattle.setup.specs.Setup.{plan_answer}
use Rattle.setup.specs.Laws.{Planned}
use Rattle.station.specs.declared.Station.{Station}
use Rattle.station.specs.Station.{waits, mark_for}
use Rattle.flight.specs.declared.Message.{Message}
use Rattle.flight.specs.Message.{twins}
use Rattle.flight.specs.Members.{All}
use Rattle.model.specs.Run.{Run, no_station, station_at}

-- ---- the rules

-- a station of the line that is not marked faulty
pub record Sound (plan : Plan) (i : ℕ) : Type 0 where
  pub line : i < plan.stations
  pub unmarked : has plan.faulty i ≡ false

-- a sound station's record: one that waits for round k has k as its last signed round if its reading is at or past the
-- mark, else a number below k; it has gathered at most f signers, all below n
pub record Ruled (plan : Plan) (s : Station) : Type 0 where
  pub round : s.round ≤ max_round
  pub reading : s.reading.0 ≤ max_reading
  pub signed : s.signed ≤ max_round
  pub past : mark_for plan s ≤ s.reading.0 → s.signed ≡ waits s
  pub before : s.reading.0 < mark_for plan s → s.signed < waits s
  pub gathered : s.gathered < 2 ^ plan.stations
  pub few : count s.gathered ≤ plan.faults

-- a sound station that has come up to its mark and is yet to sign
pub record Due (plan : Plan) (s : Station) : Type 0 where
  pub round : waits s ≤ max_round
  pub reading : s.reading.0 ≤ max_reading
  pub at : s.reading.0 ≡ mark_for plan s
  pub unsigned : s.signed < waits s
  pub gathered : s.gathered < 2 ^ plan.stations

-- a message in flight: a round from 1 to 1,000,000, kind 0 or 1, a non-empty mask with no bit at n or above, two different
-- sound ends, a sent time not after the present; a ready's round is at most its sender's last signed, a relay's at most its
-- sender's own
pub record OnItsWay (plan : Plan) (time : ℕ) (stations : List Station) (m : Message) : Type 0 where
  pub round : (1 ≤ m.round) × (m.round ≤ max_round)
  pub kind : m.kind ≤ 1
  pub signed : m.signers ≡ 0 → ⊥
  pub signers : m.signers < 2 ^ plan.stations
  pub sender : Sound plan m.sender
  pub recipient : Sound plan m.recipient
  pub apart : m.sender ≡ m.recipient → ⊥
  pub sent : m.sent.0 ≤ time
  pub ready : m.kind ≡ 0 → m.round ≤ (get_or stations m.sender no_station).signed
  pub relay : (m.kind ≡ 0 → ⊥) → m.round ≤ (get_or stations m.sender no_station).round

-- the record rules of a run in which these stations are yet to sign, but for the number of messages in flight
pub record Between (due : ℕ → Bool) (r : Run) : Type 0 where
  pub answer : plan_answer r.plan ≡ 0
  pub plan : Planned r.plan
  pub long : length r.stations ≡ r.plan.stations
  pub time : r.time ≤ max_time
  pub stations : (i : ℕ) → Sound r.plan i → pick (due i) (Due r.plan (station_at r i)) (Ruled r.plan (station_at r i))
  pub faulty : (i : ℕ) → i < r.plan.stations → has r.plan.faulty i ≡ true → station_at r i ≡ no_station
  pub flight : All (OnItsWay r.plan r.time r.stations) r.flight
  pub single : twins r.flight ≡ false

-- no station is yet to sign
abbrev pub nobody : ℕ → Bool
nobody i = false

-- a valid record: it keeps its rules, and at most 1,024 messages are in flight
pub record Valid (r : Run) : Type 0 where
  pub rules : Between nobody r
  pub few : length r.flight ≤ max_flight
