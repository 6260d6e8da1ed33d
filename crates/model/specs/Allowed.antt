-- What the answer 0 to an event says: each of the rules 10 to 19 by name, as a fact.
use Rattle.std.specs.Prelude.{ℕ, ◌+◌, ◌^◌, ◌<◌, ◌≤◌, true, List, ◌≡◌, get_or}
use Rattle.std.proofs.Math.ListN.{length}
use Rattle.clock.specs.Limits.{max_time, max_round, max_reading, max_flight, max_advance, max_increment}
use Rattle.clock.specs.Drift.{keeps}
use Rattle.mask.specs.Mask.{has}
use Rattle.setup.specs.declared.Plan.{Plan}
use Rattle.station.specs.Station.{waits, mark_for}
use Rattle.flight.specs.Message.{index_of}
use Rattle.flight.specs.Members.{All}
use Rattle.event.specs.declared.Event.TheVariants.{Advance, Deliver, Send}
use Rattle.model.specs.Run.{Run, station_at}
use Rattle.model.specs.Event.{names_of, effect}
use Rattle.model.specs.Valid.{Sound}

-- an advance by d that is accepted
pub record Advances (r : Run) (d : ℕ) (increments : List ℕ) : Type 0 where
  -- 11
  pub span : (1 ≤ d) × (d ≤ max_advance)
  pub long : length increments ≡ r.plan.stations
  pub most : (i : ℕ) → i < r.plan.stations → get_or increments i 0 ≤ max_increment
  pub faulty : (i : ℕ) → i < r.plan.stations → has r.plan.faulty i ≡ true → get_or increments i 0 ≡ 0
  -- 12
  pub time : r.time + d ≤ max_time
  pub reading : (i : ℕ) → i < r.plan.stations → (station_at r i).reading.0 + get_or increments i 0 ≤ max_reading
  pub last : (i : ℕ) → i < r.plan.stations → (station_at r i).round ≡ max_round
      → (station_at r i).reading.0 + get_or increments i 0 < mark_for r.plan (station_at r i)
  -- 13
  pub drift : (i : ℕ) → Sound r.plan i → keeps r.plan.drift d (get_or increments i 0) ≡ true
  -- 14
  pub mark : (i : ℕ) → i < r.plan.stations → (station_at r i).reading.0 < mark_for r.plan (station_at r i)
      → (station_at r i).reading.0 + get_or increments i 0 ≤ mark_for r.plan (station_at r i)
  -- 15
  pub wait : All (λ m. r.time + d ≤ m.sent.0 + r.plan.bound) r.flight
  -- 19
  pub room : length (effect r (Advance d) increments).flight ≤ max_flight

-- the two ends and the round of a message that an event names
pub record Ends (plan : Plan) (sender recipient round : ℕ) : Type 0 where
  pub from : sender < plan.stations
  pub to : Sound plan recipient
  pub apart : sender ≡ recipient → ⊥
  pub rounds : (1 ≤ round) × (round ≤ max_round)

-- a delivery that is accepted
pub record Delivers (r : Run) (sender recipient round kind : ℕ) (increments : List ℕ) : Type 0 where
  -- 11
  pub ends : Ends r.plan sender recipient round
  pub kinds : kind ≤ 1
  -- 16
  pub found : index_of (names_of sender recipient round kind) r.flight < length r.flight
  -- 19
  pub room : length (effect r (Deliver sender recipient round kind) increments).flight ≤ max_flight

-- a faulty send that is accepted
pub record FaultySends (r : Run) (sender recipient round signers : ℕ) (increments : List ℕ) : Type 0 where
  -- 11
  pub ends : Ends r.plan sender recipient round
  pub nonempty : signers ≡ 0 → ⊥
  pub below : signers < 2 ^ r.plan.stations
  -- 17
  pub faulty : has r.plan.faulty sender ≡ true
  -- 18
  pub signed : round ≡ waits (station_at r recipient) → (i : ℕ) → Sound r.plan i → has signers i ≡ true
      → (station_at r i).signed ≡ round
  -- 19
  pub room : length (effect r (Send sender recipient round signers) increments).flight ≤ max_flight
