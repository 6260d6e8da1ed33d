-- What an accepted event does to the run, document 01, "Events": what each station does and sends, and the run afterwards.
use Prim.Native.Nat.{ℕ, zero, suc, ◌+◌, ◌<◌, ◌≤◌}
use Rattle.std.specs.Prelude.{◌≡◌, length, get_or, set}
use mathlib.Core.List.{List, [], ◌++◌}
use Rattle.station.specs.declared.Outcome.{Outcome}
use Rattle.station.specs.Station.{waits, hear, move, advance}
use Rattle.flight.specs.declared.Message.{Message}
use Rattle.flight.specs.Message.{no_message, index_of}
use Rattle.model.specs.Run.{Run, station_at, sends}
use Rattle.model.specs.Event.{names_of}

-- ---- advance

-- what station i does in an advance: its clock goes on, and it signs where that brings it up to the mark
abbrev pub advance_at : Run → List ℕ → ℕ → Outcome
advance_at r increments i = advance r.plan i (get_or increments i 0) (station_at r i)

-- what the first k stations send in an advance, in order
unfoldable pub advance_sends : Run → ℕ → List ℕ → ℕ → List Message
advance_sends r d increments zero = []
advance_sends r d increments (suc k) =
    advance_sends r d increments k ++ sends r.plan (r.time + d) k (waits (station_at r k)) (advance_at r increments k)

-- the clocks and the time have moved, and the first k stations have signed where they landed
pub record Signed (r : Run) (d : ℕ) (increments : List ℕ) (k : ℕ) (after : Run) : Type 0 where
  pub plan : after.plan ≡ r.plan
  pub time : after.time ≡ r.time + d
  pub stations : length after.stations ≡ length r.stations
  pub done : (i : ℕ) → i < k → station_at after i ≡ (advance_at r increments i).station
  pub next : (i : ℕ) → k ≤ i → i < length r.stations → station_at after i ≡ move (get_or increments i 0) (station_at r i)
  pub flight : after.flight ≡ r.flight ++ advance_sends r d increments k

-- ---- hearing

-- what a recipient does that hears these signatures
abbrev pub heard : Run → ℕ → ℕ → ℕ → Outcome
heard r recipient round signers = hear r.plan round signers (station_at r recipient)

-- and what it sends then
abbrev pub heard_sends : Run → ℕ → ℕ → ℕ → List Message
heard_sends r recipient round signers =
    sends r.plan r.time recipient (waits (station_at r recipient)) (heard r recipient round signers)

-- the run after that, with this flight before it
abbrev pub heard_run : Run → List Message → ℕ → ℕ → ℕ → Run
heard_run r flight recipient round signers = record {
  plan = r.plan;
  time = r.time;
  stations = set r.stations recipient (heard r recipient round signers).station;
  flight = flight ++ heard_sends r recipient round signers;
}

-- ---- deliver

-- the message in flight with these names
abbrev pub message_named : Run → ℕ → ℕ → ℕ → ℕ → Message
message_named r sender recipient round kind =
    get_or r.flight (index_of (names_of sender recipient round kind) r.flight) no_message
