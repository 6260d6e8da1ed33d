-- A history tells of each event its answer and the stations before and after it, and nothing of the flight; the messages sent
-- and delivered are counted from it.
use Prim.Native.Nat.{ℕ, zero, suc, ◌+◌, ◌*◌}
use Rattle.std.specs.Prelude.{not, List, [], ◌∷◌, eqb, get_or}
use Rattle.clock.specs.Limits.{max_stations}
use Rattle.clock.specs.Pick.{pick}
use Rattle.mask.specs.Mask.{has, one, count_to}
use Rattle.setup.specs.declared.Plan.{Plan}
use Rattle.station.specs.declared.Station.{Station}
use Rattle.event.specs.declared.Event.{Event}
use Rattle.event.specs.declared.Event.TheVariants.{Advance, Deliver, Send}
use Rattle.model.specs.Run.{Run, no_station, others}
use Rattle.model.specs.Event.{event_answer, step}

-- ---- histories

-- an event and its increments
pub record Entry : Type 0 where
  pub event : Event
  pub increments : List ℕ

-- the run after a history, each event met by the run that the ones before it left
unfoldable pub played : Run → List Entry → Run
played r [] = r
played r (e ∷ es) = played (step r e.event e.increments) es

-- ---- what was sent and delivered

-- how many other sound stations there are than i
abbrev pub others_of : Plan → ℕ → ℕ
others_of plan i = count_to max_stations (has (others plan i))

-- how many messages a station sends to each other: a ready where its last signed round changed, a relay where its round did
unfoldable pub told : Station → Station → ℕ
told before after = one (not (eqb before.signed after.signed)) + one (not (eqb before.round after.round))

-- f of each number below k, summed
unfoldable pub sum_to : ℕ → (ℕ → ℕ) → ℕ
sum_to zero f = 0
sum_to (suc k) f = sum_to k f + f k

-- the messages that station i sent to sound stations between two states of its own
abbrev pub sent_from : Plan → ℕ → Station → Station → ℕ
sent_from plan i before after = others_of plan i * told before after

-- between two states of the stations
abbrev pub sent_at : Plan → List Station → List Station → ℕ → ℕ
sent_at plan before after i = sent_from plan i (get_or before i no_station) (get_or after i no_station)

-- and all stations together
unfoldable pub sent_between : Plan → List Station → List Station → ℕ
sent_between plan before after = sum_to plan.stations (sent_at plan before after)

-- one message for a deliver
unfoldable pub taken : Event → ℕ
taken (Advance d) = 0
taken (Deliver sender recipient round kind) = 1
taken (Send sender recipient round signers) = 0

-- what a history tells of an event: its answer, and the stations that it met and left
pub record Seen : Type 0 where
  pub event : Event
  pub answer : ℕ
  pub plan : Plan
  pub before : List Station
  pub after : List Station

-- messages sent to sound stations over a history
unfoldable pub sent_in : List Seen → ℕ
sent_in [] = 0
sent_in (s ∷ ss) = sent_between s.plan s.before s.after + sent_in ss

-- messages delivered over a history: one for each deliver that was accepted
unfoldable pub delivered_in : List Seen → ℕ
delivered_in [] = 0
delivered_in (s ∷ ss) = pick (eqb s.answer 0) (taken s.event) 0 + delivered_in ss

-- the history of a run under a list of events
unfoldable pub seen : Run → List Entry → List Seen
seen r [] = []
seen r (e ∷ es) =
    record {
      event = e.event;
      answer = event_answer r e.event e.increments;
      plan = r.plan;
      before = r.stations;
      after = (step r e.event e.increments).stations;
    }
    ∷ seen (step r e.event e.increments) es
