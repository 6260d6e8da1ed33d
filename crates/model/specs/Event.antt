-- The three events of document 01: each is a list of small steps, and is refused by the first number of the table that
-- applies.
use Rattle.std.specs.Prelude.{ℕ, ◌+◌, Bool, ◌&&◌, ◌||◌, not, List, ltb, eqb, length, get_or}
use Rattle.clock.specs.Limits.{max_time, max_flight}
use Rattle.clock.specs.Drift.{keeps}
use Rattle.clock.specs.Pick.{pick, refuse}
use Rattle.mask.specs.Mask.{has}
use Rattle.station.specs.Station.{waits, passes}
use Rattle.station.specs.Record.{exceeds}
use Rattle.flight.specs.declared.Names.{Names}
use Rattle.flight.specs.Message.{no_message, index_of, without, overdue}
use Rattle.event.specs.declared.Event.{Event}
use Rattle.event.specs.declared.Event.TheVariants.{Advance, Deliver, Send}
use Rattle.event.specs.Event.{barred}
use Rattle.model.specs.Run.{Run, sound, station_at, moves, sign_to, hear_at}
use Rattle.model.specs.Record.{some_station, bad_record}

-- ---- what an event does

abbrev pub names_of : ℕ → ℕ → ℕ → ℕ → Names
names_of sender recipient round kind = record { sender = sender; recipient = recipient; round = round; kind = kind }

-- the delivered message leaves the flight, and its place is used again
unfoldable pub take_out : ℕ → Run → Run
take_out i r = record { plan = r.plan; time = r.time; stations = r.stations; flight = without i r.flight }

abbrev pub deliver_at : ℕ → ℕ → ℕ → Run → Run
deliver_at i recipient round r = hear_at recipient round (get_or r.flight i no_message).signers (take_out i r)

-- advance: readings and time move, and those that land sign. Deliver: the message leaves the flight and its recipient
-- gathers it. Faulty send: its signers are gathered at once
unfoldable pub effect : Run → Event → List ℕ → Run
effect r (Advance d) increments = sign_to r.plan.stations r increments (moves d increments r)
effect r (Deliver sender recipient round kind) increments =
    deliver_at (index_of (names_of sender recipient round kind) r.flight) recipient round r
effect r (Send sender recipient round signers) increments = hear_at recipient round signers r

-- ---- when it is refused

-- 12: time or a reading would exceed its limit, or a station in round 1,000,000 would reach its next mark
unfoldable pub exceeds_at : Run → List ℕ → ℕ → Bool
exceeds_at r increments i = exceeds r.plan (get_or increments i 0) (station_at r i)

-- 13: an increment breaks the drift rule
unfoldable pub drifts_at : Run → ℕ → List ℕ → ℕ → Bool
drifts_at r d increments i = sound r.plan i && not (keeps r.plan.drift d (get_or increments i 0))

-- 14: a mark would be passed
unfoldable pub passes_at : Run → List ℕ → ℕ → Bool
passes_at r increments i = passes r.plan (get_or increments i 0) (station_at r i)

-- 18: a needed signature was not made: the round is the one its recipient waits for, and a sound signer has another as its
-- last signed round
unfoldable pub unsigned_at : Run → ℕ → ℕ → ℕ → Bool
unsigned_at r round signers i = has signers i && (sound r.plan i && not (eqb (station_at r i).signed round))

unfoldable pub unsigned : Run → ℕ → ℕ → ℕ → Bool
unsigned r recipient round signers =
    eqb round (waits (station_at r recipient)) && some_station (unsigned_at r round signers) r.plan.stations

-- 19: more than 1,024 would be in flight after the event
unfoldable pub full : Run → Bool
full r = ltb max_flight (length r.flight)

-- the rules 12 to 19 that each event is asked
unfoldable pub event_rules : Run → Event → List ℕ → ℕ
event_rules r (Advance d) increments =
    refuse (ltb max_time (r.time + d) || some_station (exceeds_at r increments) r.plan.stations) 12
    (refuse (some_station (drifts_at r d increments) r.plan.stations) 13
    (refuse (some_station (passes_at r increments) r.plan.stations) 14
    (refuse (overdue (r.time + d) r.plan.bound r.flight) 15
    (refuse (full (effect r (Advance d) increments)) 19 0))))
event_rules r (Deliver sender recipient round kind) increments =
    refuse (eqb (index_of (names_of sender recipient round kind) r.flight) (length r.flight)) 16
    (refuse (full (effect r (Deliver sender recipient round kind) increments)) 19 0)
event_rules r (Send sender recipient round signers) increments =
    refuse (not (has r.plan.faulty sender)) 17
    (refuse (unsigned r recipient round signers) 18
    (refuse (full (effect r (Send sender recipient round signers) increments)) 19 0))

-- the answer to an event of a run whose record is valid
unfoldable pub step_answer : Run → Event → List ℕ → ℕ
step_answer r e increments = refuse (barred r.plan.stations r.plan.faulty e increments) 11 (event_rules r e increments)

-- the answer to an event of any record
unfoldable pub event_answer : Run → Event → List ℕ → ℕ
event_answer r e increments = refuse (bad_record r) 10 (step_answer r e increments)

-- the run after an event: a refused one leaves it untouched
unfoldable pub step : Run → Event → List ℕ → Run
step r e increments = pick (eqb (event_answer r e increments) 0) (effect r e increments) r
