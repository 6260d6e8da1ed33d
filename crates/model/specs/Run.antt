-- The run of a line: the time, the stations, the messages in flight, and the small steps that events are made of.
use Rattle.std.specs.Prelude.{ℕ, zero, suc, ◌+◌, Bool, ◌&&◌, not, List, [], ◌∷◌, ◌++◌, ltb, eqb, get_or, set}
use Rattle.clock.specs.Limits.{max_stations}
use Rattle.clock.specs.Pick.{pick}
use Rattle.mask.specs.Mask.{has, only, all, minus}
use Rattle.setup.specs.declared.Plan.{Plan}
use Rattle.station.specs.declared.Station.{Station}
use Rattle.station.specs.declared.Outcome.{Outcome}
use Rattle.station.specs.Station.{waits, hear, sign, move, lands}
use Rattle.flight.specs.declared.Message.{Message}
use Rattle.flight.specs.Message.{sent_to}

-- a planned line at a moment: every station's state, and the messages to sound stations that are on their way
pub record Run : Type 0 where
  pub plan : Plan
  pub time : ℕ
  pub stations : List Station
  pub flight : List Message

-- a station of the line that is not marked faulty
unfoldable pub sound : Plan → ℕ → Bool
sound plan i = ltb i plan.stations && not (has plan.faulty i)

-- a faulty station's fields are zero
abbrev pub no_station : Station
no_station = record { round = 0; reading = record { 0 = 0 }; signed = 0; gathered = 0 }

abbrev pub station_at : Run → ℕ → Station
station_at r i = get_or r.stations i no_station

-- ---- a fresh run

-- real time 0, each sound station in round 0, nothing signed, nothing in flight
abbrev pub fresh_station : ℕ → Station
fresh_station x = record { round = 0; reading = record { 0 = x }; signed = 0; gathered = 0 }

unfoldable pub fresh_stations : List ℕ → List Station
fresh_stations [] = []
fresh_stations (x ∷ xs) = fresh_station x ∷ fresh_stations xs

unfoldable pub fresh : Plan → List ℕ → Run
fresh plan first = record { plan = plan; time = 0; stations = fresh_stations first; flight = [] }

-- ---- what a station sends

-- the other sound stations
unfoldable pub others : Plan → ℕ → ℕ
others plan i = minus (minus (all plan.stations) plan.faulty) (only i)

-- station i's own signature of round k, as a ready message
abbrev pub ready_of : ℕ → ℕ → ℕ → Message
ready_of time i k = record { sender = i; recipient = 0; round = k; kind = 0; signers = only i; sent = record { 0 = time } }

-- the signatures of round k that it held, as one relay
abbrev pub relay_of : ℕ → ℕ → ℕ → ℕ → Message
relay_of time i k signers = record { sender = i; recipient = 0; round = k; kind = 1; signers = signers; sent = record { 0 = time } }

-- what station i sends to the others when it does this of round k: its ready first, then its relay
unfoldable pub sends : Plan → ℕ → ℕ → ℕ → Outcome → List Message
sends plan time i k o =
    pick o.ready (sent_to (ready_of time i k) max_stations (others plan i)) []
    ++ pick (eqb o.relay 0) [] (sent_to (relay_of time i k o.relay) max_stations (others plan i))

-- ---- small steps

-- station i, waiting for round k, has done this
unfoldable pub become : ℕ → ℕ → Outcome → Run → Run
become i k o r = record {
  plan = r.plan;
  time = r.time;
  stations = set r.stations i o.station;
  flight = r.flight ++ sends r.plan r.time i k o;
}

-- station i signs, with the start that this completes
unfoldable pub sign_at : ℕ → Run → Run
sign_at i r = become i (waits (station_at r i)) (sign r.plan i (station_at r i)) r

-- station i hears signatures of a round, with the start that this completes
unfoldable pub hear_at : ℕ → ℕ → ℕ → Run → Run
hear_at i round signers r = become i (waits (station_at r i)) (hear r.plan round signers (station_at r i)) r

-- each station's clock goes on by its increment
unfoldable pub moved_all : List Station → List ℕ → List Station
moved_all [] increments = []
moved_all (s ∷ ss) [] = s ∷ ss
moved_all (s ∷ ss) (x ∷ xs) = move x s ∷ moved_all ss xs

-- readings and time move
unfoldable pub moves : ℕ → List ℕ → Run → Run
moves d increments r = record {
  plan = r.plan;
  time = r.time + d;
  stations = moved_all r.stations increments;
  flight = r.flight;
}

-- station k comes up to its mark
unfoldable pub lands_at : Run → List ℕ → ℕ → Bool
lands_at r increments k = lands r.plan (get_or increments k 0) (station_at r k)

-- those of the first k that land sign, in order
unfoldable pub sign_to : ℕ → Run → List ℕ → Run → Run
sign_to zero before increments r = r
sign_to (suc k) before increments r =
    pick (lands_at before increments k) (sign_at k (sign_to k before increments r)) (sign_to k before increments r)
