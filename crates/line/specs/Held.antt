-- The run as the code holds it: a struct by value, and the words of the flight lent beside it.
use Rattle.std.specs.Prelude.{ℕ, zero, suc, ◌*◌, Bool, ◌||◌, not, List, [], ◌∷◌, ◌++◌, leb, eqb, length, get_or}
use Rattle.clock.specs.Limits.{max_stations, max_flight}
use Rattle.clock.specs.Pick.{pick}
use Rattle.station.specs.declared.Station.{Station}
use Rattle.flight.specs.Message.{decode}
use Rattle.line.specs.declared.Line.{Line}
use Rattle.line.specs.declared.Rest.{Rest}
use Rattle.model.specs.Run.{Run, no_station}
use Rattle.model.specs.Record.{bad_record}

-- what the run has beside its stations
abbrev pub rest_of : Line → Rest
rest_of l = record { plan = l.plan; time = l.time; count = l.count }

-- the stations in the first n places of a table
unfoldable pub first_of : ℕ → List Station → List Station
first_of zero table = []
first_of (suc k) table = first_of k table ++ (get_or table k no_station ∷ [])

-- the one in place i of them
abbrev pub place_of : ℕ → List Station → ℕ → Station
place_of n table i = get_or (first_of n table) i no_station

-- station i of any record: none where the line has more than twelve
unfoldable pub station_of : Line → ℕ → Station
station_of l i = pick (leb l.plan.stations max_stations) (place_of l.plan.stations l.stations i) no_station

-- the first n places of the table are the stations, and the first `count` messages of the words are in flight
unfoldable pub run_of : Line → List ℕ → Run
run_of l words = record {
  plan = l.plan;
  time = l.time.0;
  stations = first_of l.plan.stations l.stations;
  flight = decode l.count words;
}

-- 10: a table without exactly n stations, words for another number of messages than 1,024, or a record that breaks a rule
unfoldable pub bad_line : Line → List ℕ → Bool
bad_line l words =
    not (eqb l.length l.plan.stations) || not (eqb (length words) (3 * max_flight)) || bad_record (run_of l words)
