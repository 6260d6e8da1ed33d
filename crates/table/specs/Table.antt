-- A run whose stations lie in one table lent by the caller: what a fresh run, an event and a question answer on a table of
-- any length, and the table then.
use Rattle.std.specs.Prelude.{ℕ, Result, Ok, Err, ◌*◌, ◌<◌, ◌≤◌, Bool, true, false, ◌||◌, not, List, ◌++◌, ◌≡◌, refl, eqb, ltb, length, get_or, take, drop}
use Rattle.std.proofs.Common.{ap, ◌∙◌, arith, ltb-false, lt-ltb, le-ltb}
use Rattle.clock.specs.Limits.{max_flight}
use Rattle.clock.specs.Pick.{pick, refuse, or_else}
use Rattle.refusal.specs.declared.Refusal.{Refusal}
use Rattle.refusal.specs.Refusal.{number}
use Rattle.setup.specs.declared.Plan.{Plan}
use Rattle.setup.specs.Setup.{setup_answer}
use Rattle.station.specs.declared.Station.{Station}
use Rattle.flight.specs.Message.{decode}
use Rattle.event.specs.declared.Event.{Event}
use Rattle.line.specs.Run.{Run, sound, no_station, fresh_stations}
use Rattle.line.specs.Record.{bad_record}
use Rattle.line.specs.Event.{effect, step_answer}
use Rattle.line.specs.Fresh.{no_plan}
use Rattle.run.specs.Play.{comes_words}
use Rattle.line.specs.declared.Rest.{Rest}
use Rattle.seating.specs.Seating.{Answered}
use Rattle.table.specs.declared.Seats.{Seats}
use Rattle.table.specs.declared.Turned as code
use Rattle.table.specs.declared.Question.{Question}
use Rattle.table.specs.declared.Question.TheVariants as asks

-- ---- the run

-- its stations are those of the table, and the first `count` messages of the words are in flight
unfoldable pub table_run : Rest → List Station → List ℕ → Run
table_run rest table words = record {
  plan = rest.plan;
  time = rest.time.0;
  stations = table;
  flight = decode rest.count words;
}

-- 10: a table without exactly n stations, words for another number of messages than 1,024, or a record that breaks a rule
unfoldable pub bad_table : Rest → List Station → List ℕ → Bool
bad_table rest table words = not (eqb (length words) (3 * max_flight)) || bad_record (table_run rest table words)

-- what a run has beside its table
unfoldable pub rest_of : Rest → Run → Rest
rest_of rest r = record { plan = rest.plan; time = record { 0 = r.time }; count = length r.flight }

-- ---- a fresh run

-- real time 0, nothing in flight
abbrev pub starting : Plan → Rest
starting plan = record { plan = plan; time = record { 0 = 0 }; count = 0 }

-- 1 to 8, then 10 for the table's length alone
unfoldable pub fresh_answer : Plan → List ℕ → List Station → ℕ
fresh_answer plan first table = or_else (setup_answer plan first) (refuse (not (eqb (length table) plan.stations)) 10 0)

-- a refused setup yields no run
unfoldable pub begun : Plan → List ℕ → List Station → Answered
begun plan first table = record {
  answer = fresh_answer plan first table;
  rest = pick (eqb (fresh_answer plan first table) 0) (starting plan) (starting no_plan);
}

-- each sound station in round 0, nothing signed; refused, the table is as it was
unfoldable pub begun_table : Plan → List ℕ → List Station → List Station
begun_table plan first table = pick (eqb (fresh_answer plan first table) 0) (fresh_stations first) table

-- ---- an event

module _ (rest : Rest) (table : List Station) (words : List ℕ) (e : Event) (increments : List ℕ) where
  -- 10, then 11 to 19
  unfoldable pub table_answer : ℕ
  table_answer = refuse (bad_table rest table words) 10 (step_answer (table_run rest table words) e increments)

  -- the run that an accepted one leaves
  abbrev leaves : Run
  leaves = effect (table_run rest table words) e increments

  unfoldable pub played : Answered
  played = record { answer = table_answer; rest = pick (eqb table_answer 0) (rest_of rest leaves) rest }

  -- the table is changed by accepted events only
  unfoldable pub played_table : List Station
  played_table = pick (eqb table_answer 0) leaves.stations table

  unfoldable pub played_words : List ℕ
  played_words = comes_words table_answer words leaves

-- ---- a question

-- 10, then 31 for a station that is faulty or at n or above, then 32 for a lead of two in different rounds
unfoldable pub question_answer : Rest → List Station → List ℕ → Question → ℕ
question_answer rest table words (asks.Reading i) = refuse (bad_table rest table words) 10 (refuse (not (sound rest.plan i)) 31 0)
question_answer rest table words (asks.Lead of over) =
    refuse (bad_table rest table words) 10
    (refuse (not (sound rest.plan of) || not (sound rest.plan over)) 31
    (refuse (not (eqb (get_or table of no_station).round (get_or table over no_station).round)) 32 0))
question_answer rest table words asks.InFlight = refuse (bad_table rest table words) 10 0

-- ---- a table of one's own

-- the first `length` of its twelve places are lent, and no more than there are
unfoldable pub many : Seats → ℕ
many seats = pick (ltb 12 seats.length) 12 seats.length

abbrev pub lent_of : Seats → List Station
lent_of seats = take (many seats) seats.places

-- what is answered on such a table, and the table then
pub record Turned : Type 0 where
  pub answered : Answered
  pub seats : Seats

-- refused, the table is as it was
abbrev pub as_turned : Rest → Seats → Result code.Turned Refusal → Turned
as_turned rest seats (Ok x) = record { answered = record { answer = 0; rest = x.rest }; seats = x.seats }
as_turned rest seats (Err r) = record { answered = record { answer = number r; rest = rest }; seats = seats }

abbrev pub turn : Answered → Seats → List Station → Turned
turn answered seats after = record { answered = answered; seats = record { length = seats.length; places = after } }

-- the table then, and the places behind it
abbrev pub turned : Answered → Seats → List Station → Turned
turned answered seats table = turn answered seats (table ++ drop (many seats) seats.places)

abbrev pub begun_on : Seats → Plan → List ℕ → Turned
begun_on seats plan first = turned (begun plan first (lent_of seats)) seats (begun_table plan first (lent_of seats))

abbrev pub played_on : Seats → Rest → List ℕ → Event → List ℕ → Turned
played_on seats rest words e increments =
    turned (played rest (lent_of seats) words e increments) seats (played_table rest (lent_of seats) words e increments)

-- the stations are lent, and come back as they then are
pub on-comes : (seats : Seats) (of : List Station → Answered) (then : List Station → List Station) (xs zs : List Station) (a : Answered) {r : Turned} → xs ≡ seats.places
    → a ≡ of (take (many seats) xs) → zs ≡ then (take (many seats) xs) → r ≡ turn a seats (zs ++ drop (many seats) xs)
    → r ≡ turned (of (lent_of seats)) seats (then (lent_of seats))
on-comes seats of then xs zs a same answers leaves e =
    e
    ∙ (λ i. turn ((answers ∙ ap (λ (l : List Station). of (take (many seats) l)) same) i) seats
    ((leaves ∙ ap (λ (l : List Station). then (take (many seats) l)) same) i ++ drop (many seats) (same i)))

pub many-all : (seats : Seats) → 12 < seats.length → 12 ≡ many seats
unfolding many
many-all seats h = rw (lt-ltb 12 seats.length h) refl

pub many-some : (seats : Seats) → seats.length ≤ 12 → seats.length ≡ many seats
unfolding many
many-some seats h = rw (le-ltb 12 seats.length h) refl

pub many-few : (seats : Seats) → many seats ≤ 12
unfolding many
many-few seats = go (ltb 12 seats.length) refl
  where
    go : (b : Bool) → ltb 12 seats.length ≡ b → pick b 12 seats.length ≤ 12
    go true z = omega arith
    go false z = omega (arith, ltb-false 12 seats.length z)
