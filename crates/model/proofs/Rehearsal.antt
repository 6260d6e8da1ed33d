-- Document 01's rehearsal, "One rehearsal in full", computed on the definitions: each of its eight lines.
use Rattle.std.specs.Prelude.{ℕ, List, [], ◌∷◌, ◌≡◌, refl}
use Rattle.clock.specs.Drift.{keeps}
use Rattle.clock.specs.Tests.{some_to}
use Rattle.mask.specs.Mask.{has, count_to, count, below, join, only, all, minus}
use Rattle.setup.specs.declared.Plan.{Plan}
use Rattle.setup.specs.Setup.{bad_stations, bad_faults, bad_limits, bad_marks, gap, steps, spreads, plan_answer, bad_first, first_answer, setup_answer}
use Rattle.station.specs.declared.Station.{Station}
use Rattle.station.specs.Station.{still, complete, start, settle, gather, hear, sign, move, lands, passes, advance}
use Rattle.station.specs.Record.{bad_numbers, bad_signed, bad_gathered, bad_station, exceeds}
use Rattle.flight.specs.Message.{named, message_of, index_of, without, sent_to, some_of, late, twins}
use Rattle.event.specs.declared.Event.{Event}
use Rattle.event.specs.declared.Event.TheVariants.{Advance, Deliver, Send}
use Rattle.event.specs.Event.{bad_increment, bad_advance, bad_ends, barred}
use Rattle.model.specs.Run.{Run, sound, fresh_stations, fresh, others, sends, become, sign_at, hear_at, moved_all, moves, lands_at, sign_to}
use Rattle.model.specs.Record.{bad_faulty, bad_station_at, some_station, bad_content, bad_way, bad_round, bad_message, bad_record}
use Rattle.model.specs.Event.{take_out, effect, exceeds_at, drifts_at, passes_at, unsigned_at, unsigned, full, event_rules, step_answer, event_answer, step}
use Rattle.model.specs.History.{Entry, told, sum_to, sent_between, taken, sent_in, delivered_in, seen}

-- n 3, f 1, r 0, T 2, D 2, A 4, P 7, station 2 faulty
abbrev plan : Plan
plan = record { stations = 3; faults = 1; drift = 0; bound = 2; spread = 2; step = 4; period = 7; faulty = 4 }

abbrev first : List ℕ
first = 4 ∷ 5 ∷ 0 ∷ []

-- what a line of the rehearsal shows: the answer, the time and the rounds of the sound stations
pub record Line : Type 0 where
  pub answer : ℕ
  pub time : ℕ
  pub rounds : List ℕ

abbrev rounds_of : List Station → List ℕ
rounds_of [] = []
rounds_of (s ∷ ss) = s.round ∷ rounds_of ss

abbrev show : ℕ → Run → Line
show answer r = record { answer = answer; time = r.time; rounds = rounds_of r.stations }

-- the lines of the events, each met by the run that the ones before it left
abbrev play : Run → List Entry → List Line
play r [] = []
play r (e ∷ es) =
    show (event_answer r e.event e.increments) (step r e.event e.increments) ∷ play (step r e.event e.increments) es

abbrev advance-by : ℕ → List ℕ → Entry
advance-by d increments = record { event = Advance d; increments = increments }

abbrev message : Event → Entry
message e = record { event = e; increments = [] }

abbrev script : List Entry
script =
    advance-by 2 (2 ∷ 2 ∷ 0 ∷ [])
    ∷ advance-by 3 (3 ∷ 3 ∷ 0 ∷ [])
    ∷ message (Send 2 0 1 1)
    ∷ message (Send 2 1 1 4)
    ∷ message (Deliver 1 0 1 1)
    ∷ advance-by 3 (3 ∷ 3 ∷ 0 ∷ [])
    ∷ message (Deliver 1 0 1 0)
    ∷ advance-by 1 (1 ∷ 1 ∷ 0 ∷ [])
    ∷ []

abbrev line : ℕ → ℕ → ℕ → ℕ → Line
line answer time a b = record { answer = answer; time = time; rounds = a ∷ b ∷ 0 ∷ [] }

-- the setup is answered 0
pub setup-line : setup_answer plan first ≡ 0
unfolding has count_to count below bad_stations bad_faults bad_limits bad_marks gap steps spreads plan_answer bad_first some_to first_answer setup_answer
setup-line = refl

-- and the events as the document prints them; station 2 is faulty, and its round is not shown there
pub event-lines : play (fresh plan first) script
    ≡ line 0 2 0 0 ∷ line 14 2 0 0 ∷ line 18 2 0 0 ∷ line 0 2 0 1 ∷ line 0 2 1 1 ∷ line 15 2 1 1 ∷ line 0 2 1 1 ∷ line 0 3 1 1 ∷ []
unfolding keeps some_to has count_to count below join only all minus bad_stations bad_faults bad_limits bad_marks gap steps spreads plan_answer still complete start settle gather hear sign move lands passes advance bad_numbers bad_signed bad_gathered bad_station exceeds named message_of index_of without sent_to some_of late twins bad_increment bad_advance bad_ends barred sound fresh_stations fresh others sends become sign_at hear_at moved_all moves lands_at sign_to bad_faulty bad_station_at bad_content bad_way bad_round bad_message bad_record take_out effect some_station exceeds_at drifts_at passes_at unsigned_at unsigned full event_rules step_answer event_answer step
event-lines = refl

-- counted from its history, three messages were sent and two delivered
pub rehearsal-count : (sent_in (seen (fresh plan first) script) ≡ 3) × (delivered_in (seen (fresh plan first) script) ≡ 2)
unfolding keeps some_to has count_to count below join only all minus bad_stations bad_faults bad_limits bad_marks gap steps spreads plan_answer still complete start settle gather hear sign move lands passes advance bad_numbers bad_signed bad_gathered bad_station exceeds named message_of index_of without sent_to some_of late twins bad_increment bad_advance bad_ends barred sound fresh_stations fresh others sends become sign_at hear_at moved_all moves lands_at sign_to bad_faulty bad_station_at bad_content bad_way bad_round bad_message bad_record take_out effect some_station exceeds_at drifts_at passes_at unsigned_at unsigned full event_rules step_answer event_answer step told sum_to sent_between taken sent_in delivered_in seen
rehearsal-count = (refl, refl)
