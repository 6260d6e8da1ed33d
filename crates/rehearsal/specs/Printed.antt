-- Document 01's rehearsal, "One rehearsal in full", computed on the definitions from its bytes to its nine lines.
use Rattle.std.specs.Prelude.{ℕ, List, [], ◌∷◌, ◌++◌, ◌≡◌, refl}
use Rattle.clock.specs.Drift.{keeps}
use Rattle.clock.specs.Tests.{some_to}
use Rattle.mask.specs.Mask.{has, count_to, count, below, join, only, all, minus}
use Rattle.setup.specs.Setup.{bad_stations, bad_faults, bad_limits, bad_marks, gap, steps, spreads, plan_answer, bad_first, first_answer, setup_answer}
use Rattle.station.specs.Station.{still, complete, start, settle, gather, hear, sign, move, lands, passes, advance}
use Rattle.station.specs.Record.{bad_numbers, bad_signed, bad_gathered, bad_station, exceeds}
use Rattle.flight.specs.Message.{named, message_of, index_of, without, sent_to, some_of, late, twins}
use Rattle.event.specs.Event.{bad_increment, bad_advance, bad_ends, barred}
use Rattle.number.specs.Number.{ends, number_from, read_number}
use Rattle.script.specs.Read.{read_many, padded, plan_of, setup_from, read_setup, unread, as_setup, advance_from, event_from, read_event, none_read, as_event}
use Rattle.line.specs.Run.{sound, fresh_stations, fresh, others, sends, become, sign_at, hear_at, moved_all, moves, lands_at, sign_to}
use Rattle.line.specs.Record.{bad_faulty, bad_station_at, some_station, bad_content, bad_way, bad_round, bad_message, bad_record}
use Rattle.line.specs.Event.{take_out, effect, exceeds_at, drifts_at, passes_at, unsigned_at, unsigned, full, event_rules, step_answer, event_answer, step}
use Rattle.line.specs.Fresh.{begun}
use Rattle.text.specs.Text.{places_from, places, last_digits, decimal, spaced, round_of, rounds_to, event_end, line_with, event_line, told, setup_line, script_line}
use Rattle.rehearsal.specs.Opening.{opened, opening}
use Rattle.rehearsal.specs.Rehearsed.{lines_from, rehearsal}

-- the setup, then eight events
abbrev script : List ℕ
script = 3 ∷ 1 ∷ 0 ∷ 2 ∷ 2 ∷ 4 ∷ 7 ∷ 4 ∷ 4 ∷ 5 ∷ 0 ∷ 1 ∷ 2 ∷ 2 ∷ 2 ∷ 0 ∷ 1 ∷ 3 ∷ 3 ∷ 3 ∷ 0 ∷ 3 ∷ 2 ∷ 0 ∷ 1 ∷ 1 ∷ 3 ∷ 2 ∷ 1 ∷ 1 ∷ 4 ∷ 2 ∷ 1 ∷ 0 ∷ 1 ∷ 1 ∷ 1 ∷ 3 ∷ 3 ∷ 3 ∷ 0 ∷ 2 ∷ 1 ∷ 0 ∷ 1 ∷ 0 ∷ 1 ∷ 1 ∷ 1 ∷ 1 ∷ 0 ∷ []

-- `setup 0`
abbrev first_line : List ℕ
first_line = 115 ∷ 101 ∷ 116 ∷ 117 ∷ 112 ∷ 32 ∷ 48 ∷ 10 ∷ []

-- `1 0 2 0 0 -`
abbrev one_line : List ℕ
one_line = 49 ∷ 32 ∷ 48 ∷ 32 ∷ 50 ∷ 32 ∷ 48 ∷ 32 ∷ 48 ∷ 32 ∷ 45 ∷ 10 ∷ []

-- `2 14 2 0 0 -`
abbrev two_line : List ℕ
two_line = 50 ∷ 32 ∷ 49 ∷ 52 ∷ 32 ∷ 50 ∷ 32 ∷ 48 ∷ 32 ∷ 48 ∷ 32 ∷ 45 ∷ 10 ∷ []

-- `3 18 2 0 0 -`
abbrev three_line : List ℕ
three_line = 51 ∷ 32 ∷ 49 ∷ 56 ∷ 32 ∷ 50 ∷ 32 ∷ 48 ∷ 32 ∷ 48 ∷ 32 ∷ 45 ∷ 10 ∷ []

-- `4 0 2 0 1 -`
abbrev four_line : List ℕ
four_line = 52 ∷ 32 ∷ 48 ∷ 32 ∷ 50 ∷ 32 ∷ 48 ∷ 32 ∷ 49 ∷ 32 ∷ 45 ∷ 10 ∷ []

-- `5 0 2 1 1 -`
abbrev five_line : List ℕ
five_line = 53 ∷ 32 ∷ 48 ∷ 32 ∷ 50 ∷ 32 ∷ 49 ∷ 32 ∷ 49 ∷ 32 ∷ 45 ∷ 10 ∷ []

-- `6 15 2 1 1 -`
abbrev six_line : List ℕ
six_line = 54 ∷ 32 ∷ 49 ∷ 53 ∷ 32 ∷ 50 ∷ 32 ∷ 49 ∷ 32 ∷ 49 ∷ 32 ∷ 45 ∷ 10 ∷ []

-- `7 0 2 1 1 -`
abbrev seven_line : List ℕ
seven_line = 55 ∷ 32 ∷ 48 ∷ 32 ∷ 50 ∷ 32 ∷ 49 ∷ 32 ∷ 49 ∷ 32 ∷ 45 ∷ 10 ∷ []

-- `8 0 3 1 1 -`
abbrev eight_line : List ℕ
eight_line = 56 ∷ 32 ∷ 48 ∷ 32 ∷ 51 ∷ 32 ∷ 49 ∷ 32 ∷ 49 ∷ 32 ∷ 45 ∷ 10 ∷ []

-- what is printed of it
pub printed : rehearsal script
    ≡ first_line ++ one_line ++ two_line ++ three_line ++ four_line ++ five_line ++ six_line ++ seven_line ++ eight_line
unfolding keeps some_to has count_to count below join only all minus bad_stations bad_faults bad_limits bad_marks gap steps spreads plan_answer bad_first first_answer setup_answer still complete start settle gather hear sign move lands passes advance bad_numbers bad_signed bad_gathered bad_station exceeds named message_of index_of without sent_to some_of late twins bad_increment bad_advance bad_ends barred sound fresh_stations fresh others sends become sign_at hear_at moved_all moves lands_at sign_to bad_faulty bad_station_at bad_content bad_way bad_round bad_message bad_record take_out effect some_station exceeds_at drifts_at passes_at unsigned_at unsigned full event_rules step_answer event_answer step ends number_from read_number read_many padded plan_of setup_from read_setup unread as_setup advance_from event_from read_event none_read as_event places_from places last_digits decimal spaced round_of rounds_to event_end line_with event_line told setup_line script_line begun opened opening lines_from rehearsal
printed = refl
