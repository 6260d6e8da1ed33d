-- The values that document 01, "Values on each side", marks (p): one line each, by computation on the definitions.
use Rattle.std.specs.Prelude.{ℕ, [], ◌∷◌, ◌≡◌, refl, replicate}
use Rattle.number.specs.Number.{Refused}
use Rattle.number.specs.Number.{ends, number_from, read_number}
use Rattle.setup.specs.declared.Plan.{Plan}
use Rattle.setup.specs.Setup.{bad_stations, bad_faults, bad_limits, bad_marks, gap, steps, spreads, plan_answer, bad_first, first_answer, setup_answer}
use Rattle.clock.specs.Tests.{some_to}
use Rattle.mask.specs.Mask.{has, count_to, count, below, join, only, all, minus}
use Rattle.clock.specs.Drift.{keeps}
use Rattle.station.specs.Station.{still, complete, start, settle, gather, hear, sign, move, lands, passes, advance}
use Rattle.station.specs.Record.{bad_numbers, bad_signed, bad_gathered, bad_station, exceeds}
use Rattle.flight.specs.Message.{named, message_of, index_of, without, sent_to, some_of, late, twins}
use Rattle.event.specs.declared.Event.TheVariants.{Advance}
use Rattle.event.specs.Event.{bad_increment, bad_advance, bad_ends, barred}
use Rattle.line.specs.Run.{sound, fresh_stations, fresh, others, sends, become, sign_at, hear_at, moved_all, moves, lands_at, sign_to}
use Rattle.line.specs.Record.{bad_faulty, bad_station_at, some_station, bad_content, bad_way, bad_round, bad_message, bad_record}
use Rattle.line.specs.Event.{take_out, effect, exceeds_at, drifts_at, passes_at, unsigned_at, unsigned, full, event_rules, step_answer, event_answer, step}
use Rattle.line.specs.History.{told, sum_to, sent_between, taken, sent_in, delivered_in, seen}

-- the base with D, A and P left open: n 4, f 1, r 1, T 2,000, no faulty
abbrev plan : ℕ → ℕ → ℕ → Plan
plan d a p = record { stations = 4; faults = 1; drift = 1; bound = 2_000; spread = d; step = a; period = p; faulty = 0 }

-- what a plan of four stations is answered, each first reading x
abbrev answer : Plan → ℕ → ℕ
answer s x = setup_answer s (replicate 4 x)

-- what the base's fresh run answers to an advance by 10,000 in which station 0's increment is x, the others' 10,000
abbrev advanced : ℕ → ℕ
advanced x =
    event_answer (fresh (plan 2_201 4_202 1_000_000) (replicate 4 4_202)) (Advance 10_000) (x ∷ 10_000 ∷ 10_000 ∷ 10_000 ∷ [])

pub record Values : Type 0 where
  -- base 0; D 2,200 gives 7; A 4,201 gives 6; P 6,203 gives 0, P 6,202 gives 5
  pub base : answer (plan 2_201 4_202 1_000_000) 4_202 ≡ 0
  pub spread : answer (plan 2_200 4_202 1_000_000) 4_202 ≡ 7
  pub step : answer (plan 2_201 4_201 1_000_000) 4_202 ≡ 6
  pub gap-passed : answer (plan 2_201 4_202 6_203) 4_202 ≡ 0
  pub gap : answer (plan 2_201 4_202 6_202) 4_202 ≡ 5
  -- D 2,200 with A 4,200 gives 6, not 7
  pub step-first : answer (plan 2_200 4_200 1_000_000) 4_202 ≡ 6
  -- a first reading 6,202 gives 0; 6,203 gives 8
  pub last-first : setup_answer (plan 2_201 4_202 1_000_000) (4_202 ∷ 4_202 ∷ 4_202 ∷ 6_202 ∷ []) ≡ 0
  pub late-first : setup_answer (plan 2_201 4_202 1_000_000) (4_202 ∷ 4_202 ∷ 4_202 ∷ 6_203 ∷ []) ≡ 8
  -- n 2, f 1 gives 2
  pub faults : setup_answer
      (record { stations = 2; faults = 1; drift = 1; bound = 2_000; spread = 2_201; step = 4_202; period = 1_000_000; faulty = 0 })
      (4_202 ∷ 4_202 ∷ [])
      ≡ 2
  -- `80 00` gives 22; `80` alone gives 21
  pub longer : read_number (0x80 ∷ 0x00 ∷ []) 0 ≡ Refused 22
  pub cut : read_number (0x80 ∷ []) 0 ≡ Refused 21
  -- r 1, d 10,000: increments 10,000 and 10,001 pass; 9,999 and 10,002 give 13
  pub even : advanced 10_000 ≡ 0
  pub fast : advanced 10_001 ≡ 0
  pub slow-refused : advanced 9_999 ≡ 13
  pub fast-refused : advanced 10_002 ≡ 13

pub values : Values
unfolding read_number number_from ends setup_answer first_answer some_to bad_first plan_answer bad_stations bad_faults bad_limits bad_marks gap steps spreads has count_to count below keeps join only all minus still complete start settle gather hear sign move lands passes advance bad_numbers bad_signed bad_gathered bad_station exceeds named message_of index_of without sent_to some_of late twins bad_increment bad_advance bad_ends barred sound fresh_stations fresh others sends become sign_at hear_at moved_all moves lands_at sign_to bad_faulty bad_station_at bad_content bad_way bad_round bad_message bad_record take_out effect some_station exceeds_at drifts_at passes_at unsigned_at unsigned full event_rules step_answer event_answer step told sum_to sent_between taken sent_in delivered_in seen
values = record {
  base = refl;
  spread = refl;
  step = refl;
  gap-passed = refl;
  gap = refl;
  step-first = refl;
  last-first = refl;
  late-first = refl;
  faults = refl;
  longer = refl;
  cut = refl;
  even = refl;
  fast = refl;
  slow-refused = refl;
  fast-refused = refl;
}
