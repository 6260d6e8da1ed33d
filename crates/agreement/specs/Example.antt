-- Demand 3 is about something: computed on the definitions, a list of events drives two sound stations of document 01's base
-- 2,198 apart in one round, where D is 2,201, and keeps one of them waiting for a round that another has started for all of T.
use Rattle.std.specs.Prelude.{ℕ, ◌+◌, List, [], ◌∷◌, ◌++◌, ◌≡◌, refl, replicate}
use Rattle.clock.specs.Drift.{keeps}
use Rattle.clock.specs.Tests.{some_to}
use Rattle.mask.specs.Mask.{has, count_to, count, below, join, only, all, minus}
use Rattle.setup.specs.declared.Plan.{Plan}
use Rattle.setup.specs.Setup.{bad_stations, bad_faults, bad_limits, bad_marks, gap, steps, spreads, plan_answer, bad_first, first_answer, setup_answer}
use Rattle.station.specs.declared.Station.{Station}
use Rattle.station.specs.Station.{still, complete, start, settle, gather, hear, sign, move, lands, passes, advance}
use Rattle.station.specs.Record.{bad_numbers, bad_signed, bad_gathered, bad_station, exceeds}
use Rattle.flight.specs.Message.{named, message_of, index_of, without, sent_to, some_of, late, twins}
use Rattle.event.specs.declared.Event.{Event}
use Rattle.event.specs.declared.Event.TheVariants.{Advance, Deliver, Send}
use Rattle.event.specs.Event.{bad_increment, bad_advance, bad_ends, barred}
use Rattle.line.specs.Run.{Run, station_at, sound, fresh_stations, fresh, others, sends, become, sign_at, hear_at, moved_all, moves, lands_at, sign_to}
use Rattle.line.specs.Record.{bad_faulty, bad_station_at, some_station, bad_content, bad_way, bad_round, bad_message, bad_record}
use Rattle.line.specs.Event.{take_out, effect, exceeds_at, drifts_at, passes_at, unsigned_at, unsigned, full, event_rules, step_answer, event_answer, step}
use Rattle.line.specs.History.{Entry, played}
use Rattle.agreement.specs.Statement.{after}

-- ---- events and what they leave

-- advance by d, with one increment per station
abbrev advance-by : ℕ → List ℕ → Entry
advance-by d increments = record { event = Advance d; increments = increments }

-- a deliver or a faulty send
abbrev message : Event → Entry
message e = record { event = e; increments = [] }

-- the answer to each event, met by the run that the ones before it left
abbrev pub answers : Run → List Entry → List ℕ
answers r [] = []
answers r (e ∷ es) = event_answer r e.event e.increments ∷ answers (step r e.event e.increments) es

-- what a run shows at a moment: the real time, and each station's round and reading
pub record Seen : Type 0 where
  pub time : ℕ
  pub rounds : List ℕ
  pub readings : List ℕ

-- each station's round
abbrev rounds_of : List Station → List ℕ
rounds_of [] = []
rounds_of (s ∷ ss) = s.round ∷ rounds_of ss

-- each station's reading
abbrev readings_of : List Station → List ℕ
readings_of [] = []
readings_of (s ∷ ss) = s.reading.0 ∷ readings_of ss

-- what the run shows
abbrev seen : Run → Seen
seen r = record { time = r.time; rounds = rounds_of r.stations; readings = readings_of r.stations }

-- real time t, stations 0, 1 and 2 in rounds i, j and k with readings x, y and z; station 3 is faulty, its fields are zero
abbrev moment : ℕ → ℕ → ℕ → ℕ → ℕ → ℕ → ℕ → Seen
moment t i j k x y z = record { time = t; rounds = i ∷ j ∷ k ∷ 0 ∷ []; readings = x ∷ y ∷ z ∷ 0 ∷ [] }

-- ---- the base, station 3 faulty

-- n 4, f 1, r 1, T 2,000, D 2,201, A 4,202, P 1,000,000, station 3 faulty
abbrev pub plan : Plan
plan = record { stations = 4; faults = 1; drift = 1; bound = 2_000; spread = 2_201; step = 4_202; period = 1_000_000; faulty = 8 }

-- station 0 begins at A + T, stations 1 and 2 at A
abbrev pub first : List ℕ
first = 6_202 ∷ 4_202 ∷ 4_202 ∷ 0 ∷ []

-- how round k comes about: station 0's clock is as fast as the drift rule allows and the others' as slow, until station 0
-- lands on its mark and signs; the faulty station at once adds its own signature, so that station 0 starts alone; its
-- readies are delivered at once, its relays at the last moment, T later; the relays of stations 1 and 2 are delivered too
abbrev pub events_of : ℕ → List Entry
events_of k =
    advance-by 993_699 (993_798 ∷ 993_600 ∷ 993_600 ∷ 0 ∷ [])
    ∷ message (Send 3 0 k 8)
    ∷ message (Deliver 0 1 k 0)
    ∷ message (Deliver 0 2 k 0)
    ∷ advance-by 2_000 (2_000 ∷ 2_000 ∷ 2_000 ∷ 0 ∷ [])
    ∷ message (Deliver 0 1 k 1)
    ∷ message (Deliver 0 2 k 1)
    ∷ message (Deliver 1 0 k 1)
    ∷ message (Deliver 1 2 k 1)
    ∷ message (Deliver 2 0 k 1)
    ∷ message (Deliver 2 1 k 1)
    ∷ []

-- rounds 1 and 2
abbrev pub events : List Entry
events = events_of 1 ++ events_of 2

-- the run that the first i events leave
abbrev pub run : ℕ → Run
run i = after plan first events i

-- what the events of rounds 1 and 2 reach
pub record Base : Type 0 where
  -- the setup is answered 0
  pub setup : setup_answer plan first ≡ 0
  -- each of the 22 events is answered 0
  pub accepted : answers (fresh plan first) events ≡ replicate 22 0
  -- after 11 events all three sound stations have started round 1, after 22 events round 2
  pub round-1 : seen (run 11) ≡ moment 995_699 1 1 1 1_006_202 1_004_202 1_004_202
  pub round-2 : seen (run 22) ≡ moment 1_991_398 2 2 2 2_006_202 2_004_202 2_004_202
  -- spread: after 12 events all three are in round 1, and station 0 reads 2,198 more than station 1: T from the start, then
  -- 99 that it gained, one over each whole 10,000, and 99 that the other lost, one over each whole 10,001
  pub apart : seen (run 12) ≡ moment 1_989_398 1 1 1 2_000_000 1_997_802 1_997_802
  pub lead : (station_at (run 12) 0).reading.0 ≡ (station_at (run 12) 1).reading.0 + 2_198
  -- catch-up: with event 13 station 0 starts round 2, and after event 16, exactly T later, the others are still in round 1
  pub started : seen (run 13) ≡ moment 1_989_398 2 1 1 2_004_202 1_997_802 1_997_802
  pub waiting : seen (run 16) ≡ moment 1_991_398 2 1 1 2_006_202 1_999_802 1_999_802
  pub last-moment : (run 16).time ≡ (run 13).time + plan.bound

-- ---- with drift 0, where D is T, the spread itself is met

-- n 4, f 1, r 0, T 2,000, D 2,000, A 4,000, P 1,000,000, station 3 faulty
abbrev pub steady : Plan
steady = record { stations = 4; faults = 1; drift = 0; bound = 2_000; spread = 2_000; step = 4_000; period = 1_000_000; faulty = 8 }

-- station 0 begins at A + T, stations 1 and 2 at A
abbrev pub steady-first : List ℕ
steady-first = 6_000 ∷ 4_000 ∷ 4_000 ∷ 0 ∷ []

-- station 0 lands on its mark and starts round 1 with the faulty station's signature; T later the others land on theirs, and
-- then its relay to station 1 is delivered
abbrev pub steady-events : List Entry
steady-events =
    advance-by 994_000 (994_000 ∷ 994_000 ∷ 994_000 ∷ 0 ∷ [])
    ∷ message (Send 3 0 1 8)
    ∷ advance-by 2_000 (2_000 ∷ 2_000 ∷ 2_000 ∷ 0 ∷ [])
    ∷ message (Deliver 0 1 1 1)
    ∷ []

-- the run that the first i of them leave
abbrev pub steady-run : ℕ → Run
steady-run i = after steady steady-first steady-events i

-- what these four events reach
pub record Steady : Type 0 where
  -- the setup is answered 0
  pub setup : setup_answer steady steady-first ≡ 0
  -- each of the 4 events is answered 0
  pub accepted : answers (fresh steady steady-first) steady-events ≡ replicate 4 0
  -- catch-up: with event 2 station 0 starts round 1, and after event 3, exactly T later, the others are still in round 0
  pub started : seen (steady-run 2) ≡ moment 994_000 1 0 0 1_004_000 998_000 998_000
  pub waiting : seen (steady-run 3) ≡ moment 996_000 1 0 0 1_006_000 1_000_000 1_000_000
  -- spread: after 4 events stations 0 and 1 are in round 1, and station 0 reads D more
  pub apart : seen (steady-run 4) ≡ moment 996_000 1 1 0 1_006_000 1_004_000 1_000_000
  pub lead : (station_at (steady-run 4) 0).reading.0 ≡ (station_at (steady-run 4) 1).reading.0 + steady.spread

-- ---- both reach what they say

pub reached : Base × Steady
unfolding keeps some_to has count_to count below join only all minus bad_stations bad_faults bad_limits bad_marks gap steps spreads plan_answer bad_first first_answer setup_answer still complete start settle gather hear sign move lands passes advance bad_numbers bad_signed bad_gathered bad_station exceeds named message_of index_of without sent_to some_of late twins bad_increment bad_advance bad_ends barred sound fresh_stations fresh others sends become sign_at hear_at moved_all moves lands_at sign_to bad_faulty bad_station_at bad_content bad_way bad_round bad_message bad_record take_out effect some_station exceeds_at drifts_at passes_at unsigned_at unsigned full event_rules step_answer event_answer step played after
reached = (
  record {
    setup = refl;
    accepted = refl;
    round-1 = refl;
    round-2 = refl;
    apart = refl;
    lead = refl;
    started = refl;
    waiting = refl;
    last-moment = refl;
  },
  record {
    setup = refl;
    accepted = refl;
    started = refl;
    waiting = refl;
    apart = refl;
    lead = refl;
  },
)
