-- The run on the lent table is the run that goes by value: each event has the same answer and leaves the same time, messages and
-- stations, and every list of events follows document 01's model; so does a fresh run.
use Prim.Native.Nat.{ℕ, ◌*◌, ◌≤◌}
use Rattle.std.specs.Prelude.{Bool, ◌||◌, ◌≡◌}
use Rattle.std.proofs.Math.Bool.{true, false, not}
use mathlib.Core.List.{List, [], ◌∷◌}
use Rattle.std.proofs.Math.Path.{refl, ap, sym, subst}
use Rattle.std.proofs.Common.{◌∙◌, arith, eqb-true, eq-eqb}
use Rattle.std.proofs.Math.Dec.{eqb}
use Rattle.std.proofs.Math.ListN.{length}
use Rattle.std.proofs.lemmas.Bool.{eqb-false}
use Rattle.clock.specs.Limits.{max_flight}
use Rattle.clock.specs.Pick.{pick, refuse, or_else-first, or_else-rest, or_else-none}
use Rattle.clock.specs.Tests.{neither}
use Rattle.setup.specs.declared.Plan.{Plan}
use Rattle.setup.specs.Setup.{setup_answer}
use Rattle.setup.specs.Laws.{planned, accepted}
use Rattle.station.specs.declared.Station.{Station}
use Rattle.flight.specs.Message.{decode}
use Rattle.event.specs.declared.Event.{Event}
use Rattle.line.specs.declared.Line.{Line}
use Rattle.line.specs.Run.{Run, fresh_stations, fresh}
use Rattle.line.specs.Record.{bad_record}
use Rattle.line.specs.Event.{effect, step_answer, event_answer, step}
use Rattle.line.specs.Valid.{Valid}
use Rattle.line.proofs.Valid.{fresh-valid}
use Rattle.line.specs.History.{Entry}
use Rattle.line.specs.History.{played as played_run}
use Rattle.line.proofs.ValidSteps.{effect-valid, effect-plan}
use Rattle.line.specs.Held.{run_of, bad_line}
use Rattle.line.specs.Fresh.{no_stations, seated_to, fresh-run}
use Rattle.run.specs.Play.{Played}
use Rattle.run.specs.Play.{placed_to, holding, comes, comes_words, play_answer}
use Rattle.run.specs.Play as core
use Rattle.run.proofs.Follows.{placed-length, first-placed, play-answer, play-run, play-keeps, plays-all}
use Rattle.run.specs.Follows.{Kept, plays_all}
use Rattle.line.specs.declared.Rest.{Rest}
use Rattle.seating.specs.Seating.{Answered}
use Rattle.table.specs.Table.{table_run, bad_table, rest_of, table_answer, played, played_table, played_words, starting, fresh_answer, begun, begun_table}
use Rattle.seating.specs.Seating.{line_to, line_of, answered_of}
use Rattle.table.specs.Core.{begins}
use Rattle.table.specs.Same.{taken_back, placed_first, same-bad, table-held, table-long, table-few, held-run, OnTable, run_on, bad_on, goes_on, goes_on_all}

module _ (rest : Rest) (table : List Station) (words : List ℕ) where
  -- ---- what a run comes to, put back

  module _ (answer : ℕ) (r : Run) where
    -- refused, the table is as it was; accepted, it has the run's stations
    back : (b : Bool) → (b ≡ true → (length table ≡ rest.plan.stations) × (rest.plan.stations ≤ 12) × (length r.stations ≡ rest.plan.stations))
        → (answered_of (record { answer = answer; line = pick b (holding (line_of rest table) r) (line_of rest table) })
        ≡ record { answer = answer; rest = pick b (rest_of rest r) rest })
        × (placed_to table (pick {A = Line} b (holding (line_of rest table) r) (line_of rest table)).stations 12 ≡ pick b r.stations table)
    unfolding holding line_to rest_of
    back true h =
        let m = h refl in (
          refl,
          placed_first rest.plan.stations table (placed_to (placed_to no_stations table 12) r.stations rest.plan.stations) m.0 m.1
              ∙ first-placed rest.plan.stations rest.plan.stations (placed_to no_stations table 12) r.stations m.2 (omega arith)
              (omega (arith, placed-length no_stations table 12, m.1)),
        )
    back false h = (refl, taken_back table)

  -- ---- an event

  module _ (e : Event) (increments : List ℕ) where
    -- an accepted event leaves n stations
    leaves-long : bad_table rest table words ≡ false → step_answer (table_run rest table words) e increments ≡ 0
        → length (effect (table_run rest table words) e increments).stations ≡ rest.plan.stations
    unfolding table_run
    leaves-long ok z =
        let r : Run = table_run rest table words in
        let v : Valid r = subst Valid (held-run rest table words ok) (table-held rest table words ok).valid in
        (effect-valid r e increments v z).rules.long ∙ ap (λ (p : Plan). p.stations) (effect-plan r e increments v z)

    -- the answer, the table and the words are those of the event by value
    abbrev SameEvent : Type 0
    SameEvent = (answered_of (core.played (line_of rest table) words e increments) ≡ played rest table words e increments)
        × (placed_to table (core.played (line_of rest table) words e increments).line.stations 12 ≡ played_table rest table words e increments)
        × (core.played_words (line_of rest table) words e increments ≡ played_words rest table words e increments)

    event-bad : bad_table rest table words ≡ true → SameEvent
    unfolding comes comes_words play_answer table_answer played played_table played_words line_to
    event-bad z = rw (same-bad rest table words, z) (refl, taken_back table, refl)

    event-good : bad_table rest table words ≡ false → SameEvent
    unfolding comes comes_words play_answer table_answer played played_table played_words
    event-good ok =
        let answer : ℕ = step_answer (table_run rest table words) e increments in
        let m = back answer (effect (table_run rest table words) e increments) (eqb answer 0)
        (λ y. (table-long rest table words ok, table-few rest table words ok, leaves-long ok (eqb-true answer 0 y))) in
        rw (same-bad rest table words, ok, held-run rest table words ok) (m.0, m.1, refl)

    pub same-event : SameEvent
    same-event = go (bad_table rest table words) refl
      where
        go : (b : Bool) → bad_table rest table words ≡ b → SameEvent
        go true z = event-bad z
        go false z = event-good z

    -- so what is taken out, played and put back comes to that
    pub event-comes : (l : Line) (p : Played) {r : Answered} {zs : List Station} {ws : List ℕ} → l ≡ line_of rest table → p ≡ core.played l words e increments
        → ws ≡ core.played_words l words e increments → r ≡ answered_of p → zs ≡ placed_to table p.line.stations 12
        → (r ≡ played rest table words e increments) × (zs ≡ played_table rest table words e increments) × (ws ≡ played_words rest table words e increments)
    event-comes l p line-is play-is words-is r-is zs-is =
        let p-is : p ≡ core.played (line_of rest table) words e increments = play-is ∙ ap (λ (m : Line). core.played m words e increments) line-is in (
          r-is ∙ ap answered_of p-is ∙ same-event.0,
          zs-is ∙ ap (λ (x : Played). placed_to table x.line.stations 12) p-is ∙ same-event.1,
          words-is ∙ ap (λ (m : Line). core.played_words m words e increments) line-is ∙ same-event.2,
        )

-- ---- a fresh run

module _ (plan : Plan) (first : List ℕ) (table : List Station) where
  abbrev SameFresh : Type 0
  SameFresh = (answered_of (begins (line_of (starting plan) table) first) ≡ begun plan first table)
      × (placed_to table (begins (line_of (starting plan) table) first).line.stations 12 ≡ begun_table plan first table)

  -- the stations of the fresh run
  fresh-back : setup_answer plan first ≡ 0 → length table ≡ plan.stations → placed_to table (seated_to first plan.stations) 12 ≡ fresh_stations first
  unfolding run_of fresh
  fresh-back z e =
      placed_first plan.stations table (seated_to first plan.stations) e (planned plan (accepted plan first z).0).stations.1
      ∙ ap (λ (r : Run). r.stations) (fresh-run plan first [] z)

  -- 1 to 8 first, then the table's length
  fresh-first : (setup_answer plan first ≡ 0 → ⊥) → fresh_answer plan first table ≡ setup_answer plan first
  unfolding fresh_answer
  fresh-first z = or_else-first (setup_answer plan first) (refuse (not (eqb (length table) plan.stations)) 10 0) z

  fresh-then : setup_answer plan first ≡ 0 → fresh_answer plan first table ≡ refuse (not (eqb (length table) plan.stations)) 10 0
  unfolding fresh_answer
  fresh-then z = or_else-rest (setup_answer plan first) (refuse (not (eqb (length table) plan.stations)) 10 0) z

  -- 1 to 8
  fresh-no : eqb (setup_answer plan first) 0 ≡ false → SameFresh
  unfolding begins begun begun_table line_to
  fresh-no z = rw (fresh-first (eqb-false _ 0 z), z) (refl, taken_back table)

  module _ (z : eqb (setup_answer plan first) 0 ≡ true) where
    -- 10
    fresh-ten : eqb (length table) plan.stations ≡ false → SameFresh
    unfolding begins begun begun_table line_to
    fresh-ten y = rw (z, fresh-then (eqb-true _ 0 z), y) (refl, taken_back table)

    fresh-yes : eqb (length table) plan.stations ≡ true → SameFresh
    unfolding begins begun begun_table line_to
    fresh-yes y = rw (z, fresh-then (eqb-true _ 0 z), y) (refl, fresh-back (eqb-true _ 0 z) (eqb-true _ _ y))

  pub same-fresh : SameFresh
  same-fresh = go (eqb (setup_answer plan first) 0) (eqb (length table) plan.stations) refl refl
    where
      go : (b c : Bool) → eqb (setup_answer plan first) 0 ≡ b → eqb (length table) plan.stations ≡ c → SameFresh
      go false c z y = fresh-no z
      go true false z y = fresh-ten z y
      go true true z y = fresh-yes z y

  pub fresh-comes : (l : Line) (p : Played) {r : Answered} {zs : List Station} → l ≡ line_of (starting plan) table → p ≡ begins l first → r ≡ answered_of p
      → zs ≡ placed_to table p.line.stations 12 → (r ≡ begun plan first table) × (zs ≡ begun_table plan first table)
  fresh-comes l p line-is begins-is r-is zs-is =
      let p-is : p ≡ begins (line_of (starting plan) table) first = begins-is ∙ ap (λ (m : Line). begins m first) line-is in
      (r-is ∙ ap answered_of p-is ∙ same-fresh.0, zs-is ∙ ap (λ (x : Played). placed_to table x.line.stations 12) p-is ∙ same-fresh.1)

-- ---- a list of events

-- a record's stations in a table of n are its run
line-run : (table : List Station) (p : Line) (words : List ℕ) → length table ≡ p.plan.stations → p.plan.stations ≤ 12
    → run_of p words ≡ table_run (record { plan = p.plan; time = p.time; count = p.count }) (placed_to table p.stations 12) words
unfolding table_run run_of
line-run table p words e h =
    ap (λ (l : List Station). record { plan = p.plan; time = p.time.0; stations = l; flight = decode p.count words })
    (sym (placed_first p.plan.stations table p.stations e h))

-- an event leaves the plan
played-plan : (l : Line) (words : List ℕ) (e : Event) (increments : List ℕ) → (core.played l words e increments).line.plan ≡ l.plan
unfolding comes holding
played-plan l words e increments = go (eqb (play_answer l words e increments) 0)
  where
    go : (b : Bool) → (pick {A = Line} b (holding l (effect (run_of l words) e increments)) l).plan ≡ l.plan
    go true = refl
    go false = refl

module _ (o : OnTable) (e : Entry) (ok : bad_on o ≡ false) where
  -- the event by value
  abbrev l : Line
  l = line_of o.rest o.table

  abbrev p : Line
  p = (core.played l o.words e.event e.increments).line

  abbrev after : List ℕ
  after = core.played_words l o.words e.event e.increments

  good : bad_line l o.words ≡ false
  good = same-bad o.rest o.table o.words ∙ ok

  twelve : length l.stations ≡ 12
  unfolding line_to
  twelve = placed-length no_stations o.table 12

  same : SameEvent o.rest o.table o.words e.event e.increments
  same = same-event o.rest o.table o.words e.event e.increments

  -- the answer is the model's
  pub table-answer : (played o.rest o.table o.words e.event e.increments).answer ≡ event_answer (run_on o) e.event e.increments
  table-answer =
      sym (ap (λ (a : Answered). a.answer) same.0) ∙ play-answer l o.words e.event e.increments good
      ∙ ap (λ (r : Run). event_answer r e.event e.increments) (held-run o.rest o.table o.words ok)

  -- the run by value is the run on the table
  after_run : run_of p after ≡ run_on (goes_on o e)
  unfolding line_to
  after_run =
      let q : p.plan.stations ≡ o.rest.plan.stations = ap (λ (x : Plan). x.stations) (played-plan l o.words e.event e.increments) in
      line-run o.table p after (table-long o.rest o.table o.words ok ∙ sym q) (omega (arith, table-few o.rest o.table o.words ok))
      ∙ (λ i. table_run (same.0 i).rest (same.1 i) (same.2 i))

  pub table-run : run_on (goes_on o e) ≡ step (run_on o) e.event e.increments
  table-run =
      sym after_run ∙ play-run l o.words e.event e.increments good twelve
      ∙ ap (λ (r : Run). step r e.event e.increments) (held-run o.rest o.table o.words ok)

  pub table-keeps : bad_on (goes_on o e) ≡ false
  unfolding bad_line bad_table
  table-keeps =
      let a = neither (not (eqb p.length p.plan.stations) || not (eqb (length after) (3 * max_flight))) (bad_record (run_of p after)) (play-keeps l o.words e.event e.increments good twelve).0 in
      let room = (neither (not (eqb p.length p.plan.stations)) (not (eqb (length after) (3 * max_flight))) a.0).1 in
      let words-is : not (eqb (length (goes_on o e).words) (3 * max_flight)) ≡ false = ap (λ (w : List ℕ). not (eqb (length w) (3 * max_flight))) (sym same.2) ∙ room in
      let run_is : bad_record (run_on (goes_on o e)) ≡ false = ap bad_record (sym after_run) ∙ a.1 in
      rw (words-is, run_is) refl

-- from a valid table on, the run on it is the model's after every list of events, and the table stays valid
pub table-follows : (o : OnTable) (es : List Entry) → bad_on o ≡ false → (run_on (goes_on_all o es) ≡ played_run (run_on o) es) × (bad_on (goes_on_all o es) ≡ false)
unfolding goes_on_all played_run
table-follows o [] ok = (refl, ok)
table-follows o (e ∷ es) ok =
    let rest = table-follows (goes_on o e) es (table-keeps o e ok) in
    (rest.0 ∙ ap (λ (r : Run). played_run r es) (table-run o e ok), rest.1)

-- a record by value and a table that hold the same run hold the same run after every list of events
pub same-events : (k : Kept) (o : OnTable) (es : List Entry) → bad_line k.line k.words ≡ false → length k.line.stations ≡ 12 → bad_on o ≡ false
    → run_of k.line k.words ≡ run_on o → run_of (plays_all k es).line (plays_all k es).words ≡ run_on (goes_on_all o es)
same-events k o es good twelve ok e =
    (plays-all k es good twelve).0 ∙ ap (λ (r : Run). played_run r es) e ∙ sym (table-follows o es ok).0

-- and answer each event alike
pub same-answers : (k : Kept) (o : OnTable) (e : Entry) → bad_line k.line k.words ≡ false → bad_on o ≡ false → run_of k.line k.words ≡ run_on o
    → (core.played k.line k.words e.event e.increments).answer ≡ (played o.rest o.table o.words e.event e.increments).answer
same-answers k o e good ok same =
    play-answer k.line k.words e.event e.increments good ∙ ap (λ (r : Run). event_answer r e.event e.increments) same ∙ sym (table-answer o e ok)

-- so it is from a fresh run on a table of n stations
module _ (plan : Plan) (first words : List ℕ) (table : List Station) (z : (begun plan first table).answer ≡ 0) where
  abbrev fresh-table : OnTable
  fresh-table = record { rest = (begun plan first table).rest; table = begun_table plan first table; words = words }

  fresh-is : run_on fresh-table ≡ fresh plan first
  unfolding begun begun_table table_run fresh decode
  fresh-is = rw (eq-eqb (fresh_answer plan first table) 0 z) refl

  fresh-good : length words ≡ 3 * max_flight → bad_on fresh-table ≡ false
  unfolding begun fresh_answer bad_table
  fresh-good room =
      let setup : setup_answer plan first ≡ 0 = (or_else-none (setup_answer plan first) _ z).0 in
      let run_is : bad_record (run_on fresh-table) ≡ false = ap bad_record fresh-is ∙ fresh-valid plan first setup in
      rw (eq-eqb (length words) (3 * max_flight) room, run_is) refl

  pub fresh-follows : (es : List Entry) → length words ≡ 3 * max_flight → run_on (goes_on_all fresh-table es) ≡ played_run (fresh plan first) es
  fresh-follows es room = (table-follows fresh-table es (fresh-good room)).0 ∙ ap (λ (r : Run). played_run r es) fresh-is
