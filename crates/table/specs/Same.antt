-- The run on the lent table is the run that goes by value: its record holds the same run, and a question is answered alike. What a
-- table comes to after a list of events is said here; that each event and a fresh run are the same on it stands in
-- `proofs/Same.antt`.
use Prim.Native.Nat.{ℕ, zero, suc, ◌*◌, ◌<◌, ◌≤◌}
use Rattle.std.specs.Prelude.{Bool, ◌||◌, ◌≡◌, get_or, set}
use Rattle.std.proofs.Math.Bool.{true, false, not}
use mathlib.Core.List.{List, [], ◌∷◌}
use Rattle.std.proofs.Math.Path.{refl, ap, sym}
use Rattle.std.proofs.Common.{◌∙◌, arith, ext_get_or, eqb-true, ne_eqb, leb-true, leb-false}
use Rattle.std.proofs.Math.Decide.{dec_lt}
use Rattle.std.proofs.Math.Dec.{eqb, leb}
use Rattle.std.proofs.Math.ListN.{length}
use Rattle.std.proofs.Math.Seq.{set_out}
use Rattle.std.proofs.lemmas.List.{set-get_or}
use Rattle.clock.specs.Limits.{max_flight}
use Rattle.clock.specs.Pick.{pick, refuse}
use Rattle.clock.specs.Time.{lead_of}
use Rattle.setup.specs.Setup.{plan_answer}
use Rattle.setup.specs.Laws.{planned}
use Rattle.station.specs.declared.Station.{Station}
use Rattle.flight.specs.Message.{decode}
use Rattle.line.specs.Run.{Run, sound, no_station, station_at}
use Rattle.line.specs.Record.{bad_record}
use Rattle.line.specs.History.{Entry}
use Rattle.line.specs.Held.{first_of, run_of, bad_line}
use Rattle.line.specs.HeldLaws.{first-length, place-some}
use Rattle.line.specs.Question.{Shown, Led, InFlight}
use Rattle.line.specs.Question.{show_answer, shown, lead_answer, led, in_flight, shown-yes, led-yes}
use Rattle.line.specs.Fresh.{no_stations}
use Rattle.run.specs.Play.{placed_to}
use Rattle.run.specs.Limits.{Held, held-is}
use Rattle.run.proofs.Follows.{placed-length, placed_at, first-placed}
use Rattle.line.specs.declared.Rest.{Rest}
use Rattle.table.specs.declared.Question.{Question}
use Rattle.table.specs.declared.Question.TheVariants as asks
use Rattle.table.specs.Core as tells
use Rattle.table.specs.Table.{table_run, bad_table, played, played_table, played_words, question_answer}
use Rattle.seating.specs.Seating.{line_to, line_of}
use Rattle.table.specs.Core.{picked, told, number_of}

-- ---- putting back

-- what was taken out and is put back changes nothing
pub placed_same : (table stations : List Station) (k : ℕ)
    → ((i : ℕ) → i < k → i < length table → get_or stations i no_station ≡ get_or table i no_station) → placed_to table stations k ≡ table
unfolding placed_to
placed_same table stations zero h = refl
placed_same table stations (suc k) h =
    ap (λ (t : List Station). set t k (get_or stations k no_station)) (placed_same table stations k (λ i l m. h i (omega arith) m))
    ∙ elim (dec_lt k (length table)) [
      | yes b ↦ ap (set table k) (h k (omega arith) b) ∙ set-get_or table k no_station
      | no b ↦ set_out table k (get_or stations k no_station) (omega arith)
    ]

pub taken_back : (table : List Station) → placed_to table (placed_to no_stations table 12) 12 ≡ table
taken_back table = placed_same table (placed_to no_stations table 12) 12 (λ i l m. placed_at no_stations table 12 i l l)

-- a table of n takes the first n
pub placed_first : (n : ℕ) (table stations : List Station) → length table ≡ n → n ≤ 12 → placed_to table stations 12 ≡ first_of n stations
placed_first n table stations e h =
    ext_get_or no_station (placed_to table stations 12) (first_of n stations) (placed-length table stations 12 ∙ e ∙ sym (first-length n stations))
    (λ i b.
    let l : i < n = omega (arith, placed-length table stations 12) in
    placed_at table stations 12 i (omega arith) (omega arith) ∙ place-some n stations i l)

-- ---- 10

or-true : (b : Bool) → (b || true) ≡ true
or-true true = refl
or-true false = refl

bad-plan : (r : Run) → eqb (plan_answer r.plan) 0 ≡ false → bad_record r ≡ true
unfolding bad_record
bad-plan r e = rw e refl

bad-length : (r : Run) → eqb (length r.stations) r.plan.stations ≡ false → bad_record r ≡ true
unfolding bad_record
bad-length r e = rw (e, or-true) refl

-- a line of more than twelve stations breaks rule 1
crowded : (r : Run) → leb r.plan.stations 12 ≡ false → bad_record r ≡ true
crowded r e = bad-plan r (ne_eqb (plan_answer r.plan) 0 (λ z. omega (arith, (planned r.plan z).stations.1, leb-false r.plan.stations 12 e)))

module _ (rest : Rest) (table : List Station) (words : List ℕ) where
  -- a table of n stations, at most twelve, is what the record holds
  pub same-run : length table ≡ rest.plan.stations → rest.plan.stations ≤ 12 → run_of (line_of rest table) words ≡ table_run rest table words
  unfolding run_of table_run line_to
  same-run e h =
      ap (λ (l : List Station). record { plan = rest.plan; time = rest.time.0; stations = l; flight = decode rest.count words })
      (first-placed rest.plan.stations 12 no_stations table e h (omega arith))

  -- and 10 asks the same of both
  pub same-bad : bad_line (line_of rest table) words ≡ bad_table rest table words
  unfolding bad_line bad_table line_to table_run run_of
  same-bad = go (eqb (length table) rest.plan.stations) (leb rest.plan.stations 12) refl refl
    where
      go : (b c : Bool) → eqb (length table) rest.plan.stations ≡ b → leb rest.plan.stations 12 ≡ c
          → (not (eqb (length table) rest.plan.stations) || not (eqb (length words) (3 * max_flight)) || bad_record (run_of (line_of rest table) words))
          ≡ (not (eqb (length words) (3 * max_flight)) || bad_record (table_run rest table words))
      go false c z y = rw (z, bad-length (table_run rest table words) z, or-true) refl
      go true true z y = rw (z, same-run (eqb-true _ _ z) (leb-true _ _ y)) refl
      go true false z y = rw (z, crowded (run_of (line_of rest table) words) y, crowded (table_run rest table words) y) refl

  -- where it refuses nothing the record is valid, and holds the run on the table
  pub table-held : bad_table rest table words ≡ false → Held (line_of rest table) words
  table-held ok = held-is (line_of rest table) words (same-bad ∙ ok)

  module _ (ok : bad_table rest table words ≡ false) where
    pub table-long : length table ≡ rest.plan.stations
    unfolding line_to
    table-long = (table-held ok).long

    pub table-few : rest.plan.stations ≤ 12
    unfolding run_of line_to
    table-few = (table-held ok).valid.rules.plan.stations.1

    pub held-run : run_of (line_of rest table) words ≡ table_run rest table words
    held-run = same-run table-long table-few

  -- ---- a question

  -- its number is what the table's own stations give
  asks-shown : (i : ℕ) → show_answer (line_of rest table) words i ≡ question_answer rest table words (asks.Reading i)
  unfolding show_answer question_answer line_to
  asks-shown i = ap (λ (b : Bool). refuse b 10 (refuse (not (sound rest.plan i)) 31 0)) same-bad

  asks-led : (of over : ℕ) → lead_answer (line_of rest table) words of over ≡ question_answer rest table words (asks.Lead of over)
  unfolding lead_answer question_answer table_run line_to
  asks-led of over = go (bad_table rest table words) refl
    where
      go : (b : Bool) → bad_table rest table words ≡ b → lead_answer (line_of rest table) words of over ≡ question_answer rest table words (asks.Lead of over)
      go true z = rw (same-bad, z) refl
      go false z = rw (same-bad, z, held-run z) refl

  asks-flight : number_of (told (line_of rest table) words asks.InFlight) ≡ question_answer rest table words asks.InFlight
  unfolding told in_flight question_answer
  asks-flight = rw same-bad (go (bad_table rest table words))
    where
      go : (b : Bool) → (pick {A = InFlight} b (record { answer = 10; count = 0 }) (record { answer = 0; count = length (run_of (line_of rest table) words).flight })).answer ≡ refuse b 10 0
      go true = refl
      go false = refl

  pub same-question : (q : Question) → number_of (told (line_of rest table) words q) ≡ question_answer rest table words q
  unfolding told shown led
  same-question (asks.Reading i) = picked (show_answer (line_of rest table) words i) (λ (x : Shown). x.answer) _ _ refl refl ∙ asks-shown i
  same-question (asks.Lead of over) = picked (lead_answer (line_of rest table) words of over) (λ (x : Led). x.answer) _ _ refl refl ∙ asks-led of over
  same-question asks.InFlight = asks-flight

  -- and where it refuses nothing, the values are theirs
  module _ (ok : bad_table rest table words ≡ false) where
    -- station i of the record is the table's
    station-is : (i : ℕ) → get_or table i no_station ≡ station_at (run_of (line_of rest table) words) i
    unfolding table_run
    station-is i = ap (λ (r : Run). station_at r i) (sym (held-run ok))

    pub shows-station : (i : ℕ) → question_answer rest table words (asks.Reading i) ≡ 0
        → told (line_of rest table) words (asks.Reading i)
        ≡ tells.Shown_to (record { answer = 0; reading = (get_or table i no_station).reading; round = (get_or table i no_station).round })
    unfolding told
    shows-station i z = ap tells.Shown_to (sym (shown-yes (line_of rest table) words i (get_or table i no_station) (asks-shown i ∙ z) (station-is i)))

    pub shows-lead : (of over : ℕ) → question_answer rest table words (asks.Lead of over) ≡ 0
        → told (line_of rest table) words (asks.Lead of over)
        ≡ tells.Led_to (record { answer = 0; lead = lead_of (get_or table of no_station).reading.0 (get_or table over no_station).reading.0 })
    unfolding told
    shows-lead of over z =
        ap tells.Led_to (sym (led-yes (line_of rest table) words of over (get_or table of no_station) (get_or table over no_station) _ (asks-led of over ∙ z) (station-is of) (station-is over) refl))

-- ---- a list of events

-- what a run on a table is made of
pub record OnTable : Type 0 where
  pub rest : Rest
  pub table : List Station
  pub words : List ℕ

abbrev pub run_on : OnTable → Run
run_on o = table_run o.rest o.table o.words

abbrev pub bad_on : OnTable → Bool
bad_on o = bad_table o.rest o.table o.words

-- after an event, and after each of a list in order
abbrev pub goes_on : OnTable → Entry → OnTable
goes_on o e = record {
  rest = (played o.rest o.table o.words e.event e.increments).rest;
  table = played_table o.rest o.table o.words e.event e.increments;
  words = played_words o.rest o.table o.words e.event e.increments;
}

unfoldable pub goes_on_all : OnTable → List Entry → OnTable
goes_on_all o [] = o
goes_on_all o (e ∷ es) = goes_on_all (goes_on o e) es
