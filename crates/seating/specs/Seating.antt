-- Stations in a table: what one of them does as station i of so many, and the table then; and the run by value into which all of
-- them are taken, and from which they are put back.
use Rattle.std.specs.Prelude.{ℕ, Result, Ok, Err, ◌+◌, ◌<◌, ◌≤◌, Bool, not, List, ◌≡◌, eqb, leb, length, get_or, set}
use Rattle.std.proofs.Math.Bool.{true, false}
use Rattle.std.proofs.Math.Path.{refl}
use Rattle.std.proofs.Common.{ap, ◌∙◌, add-one}
use Rattle.std.proofs.lemmas.List.{set-get_or}
use borrow.Author.Tests.{eq-eqb, ne_eqb, le-leb, lt-leb}
use Rattle.clock.specs.Pick.{pick}
use Rattle.refusal.specs.declared.Refusal.{Refusal}
use Rattle.refusal.specs.Refusal.{number}
use Rattle.setup.specs.declared.Plan.{Plan}
use Rattle.station.specs.declared.Station.{Station}
use Rattle.station.specs.declared.Outcome.{Outcome}
use Rattle.station.specs.Station.{still, hear, advance}
use Rattle.station.specs.Record.{Board, answered, hear_answer, advance_answer}
use Rattle.line.specs.declared.Line.{Line}
use Rattle.line.specs.Held.{rest_of}
use Rattle.line.specs.Run.{no_station}
use Rattle.line.specs.Fresh.{no_stations}
use Rattle.run.specs.Play.{Played, placed_to}
use Rattle.line.specs.declared.Rest.{Rest}
use Rattle.seating.specs.declared.Act.{Act}
use Rattle.seating.specs.declared.Act.TheVariants.{Hear, Advance}

-- ---- one station

-- refused, it is as it was
abbrev pub refused : ℕ → Station → Board
refused answer s = record { answer = answer; outcome = still s }

-- what a board does
unfoldable pub does : Plan → ℕ → Act → Station → Board
does plan i (Hear round signers) s = answered (hear_answer plan round signers s) s (hear plan round signers s)
does plan i (Advance by) s = answered (advance_answer plan i by s) s (advance plan i by s)

-- as station i of so many: 10 where there are not n of them, 11 where it is at n or above
unfoldable pub done : Plan → ℕ → ℕ → Act → Station → Board
done plan many i act s =
    pick (not (eqb many plan.stations)) (refused 10 s) (pick (leb plan.stations i) (refused 11 s) (does plan i act s))

-- as station i of the table, and the table then
unfoldable pub stepped : Plan → List Station → ℕ → Act → Board
stepped plan table i act = done plan (length table) i act (get_or table i no_station)

unfoldable pub stepped_table : Plan → List Station → ℕ → Act → List Station
stepped_table plan table i act = set table i (stepped plan table i act).outcome.station

-- ---- all of them

-- the record of a run with these stations in its places, taken from a table of so many
abbrev pub seated_in : Rest → ℕ → List Station → Line
seated_in rest many stations = record {
  plan = rest.plan;
  time = rest.time;
  length = many;
  stations = stations;
  count = rest.count;
}

abbrev pub with_station : Line → ℕ → Station → Line
with_station l i s = record {
  plan = l.plan;
  time = l.time;
  length = l.length;
  stations = set l.stations i s;
  count = l.count;
}

-- the first k stations of the table are taken out
unfoldable pub line_to : Rest → List Station → ℕ → Line
line_to rest table k = seated_in rest (length table) (placed_to no_stations table k)

abbrev pub line_of : Rest → List Station → Line
line_of rest table = line_to rest table 12

pub line-none : (rest : Rest) (table : List Station) → seated_in rest (length table) no_stations ≡ line_to rest table 0
unfolding line_to placed_to
line-none rest table = refl

pub line-more : (rest : Rest) (table : List Station) (k : ℕ) → with_station (line_to rest table k) k (get_or table k no_station) ≡ line_to rest table (k + 1)
unfolding line_to placed_to
line-more rest table k = rw add-one refl

-- one station more is put back
pub placed-more : (table stations : List Station) (k : ℕ) {zs : List Station} {s : Station} → zs ≡ set (placed_to table stations k) k s
    → s ≡ get_or stations k no_station → zs ≡ placed_to table stations (k + 1)
unfolding placed_to
placed-more table stations k e f = e ∙ ap (set (placed_to table stations k) k) f ∙ rw add-one refl

pub placed-none : (table stations : List Station) → table ≡ placed_to table stations 0
unfolding placed_to
placed-none table stations = refl

-- the answer to a setup or an event: 0, or the number that refuses it, and what the run has beside its table then
pub record Answered : Type 0 where
  pub answer : ℕ
  pub rest : Rest

-- with what it has where it is refused
abbrev pub as_answered : Rest → Result Rest Refusal → Answered
as_answered rest (Ok next) = record { answer = 0; rest = next }
as_answered rest (Err r) = record { answer = number r; rest = rest }

-- and the answer
abbrev pub answered_of : Played → Answered
answered_of p = record { answer = p.answer; rest = rest_of p.line }

-- ---- a board's step after its tests

module _ (plan : Plan) (many i : ℕ) (act : Act) (s : Station) where
  pub done-ten : {r : Board} → (many ≡ plan.stations → ⊥) → r ≡ refused 10 s → r ≡ done plan many i act s
  unfolding done
  done-ten ne e = rw (ne_eqb many plan.stations ne) e

  module _ (same : many ≡ plan.stations) where
    pub done-eleven : {r : Board} → plan.stations ≤ i → r ≡ refused 11 s → r ≡ done plan many i act s
    unfolding done
    done-eleven h e = rw (eq-eqb many plan.stations same, le-leb plan.stations i h) e

    pub done-does : (b : Act) {r : Board} → i < plan.stations → act ≡ b → r ≡ does plan i b s → r ≡ done plan many i act s
    unfolding done
    done-does b h q e = rw (eq-eqb many plan.stations same, lt-leb plan.stations i h, q) e

-- so what is taken out, steps and is put back comes to the step
pub step-comes : (plan : Plan) (table : List Station) (i : ℕ) (act : Act) (s : Station) (r : Board) (p : Station) {zs : List Station} → s ≡ get_or table i no_station
    → r ≡ done plan (length table) i act s → p ≡ r.outcome.station → zs ≡ set table i p → (r ≡ stepped plan table i act) × (zs ≡ stepped_table plan table i act)
unfolding stepped stepped_table
step-comes plan table i act s r p taken did left stored =
    let r-is : r ≡ stepped plan table i act = did ∙ ap (done plan (length table) i act) taken in
    (r-is, stored ∙ ap (set table i) (left ∙ ap (λ (b : Board). b.outcome.station) r-is))

module _ (plan : Plan) (i : ℕ) (s : Station) where
  refuses : (k : ℕ) (o : Outcome) → (k ≡ 0 → ⊥) → (answered k s o).outcome.station ≡ s
  unfolding answered still
  refuses k o z = rw (ne_eqb k 0 z) refl

  kept : (b c : Bool) (a : Act) → ((pick {A = Board} b (refused 10 s) (pick c (refused 11 s) (does plan i a s))).answer ≡ 0 → ⊥)
      → (pick {A = Board} b (refused 10 s) (pick c (refused 11 s) (does plan i a s))).outcome.station ≡ s
  unfolding still does answered
  kept true c a z = refl
  kept false true a z = refl
  kept false false (Hear round signers) z = refuses (hear_answer plan round signers s) (hear plan round signers s) z
  kept false false (Advance by) z = refuses (advance_answer plan i by s) (advance plan i by s) z

-- a refused step leaves the table as it was
pub step-refused : (plan : Plan) (table : List Station) (i : ℕ) (act : Act) → ((stepped plan table i act).answer ≡ 0 → ⊥)
    → stepped_table plan table i act ≡ table
unfolding stepped stepped_table done
step-refused plan table i act ne =
    ap (set table i) (kept plan i (get_or table i no_station) (not (eqb (length table) plan.stations)) (leb plan.stations i) act ne)
    ∙ set-get_or table i no_station
