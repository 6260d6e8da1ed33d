-- `text::line_end` lays the time, the rounds and the line's end one behind the other, where there is room. Assumes nothing.
use Rattle.std.proofs.Common.{ℕ, ◌+◌, ◌≤◌, List, [], ◌++◌, length, ◌≡◌, true, refl, sym, ◌∙◌, arith}
use Rattle.number.specs.Number.{laid}
use Rattle.line.specs.Held.{run_of}
use Rattle.line.specs.Run.{Run}
use Rattle.text.specs.Text.{places, single, spaced, roomy, rounds_to, event_end}
use Rattle.text.proofs.Laws.{Written, written_none, written-more, written-spaced, written-rounds, fits_not, fits-none, fits-well}
use Rattle.text.proofs.Room.{roomy-has}
use Rattle.text.proofs.line_end.Goals as goal

-- behind the time, and behind the rounds
module _ {out w : List ℕ} {at next : ℕ} (yes : roomy out at ≡ true) (x : ℕ) (e : next ≡ at + (places x + 1)) (f : w ≡ laid out at (spaced x)) where
  with-time : Written out at (spaced x) 299 w next
  with-time = written-spaced (written_none out at 320 (roomy-has _ _ yes)) x 299 (omega arith) e f

  with-rounds : (r : Run) (k : ℕ) → k ≤ 12 → {v : List ℕ} {n : ℕ} → n ≡ next + length (rounds_to r k) → v ≡ laid w next (rounds_to r k)
      → Written out at (spaced x ++ rounds_to r k) 47 v n
  with-rounds r k few = written-rounds with-time r k 47 few (omega arith)

pub returns-then-l-gt12 : goal.returns-then-l-gt12
returns-then-l-gt12 c = let a = c.args in rw (fits_not a.l a.out.now 0 c.if-l-gt12.true) record { value = refl; out_after = refl }

pub returns-then-not-roomy : goal.returns-then-not-roomy
returns-then-not-roomy c =
    let a = c.args in
    let no = sym c.roomy.ensures ∙ c.if-not-roomy.true in
    rw (fits-none a.l a.out.now 0 c.if-l-gt12.false no) record { value = refl; out_after = refl }

pub put_spaced-next-requires : goal.put_spaced-next-requires
put_spaced-next-requires c = omega (arith, roomy-has _ _ (sym c.roomy.ensures ∙ c.if-not-roomy.false))

pub put_rounds-next-requires : goal.put_rounds-next-requires
put_rounds-next-requires c =
    let w = with-time (sym c.roomy.ensures ∙ c.if-not-roomy.false) c.args.l.time.0 c.put_spaced-next.ensures.value c.put_spaced-next.ensures.out_after in
    record { stations_bound = c.if-l-gt12.false; at_in_bounds = omega (arith, w.room) }

pub put_byte-requires : goal.put_byte-requires
unfolding run_of
put_byte-requires c =
    let l = c.args.l in
    let w =
    with-rounds (sym c.roomy.ensures ∙ c.if-not-roomy.false) l.time.0 c.put_spaced-next.ensures.value c.put_spaced-next.ensures.out_after
    (run_of l []) l.plan.stations c.if-l-gt12.false c.put_rounds-next.ensures.value c.put_rounds-next.ensures.out_after in
    omega (arith, w.room)

pub returns : goal.returns
unfolding run_of event_end
returns c =
    let l = c.args.l in
    let few = c.if-l-gt12.false in
    let yes = sym c.roomy.ensures ∙ c.if-not-roomy.false in
    let w =
    with-rounds yes l.time.0 c.put_spaced-next.ensures.value c.put_spaced-next.ensures.out_after
    (run_of l []) l.plan.stations few c.put_rounds-next.ensures.value c.put_rounds-next.ensures.out_after in
    let all = written-more w (single 10) 46 (omega arith) c.put_byte.ensures.value c.put_byte.ensures.out_after in
    rw (fits-well l c.args.out.now 0 few (roomy-has _ _ yes)) record { value = all.place; out_after = all.same }
