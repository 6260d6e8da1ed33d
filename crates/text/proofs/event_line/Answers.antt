-- `text::event_line` lays the number, the answer and the end one behind the other, where there is room. Assumes nothing.
use Rattle.std.proofs.Common.{ℕ, ◌+◌, List, ◌++◌, ◌≡◌, true, refl, sym, ◌∙◌, arith}
use Rattle.number.specs.Number.{laid}
use Rattle.text.specs.Text.{places, decimal, spaced, roomy, line_with}
use Rattle.text.proofs.Laws.{Written, written-more, written-decimal, written-spaced, end-long, end_none, fits-end}
use Rattle.text.proofs.Room.{roomy-has}
use Rattle.text.proofs.event_line.Goals as goal

-- behind the number, and behind the answer
module _ {out w : List ℕ} {at next : ℕ} (yes : roomy out at ≡ true) (x : ℕ) (e : next ≡ at + places x) (f : w ≡ laid out at (decimal x)) where
  with-number : Written out at (decimal x) 300 w next
  with-number = written-decimal out at x 300 (omega (arith, roomy-has _ _ yes)) e f

  with-answer : (y : ℕ) {v : List ℕ} {n : ℕ} → n ≡ next + (places y + 1) → v ≡ laid w next (spaced y)
      → Written out at (decimal x ++ spaced y) 279 v n
  with-answer y = written-spaced with-number y 279 (omega arith)

pub returns-then-end-gt278 : goal.returns-then-end-gt278
returns-then-end-gt278 c = let a = c.args in rw (end-long a.end.now a.out.now a.at c.if-end-gt278.true) record { value = refl; out_after = refl }

pub returns-then-not-roomy : goal.returns-then-not-roomy
returns-then-not-roomy c =
    let a = c.args in
    let no = sym c.roomy.ensures ∙ c.if-not-roomy.true in
    rw (end_none a.end.now a.out.now a.at c.if-end-gt278.false no) record { value = refl; out_after = refl }

pub put_decimal-next-requires : goal.put_decimal-next-requires
put_decimal-next-requires c = omega (arith, roomy-has _ _ (sym c.roomy.ensures ∙ c.if-not-roomy.false))

pub put_spaced-next-requires : goal.put_spaced-next-requires
put_spaced-next-requires c =
    let w = with-number (sym c.roomy.ensures ∙ c.if-not-roomy.false) c.args.number c.put_decimal-next.ensures.value c.put_decimal-next.ensures.out_after in
    omega (arith, w.room)

pub put_word-requires : goal.put_word-requires
put_word-requires c =
    let w =
    with-answer (sym c.roomy.ensures ∙ c.if-not-roomy.false) c.args.number c.put_decimal-next.ensures.value c.put_decimal-next.ensures.out_after
    c.args.answer c.put_spaced-next.ensures.value c.put_spaced-next.ensures.out_after in
    omega (arith, w.room, c.if-end-gt278.false)

pub returns : goal.returns
unfolding line_with
returns c =
    let a = c.args in
    let few = c.if-end-gt278.false in
    let yes = sym c.roomy.ensures ∙ c.if-not-roomy.false in
    let w =
    with-answer yes a.number c.put_decimal-next.ensures.value c.put_decimal-next.ensures.out_after
    a.answer c.put_spaced-next.ensures.value c.put_spaced-next.ensures.out_after in
    let all = written-more w a.end.now 1 (omega (arith, few)) c.put_word.ensures.value c.put_word.ensures.out_after in
    rw (fits-end a.end.now a.out.now a.at few yes) record { value = all.place; out_after = all.same }
