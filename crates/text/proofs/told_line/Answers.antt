-- `text::told_line` lays the word, the number and the line's end one behind the other, where there is room. Assumes nothing.
use Rattle.std.proofs.Common.{ℕ, ◌+◌, ◌≤◌, List, ◌++◌, length, ◌≡◌, true, sym, ◌∙◌, arith}
use Rattle.number.specs.Number.{laid}
use Rattle.text.specs.Text.{places, single, spaced, roomy, told}
use Rattle.text.proofs.Laws.{Written, written_none, written-more, written-spaced}
use Rattle.text.proofs.Room.{roomy-has}
use Rattle.text.proofs.told_line.Goals as goal

-- behind the word, and behind the number
module _ (word : List ℕ) {out w : List ℕ} {at next : ℕ} (yes : roomy out at ≡ true) (few : length word ≤ 6) (e : next ≡ at + length word) (f : w ≡ laid out at word) where
  with-word : Written out at word 314 w next
  with-word = written-more (written_none out at 320 (roomy-has _ _ yes)) word 314 (omega arith) e f

  with-number : (x : ℕ) {v : List ℕ} {n : ℕ} → n ≡ next + (places x + 1) → v ≡ laid w next (spaced x)
      → Written out at (word ++ spaced x) 293 v n
  with-number x = written-spaced with-word x 293 (omega arith)

pub put_word-next-requires : goal.put_word-next-requires
put_word-next-requires c = omega (arith, roomy-has _ _ (sym c.roomy.ensures ∙ c.if-not-roomy.false), c.requires)

pub put_spaced-next-requires : goal.put_spaced-next-requires
put_spaced-next-requires c =
    let w = with-word _ (sym c.roomy.ensures ∙ c.if-not-roomy.false) c.requires c.put_word-next.ensures.value c.put_word-next.ensures.out_after in
    omega (arith, w.room)

pub put_byte-requires : goal.put_byte-requires
put_byte-requires c =
    let w =
    with-number _ (sym c.roomy.ensures ∙ c.if-not-roomy.false) c.requires c.put_word-next.ensures.value c.put_word-next.ensures.out_after
    c.args.number c.put_spaced-next.ensures.value c.put_spaced-next.ensures.out_after in
    omega (arith, w.room)

pub returns : goal.returns
unfolding told
returns c =
    let yes = sym c.roomy.ensures ∙ c.if-not-roomy.false in
    let w =
    with-number _ yes c.requires c.put_word-next.ensures.value c.put_word-next.ensures.out_after
    c.args.number c.put_spaced-next.ensures.value c.put_spaced-next.ensures.out_after in
    let all = written-more w (single 10) 292 (omega arith) c.put_byte.ensures.value c.put_byte.ensures.out_after in
    rw yes record { value = all.place; out_after = all.same }
