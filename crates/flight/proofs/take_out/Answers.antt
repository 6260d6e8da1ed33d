-- `flight::take_out` takes the i-th message out: the last one's three words copied into its place are the coding of the list
-- without it. Assumes nothing.
use Prim.Native.Nat.{◌-◌}
use mathlib.Core.Path.{◌≡◌, refl, ◌∙◌}
use native.Mathlib.Omega.{arith}
use lib.ListN.{length}
use Rattle.flight.specs.Message.{decode, without}
use Rattle.flight.specs.Members.{length_without}
use Rattle.flight.proofs.Coding.{length-decode, stored-out}
use Rattle.flight.proofs.Keys.{take-no-room, take_past, take-can}
use Rattle.flight.proofs.take_out.Goals as goal

pub returns-then-count-words : goal.returns-then-count-words
returns-then-count-words c =
    let a = c.args in
    let e = take-no-room a.count a.words.now a.i c.if-count-words.true in
    record { value = rw e refl; words_after = rw e refl }

pub returns-then-i-count : goal.returns-then-i-count
returns-then-i-count c =
    let a = c.args in
    let e = take_past a.count a.words.now a.i c.if-count-words.false c.if-i-count.true in
    record { value = rw e refl; words_after = rw e refl }

pub returns : goal.returns
returns c =
    let a = c.args in
    let l = a.words.now in
    let e = take-can a.count l a.i c.if-count-words.false
    c.if-i-count.false in
    let n : length (without a.i (decode a.count l)) ≡ a.count - 1 =
    length_without a.i (decode a.count l) ∙ omega (arith, length-decode a.count l) in record {
      value = rw (e, n) refl;
      words_after = rw e (c.move_to.ensures ∙ stored-out l a.count a.i (omega arith)
          c.if-i-count.false);
    }
