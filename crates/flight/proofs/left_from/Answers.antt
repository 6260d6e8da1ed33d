-- `flight::left_from` looks for the first message of these names: no message passed has the word, and equal words are equal names.
-- Assumes nothing.
use Rattle.std.proofs.Common.{ℕ, ◌-◌, ap, sym, arith}
use Rattle.flight.proofs.Keys.{seek-at, seek-none}
use Rattle.flight.proofs.left_from.Goals as goal

pub returns-then-words-i : goal.returns-then-words-i
returns-then-words-i c =
    let a = c.args in
    let b = c.loop-i in
    ap (λ (i : ℕ). a.count - i) (sym (seek-at a.key a.count a.words.now b.i (omega arith) b.invariant c.if-words-i.true))

pub returns : goal.returns
returns c =
    let a = c.args in
    omega (arith, seek-none a.key a.count a.words.now (λ j h. c.loop-i.invariant j (omega arith)))
