-- `text::put_two` lays the tens and the ones behind them. Assumes nothing.
use Prim.Native.Nat.{◌+◌, ◌/◌, ◌%◌}
use mathlib.Core.Path.{sym, ap, ◌∙◌}
use native.Mathlib.Omega.{arith}
use Rattle.number.specs.Number.{laid}
use Rattle.text.specs.Text.{single}
use Rattle.text.proofs.Laws.{laid_both, last-two}
use Rattle.text.proofs.put_two.Goals as goal

pub returns-clause-out_after : goal.returns-clause-out_after
returns-clause-out_after c =
    let a = c.args in
    let both = laid_both _ _ (single (48 + a.x / 10)) (single (48 + a.x % 10)) (omega (arith, c.requires.1)) c.put_byte-next.ensures.out_after c.put_byte-next.ensures.value c.put_byte.ensures.out_after in
    both ∙ ap (laid _ _) (sym (last-two a.x c.requires.0))
