-- `text::put_spaced` lays a space and a number behind it. Assumes nothing.
use native.Mathlib.Omega.{arith}
use Rattle.text.specs.Text.{single, spaced, decimal}
use Rattle.text.proofs.Laws.{laid_both}
use Rattle.text.proofs.put_spaced.Goals as goal

pub returns-clause-out_after : goal.returns-clause-out_after
unfolding spaced
returns-clause-out_after c =
    laid_both _ _ (single 32) (decimal c.args.x) (omega arith) c.put_byte-next.ensures.out_after c.put_byte-next.ensures.value c.put_decimal.ensures.out_after
