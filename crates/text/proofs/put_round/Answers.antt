-- `text::put_round` lays a space and the round, or a space and `-`, by whether the station is faulty. Assumes nothing.
use mathlib.Core.Path.{sym, ◌∙◌}
use native.Mathlib.Omega.{arith}
use Rattle.text.specs.Text.{single}
use Rattle.text.proofs.Laws.{laid_both, length-spaced}
use Rattle.text.proofs.put_round.Goals as goal

pub returns-then-has-clause-out_after : goal.returns-then-has-clause-out_after
returns-then-has-clause-out_after c =
    let faulty = sym c.has.ensures ∙ c.if-has.true in
    rw faulty (laid_both _ _ (single 32) (single 45) (omega (arith, c.requires)) c.put_byte-next.ensures.out_after c.put_byte-next.ensures.value c.put_byte.ensures.out_after)

pub returns-clause-value : goal.returns-clause-value
returns-clause-value c =
    let sound = sym c.has.ensures ∙ c.if-has.false in
    rw sound (c.put_spaced.ensures.value ∙ omega (arith, length-spaced c.args.round))
