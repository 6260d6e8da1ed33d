-- `run::play` comes to 10, or to what the step of a valid record comes to. Assumes nothing.
use mathlib.Core.Path.{refl, sym, ◌∙◌}
use native.Mathlib.Omega.{arith}
use Rattle.run.specs.Limits.{held-is}
use Rattle.run.specs.Play.{play_answer, comes-no}
use Rattle.run.proofs.play.Goals as goal

pub returns-then-bad_line : goal.returns-then-bad_line
unfolding play_answer
returns-then-bad_line c =
    let no = comes-no c.args.l c.args.words.now _ _ 10 (rw (sym c.bad_line.ensures ∙ c.if-bad_line.true) refl) (λ z. omega arith) in
    record { value = no.0; words_after = no.1 }

pub step-requires : goal.step-requires
step-requires c = held-is _ _ (sym c.bad_line.ensures ∙ c.if-bad_line.false)

pub returns : goal.returns
unfolding play_answer
returns c =
    let ok = sym c.bad_line.ensures ∙ c.if-bad_line.false in
    record { value = rw ok c.step.ensures.value; words_after = rw ok c.step.ensures.words_after }
