-- `writer::write_setup` writes a setup that passes as its numbers, and else answers its number. Assumes nothing.
use mathlib.Core.Path.{refl}
use Rattle.script.specs.Write.{setup_numbers}
use Rattle.writer.specs.Laws.{refused-writes, accepted-writes}
use Rattle.refusal.proofs.Laws.{refused, passed}
use Rattle.writer.proofs.write_setup.Goals as goal

pub returns-in_err-answer : goal.returns-in_err-answer
returns-in_err-answer c =
    let w = refused-writes _ _ _ _ _ c.in_err-answer.ensures (refused _) in
    rw (passed _ c.from_residual.ensures.1) (record { value = w.0; out_after = w.1 })

pub returns : goal.returns
unfolding setup_numbers
returns c =
    let w = accepted-writes _ _ _ _ _ c.in_ok-answer.ensures refl _ _ _ refl
    (c.write_numbers.ensures.value, c.write_numbers.ensures.out_after) in
    record { value = w.0; out_after = w.1 }
