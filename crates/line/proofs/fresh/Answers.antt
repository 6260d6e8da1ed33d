-- `line::fresh` answers `begun`: the setup's number and no run, or the run at its beginning. Assumes nothing.
use Rattle.std.specs.Prelude.{refl}
use Rattle.refusal.proofs.Laws.{refused, passed}
use Rattle.line.specs.Fresh.{begun-no, begun-few, begun-yes}
use Rattle.line.proofs.fresh.Goals as goal

pub returns-in_err-answer : goal.returns-in_err-answer
returns-in_err-answer c =
    rw (passed _ c.from_residual.ensures.1) (begun-no _ _ _ c.in_err-answer.ensures _ (refused _) refl)

pub seat-requires : goal.seat-requires
seat-requires c = begun-few _ _ _ c.in_ok-answer.ensures refl

pub returns : goal.returns
returns c = begun-yes _ _ _ c.in_ok-answer.ensures refl _ c.seat.ensures
