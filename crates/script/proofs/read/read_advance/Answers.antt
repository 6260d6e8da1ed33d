-- `script::read_advance` answers `advance_from`: at each `return` the numbers read so far say how far the reading came. Assumes
-- nothing.
use mathlib.Core.Path.{refl, ap, sym, ◌∙◌}
use Rattle.refusal.proofs.Laws.{refused, passed}
use Rattle.number.specs.Number.{as_number}
use Rattle.script.proofs.ReadLaws.{got, lost, advance-refused, advance-stopped, advance-whole, unread-event, whole-event}
use Rattle.script.proofs.read.read_advance.Goals as goal

pub returns-in_default : goal.returns-in_default
returns-in_default c =
    unread-event _ _ _ _ _ refl refl (advance-refused _ _ _ _ (sym c.read_number-answer.ensures ∙ ap as_number c.unwrap_err.ensures))

pub returns-in_err-increments : goal.returns-in_err-increments
returns-in_err-increments c =
    rw (passed _ c.from_residual.ensures.1) (unread-event _ _ _ _ _ refl refl
    (advance-stopped _ _ _ _ _ _ (sym c.in-Ok.ensures) (lost _ _ _ _ c.in_err-increments.ensures (refused _))))

pub returns : goal.returns
returns c =
    let a = got _ _ _ _ c.in_ok-increments.ensures refl in
    whole-event _ _ _ _ a.vs _ _ (advance-whole _ _ _ _ _ _ a.vs (sym c.in-Ok.ensures) a.is) a.values refl
