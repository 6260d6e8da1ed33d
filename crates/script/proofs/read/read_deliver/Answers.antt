-- `script::read_deliver` answers `deliver_from`, from the four numbers that it reads. Assumes nothing.
use Prim.Native.Nat.{ℕ}
use mathlib.Core.List.{List, []}
use mathlib.Core.Path.{refl, ap, ◌∙◌}
use lib.ListN.{get_or}
use Rattle.refusal.proofs.Laws.{refused, passed}
use Rattle.event.specs.declared.Event.TheVariants.{Deliver}
use Rattle.script.specs.Read.{deliver_from, padded}
use Rattle.script.proofs.ReadLaws.{got, lost, deliver-padded, unread-event, whole-event}
use Rattle.script.proofs.read.read_deliver.Goals as goal

pub returns-in_err-values : goal.returns-in_err-values
returns-in_err-values c =
    rw (passed _ c.from_residual.ensures.1) (unread-event _ _ _ _ _ refl refl (ap deliver_from (lost _ _ _ _ c.in_err-values.ensures (refused _))))

pub returns : goal.returns
unfolding padded
returns c =
    let a = got _ _ _ _ c.in_ok-values.ensures refl in
    whole-event _ _ _ _ [] _ _ (ap deliver_from a.is) refl
    (ap (λ (l : List ℕ). Deliver (get_or l 0 0) (get_or l 1 0) (get_or l 2 0) (get_or l 3 0)) a.values ∙ deliver-padded a.vs)
