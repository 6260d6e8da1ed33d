-- `script::read_setup` answers `read_setup`: at each `return` the numbers read so far say how far the reading came. Assumes
-- nothing.
use mathlib.Core.Path.{refl, ap, sym, ◌∙◌}
use Rattle.refusal.proofs.Laws.{refused, passed}
use Rattle.number.specs.Number.{as_number}
use Rattle.script.specs.Read.{plan_of}
use Rattle.script.proofs.ReadLaws.{got, lost, plan-padded, setup-refused, setup-one, setup-plan, setup-first, setup-whole, unread-setup, whole-setup}
use Rattle.script.proofs.read.read_setup.Goals as goal

pub returns-in_default : goal.returns-in_default
returns-in_default c =
    unread-setup _ _ _ _ _ refl refl (setup-refused _ _ _ (sym c.read_number-answer.ensures ∙ ap as_number c.unwrap_err.ensures))

pub returns-then-outside : goal.returns-then-outside
returns-then-outside c =
    unread-setup _ _ _ _ _ refl refl (setup-one _ _ _ _ (sym c.in-Ok.ensures) (sym c.outside.ensures ∙ c.if-outside.true))

pub returns-in_err-named : goal.returns-in_err-named
returns-in_err-named c =
    rw (passed _ c.from_residual.ensures.1) (unread-setup _ _ _ _ _ refl refl
    (setup-plan _ _ _ _ (sym c.in-Ok.ensures) (sym c.outside.ensures ∙ c.if-outside.false) _
    (lost _ _ _ _ c.in_err-named.ensures (refused _))))

pub returns-in_err-first : goal.returns-in_err-first
returns-in_err-first c =
    let a = got _ _ _ _ c.in_ok-named.ensures refl in
    rw (passed _ c.from_residual-in_err-first.ensures.1) (unread-setup _ _ _ _ _ refl refl
    (setup-first _ _ _ _ (sym c.in-Ok.ensures) (sym c.outside.ensures ∙ c.if-outside.false) _ _ _ a.is
    (lost _ _ _ _ c.in_err-first.ensures (refused _))))

pub returns : goal.returns
returns c =
    let a = got _ _ _ _ c.in_ok-named.ensures refl in
    let b = got _ _ _ _ c.in_ok-first.ensures refl in
    whole-setup _ _ _ _ b.vs _ _
    (setup-whole _ _ _ _ (sym c.in-Ok.ensures) (sym c.outside.ensures ∙ c.if-outside.false) a.vs b.vs _ _ a.is b.is) b.values
    (c.plan_of.ensures ∙ ap (plan_of _) a.values ∙ plan-padded _ a.vs)
