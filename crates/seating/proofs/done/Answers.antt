-- `done` answers 10, then 11, else what the board does.
use Rattle.std.specs.Prelude.{refl}
use Rattle.seating.specs.Seating.{does, done-ten, done-eleven, done-does}
use Rattle.seating.proofs.done.Goals as goal

pub returns-then-many-plan : goal.returns-then-many-plan
returns-then-many-plan c = done-ten _ _ _ _ _ c.if-many-plan.true refl

pub returns-then-i-plan : goal.returns-then-i-plan
returns-then-i-plan c = done-eleven _ _ _ _ _ c.if-many-plan.false c.if-i-plan.true refl

pub returns-in-Hear : goal.returns-in-Hear
unfolding does
returns-in-Hear c = done-does _ _ _ _ _ c.if-many-plan.false _ c.if-i-plan.false c.in-Hear.is c.hear.ensures

pub returns-in-Advance : goal.returns-in-Advance
unfolding does
returns-in-Advance c = done-does _ _ _ _ _ c.if-many-plan.false _ c.if-i-plan.false c.in-Advance.is c.advance.ensures
