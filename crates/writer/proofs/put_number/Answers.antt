-- `writer::put_number` writes the bytes of a number, a group a turn. Assumes nothing.
use Rattle.writer.specs.Laws.{putting-start, putting-fits, putting-next, putting-end}
use Rattle.writer.proofs.put_number.Goals as goal

pub loop-rest-init : goal.loop-rest-init
loop-rest-init c = putting-start _ _ _ c.ranges.v.fits

pub bounds-out-place : goal.bounds-out-place
bounds-out-place c = putting-fits _ _ _ _ _ _ c.loop-rest.invariant c.requires

pub loop-rest-preserved : goal.loop-rest-preserved
loop-rest-preserved c = putting-next _ _ _ _ _ _ c.loop-rest.invariant c.requires c.loop-rest-test.true

pub bounds-out-place-2 : goal.bounds-out-place-2
bounds-out-place-2 c = putting-fits _ _ _ _ _ _ c.loop-rest.invariant c.requires

pub returns-clause-value : goal.returns-clause-value
returns-clause-value c = (putting-end _ _ _ _ _ _ c.loop-rest.invariant c.requires c.loop-rest-test.false).0

pub returns-clause-out_after : goal.returns-clause-out_after
returns-clause-out_after c = (putting-end _ _ _ _ _ _ c.loop-rest.invariant c.requires c.loop-rest-test.false).1
