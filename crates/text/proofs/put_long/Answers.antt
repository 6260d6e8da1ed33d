-- `text::put_long` spells a number from its last digit on: each turn lays one more digit in front. Assumes nothing.
use Rattle.std.proofs.Common.{arith}
use Rattle.text.proofs.Laws.{places-few, spelt-start, spelt-next, spelt-end}
use Rattle.text.proofs.put_long.Goals as goal

pub loop-i-init : goal.loop-i-init
loop-i-init c = (c.places-count.ensures, spelt-start _ _ _ _)

pub overflow_add-out-in-loop-i : goal.overflow_add-out-in-loop-i
overflow_add-out-in-loop-i c = omega (arith, c.loop-i.invariant.0, c.loop-i.invariant.1.most, places-few c.args.x, c.requires)

pub bounds-out-at : goal.bounds-out-at
bounds-out-at c = omega (arith, c.loop-i.invariant.0, c.loop-i.invariant.1.most, c.loop-i.invariant.1.long, places-few c.args.x, c.requires)

pub loop-i-preserved : goal.loop-i-preserved
loop-i-preserved c =
    let s = c.loop-i.invariant in
    (s.0, spelt-next _ _ _ _ _ _ _ (omega (arith, s.0, places-few c.args.x, c.requires)) (omega arith) s.1)

pub overflow_add-result : goal.overflow_add-result
overflow_add-result c = omega (arith, c.loop-i.invariant.0, places-few c.args.x, c.requires)

pub returns-clause-out_after : goal.returns-clause-out_after
returns-clause-out_after c = let s = c.loop-i.invariant in spelt-end s.0 (omega arith) s.1
