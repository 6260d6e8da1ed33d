-- One station more is put back.
use Rattle.std.proofs.Common.{ap, ◌∙◌, arith, refl, ◌≡◌}
use Rattle.run.specs.Play.{placed_to}
use Rattle.seating.specs.Seating.{placed-none, placed-more}
use Rattle.seating.proofs.store.Goals as goal

pub loop-i-init : goal.loop-i-init
loop-i-init c = placed-none c.args.table.now c.args.line.stations

pub loop-i-preserved : goal.loop-i-preserved
loop-i-preserved c =
    placed-more c.args.table.now c.args.line.stations c.loop-i.i (rw c.loop-i.invariant at c.put.ensures) refl

pub returns : goal.returns
returns c =
    let twelve : c.loop-i.i ≡ 12 = omega arith in
    (c.rest.ensures, c.loop-i.invariant ∙ ap (placed_to c.args.table.now c.args.line.stations) twelve)
