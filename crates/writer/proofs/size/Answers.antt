-- `writer::size` answers how many bytes a number takes, by its highest bit. Assumes nothing.
use Rattle.std.proofs.Common.{arith, sym}
use Rattle.number.specs.Number.{number_bytes}
use Rattle.writer.specs.Laws.{groups-size}
use Rattle.writer.proofs.size.Goals as goal

pub returns : goal.returns
unfolding number_bytes
returns c =
    let e = c.ilog2.ensures in
    sym (groups-size 9 c.ilog2.result c.args.v (omega arith) (omega (arith, e.power_le)) (omega (arith, e.next_power_gt)))
