-- `writer::copy` lays the bytes one behind the other. Assumes nothing.
use Rattle.std.proofs.Common.{sym, arith}
use Rattle.number.proofs.Laws.{laid_none}
use Rattle.writer.proofs.Groups.{laid-byte}
use Rattle.writer.proofs.copy.Goals as goal

pub loop-i-init : goal.loop-i-init
loop-i-init c = sym (laid_none c.args.out.now c.args.at)

pub loop-i-preserved : goal.loop-i-preserved
loop-i-preserved c =
    let a = c.args in
    rw c.loop-i.invariant (laid-byte a.out.now a.at a.bytes.now c.loop-i.i (omega arith) (omega arith))
