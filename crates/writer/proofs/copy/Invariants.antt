-- The loop of `writer::copy`: after i turns the first i bytes lie there.
use Rattle.std.proofs.Common.{◌≡◌, take}
use Rattle.number.specs.Number.{laid}
use Rattle.writer.proofs.copy.Given as goal

abbrev pub invariant-loop-i : goal.invariant-loop-i
invariant-loop-i l = l.out ≡ laid l.initial.out l.at (take l.i l.bytes)
