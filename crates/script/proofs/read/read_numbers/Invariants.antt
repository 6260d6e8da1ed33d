-- The loop of `script::read_numbers`: after i turns i numbers stand in the array, and the others begin at the place.
use Rattle.script.proofs.ReadLaws.{Filled}
use Rattle.script.proofs.read.read_numbers.Given as goal

abbrev pub invariant-loop-value : goal.invariant-loop-value
invariant-loop-value l = Filled l.bytes l.at l.count l.value-items l.place l.value-index
