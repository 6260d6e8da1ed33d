-- `flight::pack` makes `packed` of the names, which fits a word. Assumes nothing.
use mathlib.Core.Path.{refl}
use Rattle.flight.specs.Message.{packed}
use Rattle.flight.proofs.pack.Goals as goal

pub returns : goal.returns
unfolding packed
returns c = refl
