-- `flight::unpack` makes `message_of` of the three words. Assumes nothing.
use mathlib.Core.Path.{refl}
use Rattle.flight.specs.Message.{message_of}
use Rattle.flight.proofs.unpack.Goals as goal

pub returns : goal.returns
unfolding message_of
returns c = refl
