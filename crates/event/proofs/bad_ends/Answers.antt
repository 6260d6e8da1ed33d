-- `event::bad_ends` answers `bad_ends`, from what `has` and `outside` answer. Assumes nothing.
use Rattle.event.specs.Event.{bad_ends}
use Rattle.event.proofs.bad_ends.Goals as goal

pub returns : goal.returns
unfolding bad_ends
returns c = simp (c.has.ensures, c.outside.ensures)
