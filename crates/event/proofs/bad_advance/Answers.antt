-- `event::bad_advance` answers `bad_advance`, from what `outside` and `some_bad_increment` answer. Assumes nothing.
use Rattle.event.specs.Event.{bad_advance}
use Rattle.event.proofs.bad_advance.Goals as goal

pub returns : goal.returns
unfolding bad_advance
returns c = simp (c.outside.ensures, c.some_bad_increment.ensures)
