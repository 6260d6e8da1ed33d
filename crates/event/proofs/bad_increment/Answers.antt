-- `event::bad_increment` answers `bad_increment`, from what `has` answers. Assumes nothing.
use Rattle.event.specs.Event.{bad_increment}
use Rattle.event.proofs.bad_increment.Goals as goal

pub returns : goal.returns
unfolding bad_increment
returns c = simp c.has.ensures
