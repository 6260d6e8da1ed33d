-- `event::barred` answers `barred`, event by event. Assumes nothing.
use Rattle.event.specs.Event.{barred}
use Rattle.event.proofs.barred.Goals as goal

pub returns-in-Advance : goal.returns-in-Advance
unfolding barred
returns-in-Advance c = rw c.in-Advance.is c.bad_advance.ensures

pub returns-in-Deliver : goal.returns-in-Deliver
unfolding barred
returns-in-Deliver c = rw (c.in-Deliver.is, c.bad_ends.ensures)

pub returns-in-Send : goal.returns-in-Send
unfolding barred
returns-in-Send c = rw (c.in-Send.is, c.bad_ends-in-Send.ensures, c.below.ensures)
