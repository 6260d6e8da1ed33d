-- `setup::answer` answers `setup_answer`: the plan's number where it is refused, else what the first readings give. Assumes
-- nothing.
use mathlib.Core.Path.{sym}
use Rattle.setup.specs.Laws.{planned}
use Rattle.setup.proofs.answer.Goals as goal

pub invariant_of-limited : goal.invariant_of-limited
invariant_of-limited c = record { in_limits = (planned _ (sym c.in_ok-plan_answer.ensures)).limits }
