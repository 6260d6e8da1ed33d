-- `setup::plan_answer` answers `plan_answer`: at each `return` the tests that led there say which line of the table it is, and
-- past 3 the limits hold. Assumes nothing.
use mathlib.Core.Path.{sym, ◌∙◌}
use Rattle.setup.specs.Laws.{in-limits}
use Rattle.setup.proofs.plan_answer.Goals as goal

pub invariant_of-limited : goal.invariant_of-limited
invariant_of-limited c = record { in_limits = in-limits _ (sym c.bad_limits.ensures ∙ c.if-bad_limits.false) }
