-- `station::refuses` answers `move_answer` within the limits, and 12 past them. Assumes nothing.
use mathlib.Core.Path.{sym, ◌∙◌}
use Rattle.station.specs.Limits.{steady-is}
use Rattle.station.proofs.refuses.Goals as goal

pub invariant_of-moving : goal.invariant_of-moving
invariant_of-moving c = record { limits = steady-is _ _ _ (sym c.steady.ensures ∙ c.if-not-steady.false) }
