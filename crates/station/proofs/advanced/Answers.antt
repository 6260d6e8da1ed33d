-- `station::advanced` goes on within the limits, and does nothing past them. Assumes nothing.
use mathlib.Core.Path.{sym, ◌∙◌}
use Rattle.station.specs.Limits.{steady-is}
use Rattle.station.proofs.advanced.Goals as goal

pub invariant_of-moving : goal.invariant_of-moving
invariant_of-moving c = record { limits = steady-is _ _ _ (sym c.steady.ensures ∙ c.if-not-steady.false) }
