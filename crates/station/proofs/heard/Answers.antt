-- `station::heard` hears within the limits, and does nothing past them. Assumes nothing.
use mathlib.Core.Path.{sym, ◌∙◌}
use Rattle.station.specs.Limits.{small_is}
use Rattle.station.proofs.heard.Goals as goal

pub invariant_of-limited : goal.invariant_of-limited
invariant_of-limited c = record { limits = small_is _ _ (sym c.small.ensures ∙ c.if-not-small.false) }
