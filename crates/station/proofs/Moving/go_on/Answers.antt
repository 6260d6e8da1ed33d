-- `station::Moving::go_on` answers `advance`: the moved station signs where it lands, and else is left as it is. Assumes nothing.
use mathlib.Core.Path.{sym, ◌∙◌}
use Rattle.station.specs.Laws.{advance-lands, advance-goes}
use Rattle.station.proofs.Moving.go_on.Goals as goal

pub returns-then-lands : goal.returns-then-lands
returns-then-lands c = advance-lands _ _ _ _ c.args.self.limits _
    c.on.ensures _ (sym c.lands.ensures ∙ c.if-lands.true)
    c.sign.ensures

pub returns : goal.returns
returns c = advance-goes _ _ _ _ c.args.self.limits _
    c.on.ensures _ (sym c.lands.ensures ∙ c.if-lands.false)
    c.still.ensures
