-- `text::places` finds the power of ten that the number reaches; 0 has as many digits as 1. Assumes nothing.
use Rattle.text.proofs.Laws.{places-max}
use Rattle.text.proofs.places.Goals as goal

pub returns : goal.returns
returns c =
    let m = c.max.ensures in
    let k = c.ilog10.ensures in
    places-max _ _ k.bound (rw (← m) k.power_le) (rw (← m) k.next_power_gt)
