-- `station::bad_board` answers `bad_board`: the plan's rules, then the record's. Assumes nothing.
use mathlib.Core.Path.{sym, ◌∙◌}
use Rattle.refusal.proofs.Laws.{ok-zero}
use Rattle.station.specs.Record.{bad_board}
use Rattle.station.specs.Laws.{plan-limits}
use Rattle.station.proofs.bad_board.Goals as goal

pub returns : goal.returns
unfolding bad_board
returns c =
    let z = sym c.plan_answer.ensures ∙ ok-zero _ (sym c.if-is_err.ensures.value) in
    c.bad_station.ensures ∙ rw (plan-limits _ z, z)
