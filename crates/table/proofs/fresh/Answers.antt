-- A fresh run's stations are put into the table; refused, it is as it was.
use Rattle.std.proofs.Common.{refl, sym, ap}
use Rattle.std.proofs.lemmas.Result.{err_from_is_err_and}
use Rattle.refusal.proofs.Laws.{refused}
use Rattle.line.specs.declared.Rest.{Rest}
use Rattle.seating.specs.Seating.{line_to, line_of}
use Rattle.table.specs.Table.{starting}
use Rattle.table.specs.Core.{begins-no, begins-ten, begins-yes}
use Rattle.table.specs.Same.{taken_back}
use Rattle.table.proofs.Same.{fresh-comes}
use Rattle.table.proofs.fresh.Goals as goal

pub returns-in_err-line : goal.returns-in_err-line
unfolding line_to
returns-in_err-line c =
    let a = c.args in
    let p = err_from_is_err_and c.from_residual.result c.from_residual.ensures.1 in
    let held = line_of (starting a.plan) a.table.now in
    rw (p.1, p.2) (fresh-comes a.plan a.first.now a.table.now held _ refl (begins-no held a.first.now _ c.in_err-line.ensures (refused _) refl)
    refl (sym (taken_back a.table.now)))

pub returns-then-table-plan : goal.returns-then-table-plan
unfolding line_to
returns-then-table-plan c =
    let a = c.args in
    let held = line_of (starting a.plan) a.table.now in
    fresh-comes a.plan a.first.now a.table.now held _ refl (begins-ten held a.first.now _ c.in_ok-line.ensures refl c.if-table-plan.true refl)
    refl (sym (taken_back a.table.now))

pub returns : goal.returns
unfolding line_to
returns c =
    let a = c.args in
    let held = line_of (starting a.plan) a.table.now in
    fresh-comes a.plan a.first.now a.table.now held _ refl (begins-yes held a.first.now _ c.in_ok-line.ensures refl c.if-table-plan.false)
    (ap (λ (r : Rest). record { answer = 0; rest = r }) c.store.ensures.0) c.store.ensures.1
