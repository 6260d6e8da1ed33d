-- What is taken out, steps and is put back comes to the step; where it is refused, the table is as it was.
use Rattle.std.proofs.Common.{◌≡◌, refl, sym, ap, ◌∙◌, length, get_or}
use Rattle.std.specs.Prelude.{Err}
use Rattle.std.proofs.lemmas.Result.{err_from_is_err_and}
use Rattle.refusal.proofs.Laws.{refused}
use Rattle.station.specs.declared.Station.{Station}
use Rattle.station.specs.Record.{Board, as_board}
use Rattle.line.specs.Run.{no_station}
use Rattle.seating.specs.Seating.{done, step-comes, step-refused, stepped}
use Rattle.seating.proofs.step.Goals as goal

pub returns-in_err-outcome : goal.returns-in_err-outcome
unfolding stepped
returns-in_err-outcome c =
    let a = c.args in
    let p = err_from_is_err_and c.from_residual.result c.from_residual.ensures.1 in
    let is : as_board (get_or a.table.now a.i no_station) (Err c.in_err-outcome.field-0.0) ≡ stepped a.plan a.table.now a.i a.act =
    sym (ap (λ (s : Station). as_board s (Err c.in_err-outcome.field-0.0)) c.take.ensures)
    ∙ c.in_err-outcome.ensures ∙ ap (done a.plan (length a.table.now) a.i a.act) c.take.ensures in
    rw (p.1, p.2) (is, sym (step-refused a.plan a.table.now a.i a.act (λ z. refused _ (ap (λ (b : Board). b.answer) is ∙ z))))

pub returns : goal.returns
returns c = step-comes _ _ _ _ c.take.result _ _ c.take.ensures c.in_ok-outcome.ensures refl c.put.ensures
