-- The event is played by value on the stations taken out, and they are put back; refused, they are as they were.
use Rattle.std.proofs.Common.{sym, ap, ◌∙◌}
use Rattle.std.proofs.lemmas.Result.{err_from_is_err_and}
use Rattle.refusal.specs.Refusal.{number}
use Rattle.line.specs.declared.Line.{Line}
use Rattle.run.specs.Play.{placed_to}
use Rattle.line.specs.declared.Rest.{Rest}
use Rattle.seating.specs.Seating.{line_to, Answered}
use Rattle.line.specs.Held.{rest_of}
use Rattle.table.specs.Same.{taken_back}
use Rattle.table.proofs.Same.{event-comes}
use Rattle.table.proofs.play.Goals as goal

pub returns-in_err-line : goal.returns-in_err-line
unfolding line_to
returns-in_err-line c =
    let a = c.args in
    let p = err_from_is_err_and c.from_residual.result c.from_residual.ensures.1 in
    let r = c.in_err-line.field-0.0 in
    let back = sym c.load.ensures in
    let was : Line → Answered = λ l. record { answer = number r; rest = rest_of l } in
    rw (p.1, p.2) (event-comes a.rest a.table.now a.words.now a.event a.increments.now c.load.result _ c.load.ensures
    c.in_err-line.ensures.value c.in_err-line.ensures.words_after (ap was back)
    (sym (taken_back a.table.now) ∙ ap (λ (l : Line). placed_to a.table.now l.stations 12) back))

pub returns : goal.returns
returns c =
    let a = c.args in
    event-comes a.rest a.table.now a.words.now a.event a.increments.now c.load.result _ c.load.ensures c.in_ok-line.ensures.value
    c.in_ok-line.ensures.words_after (ap (λ (r : Rest). record { answer = 0; rest = r }) c.store.ensures.0) c.store.ensures.1
