-- `tell` puts each question to its own function; where that refuses it, so does `tell`.
use Rattle.std.proofs.Common.{ap, ◌∙◌, ◌≡◌, rules}
use Rattle.std.specs.Prelude.{Err, ℤ}
use mir.Syntax.{w64}
use mir.Val.{to_z, of_z}
use Rattle.std.proofs.lemmas.Result.{err_from_is_err_and}
use Rattle.table.specs.declared.Question.{Question}
use Rattle.table.specs.Core.{Led_to, as_told, told-shown, told-led, told-in-flight}
use Rattle.table.proofs.tell.Goals as goal

pub returns-in_err-reading-in-Reading : goal.returns-in_err-reading-in-Reading
returns-in_err-reading-in-Reading c =
    let p = err_from_is_err_and c.from_residual.result c.from_residual.ensures.1 in
    rw (p.1, p.2) (ap (λ (q : Question). as_told q (Err c.in_err-reading-in-Reading.field-0.0)) c.in-Reading.is ∙ told-shown _ _ _ _ c.in-Reading.is c.in_err-reading-in-Reading.ensures)

pub returns-in_ok-reading-in-Reading : goal.returns-in_ok-reading-in-Reading
returns-in_ok-reading-in-Reading c = told-shown _ _ _ _ c.in-Reading.is c.in_ok-reading-in-Reading.ensures

pub returns-in_err-lead-in-Lead : goal.returns-in_err-lead-in-Lead
returns-in_err-lead-in-Lead c =
    let p = err_from_is_err_and c.from_residual-in_err-lead-in-Lead.result c.from_residual-in_err-lead-in-Lead.ensures.1 in
    rw (p.1, p.2) (ap (λ (q : Question). as_told q (Err c.in_err-lead-in-Lead.field-0.0)) c.in-Lead.is ∙ told-led _ _ _ _ _ c.in-Lead.is c.in_err-lead-in-Lead.ensures)

pub returns-in_ok-lead-in-Lead : goal.returns-in_ok-lead-in-Lead
returns-in_ok-lead-in-Lead c =
    let word : to_z w64 (of_z w64 c.in_ok-lead-in-Lead.field-0) ≡ c.in_ok-lead-in-Lead.field-0 = search rules in
    ap (λ (x : ℤ). Led_to (record { answer = 0; lead = x })) word ∙ told-led _ _ _ _ _ c.in-Lead.is c.in_ok-lead-in-Lead.ensures

pub returns-in_err-in_flight-in-InFlight : goal.returns-in_err-in_flight-in-InFlight
returns-in_err-in_flight-in-InFlight c =
    let p = err_from_is_err_and c.from_residual-in_err-in_flight-in-InFlight.result c.from_residual-in_err-in_flight-in-InFlight.ensures.1 in
    rw (p.1, p.2) (ap (λ (q : Question). as_told q (Err c.in_err-in_flight-in-InFlight.field-0.0)) c.in-InFlight.is ∙ told-in-flight _ _ _ c.in-InFlight.is c.in_err-in_flight-in-InFlight.ensures)

pub returns-in_ok-in_flight-in-InFlight : goal.returns-in_ok-in_flight-in-InFlight
returns-in_ok-in_flight-in-InFlight c = told-in-flight _ _ _ c.in-InFlight.is c.in_ok-in_flight-in-InFlight.ensures
