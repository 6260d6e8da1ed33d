-- `writer::write_event` writes an event that is not barred as its numbers, kind by kind, and else answers its number. Assumes
-- nothing.
use mathlib.Core.Path.{refl}
use Rattle.refusal.proofs.Laws.{refused, passed}
use Rattle.script.specs.Write.{event_numbers}
use Rattle.writer.specs.Laws.{refused-writes, accepted-writes}
use Rattle.writer.proofs.write_event.Goals as goal

pub returns-in_err-event_answer : goal.returns-in_err-event_answer
returns-in_err-event_answer c =
    let w = refused-writes _ _ _ _ _ c.in_err-event_answer.ensures (refused _) in
    rw (passed _ c.from_residual.ensures.1) (record { value = w.0; out_after = w.1 })

pub returns-in-Advance : goal.returns-in-Advance
unfolding event_numbers
returns-in-Advance c =
    let w = accepted-writes _ _ _ _ _ c.in_ok-event_answer.ensures refl _ _ _ (rw c.in-Advance.is)
    (c.write_numbers.ensures.value, c.write_numbers.ensures.out_after) in
    record { value = w.0; out_after = w.1 }

pub returns-in-Deliver : goal.returns-in-Deliver
unfolding event_numbers
returns-in-Deliver c =
    let w = accepted-writes _ _ _ _ _ c.in_ok-event_answer.ensures refl _ _ _ (rw c.in-Deliver.is)
    (c.write_numbers-in-Deliver.ensures.value, c.write_numbers-in-Deliver.ensures.out_after) in
    record { value = w.0; out_after = w.1 }

pub returns-in-Send : goal.returns-in-Send
unfolding event_numbers
returns-in-Send c =
    let w = accepted-writes _ _ _ _ _ c.in_ok-event_answer.ensures refl _ _ _ (rw c.in-Send.is)
    (c.write_numbers-in-Send.ensures.value, c.write_numbers-in-Send.ensures.out_after) in
    record { value = w.0; out_after = w.1 }
