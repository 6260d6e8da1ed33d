-- `run::advance` comes to the advance's table and effect: 12, 13, 14, 15, then 19, else each station takes its turn and what it
-- sends follows. Assumes nothing.
use Rattle.std.proofs.Common.{◌≡◌, refl, ap, ◌∙◌, ◌+◌, ◌<◌, ◌≤◌, arith, lt-ltb, le-ltb}
use Rattle.clock.specs.Limits.{max_flight}
use Rattle.run.specs.declared.Turns.{Turns}
use Rattle.event.specs.declared.Event.TheVariants.{Advance}
use Rattle.line.specs.Event.{event_rules}
use Rattle.line.specs.Held.{run_of}
use Rattle.run.specs.Limits.{held-count}
use Rattle.run.specs.Play.{comes-no}
use Rattle.run.specs.Advance.{turns-few, advance-rules, advance-comes}
use Rattle.run.proofs.advance.Goals as goal

pub returns-then-time-t : goal.returns-then-time-t
returns-then-time-t c =
    let no =
    comes-no c.args.l c.args.words.now _ _ 12
    (advance-rules _ _ _ _ c.requires.held c.requires.going _ c.after-time.ensures _ _ _ c.meets_some-t.ensures refl refl
    ∙ rw c.if-time-t.true refl)
    (λ z. omega arith) in
    record { value = no.0; words_after = no.1 }

pub returns-then-t : goal.returns-then-t
returns-then-t c =
    let no =
    comes-no c.args.l c.args.words.now _ _ 13
    (advance-rules _ _ _ _ c.requires.held c.requires.going _ c.after-time.ensures _ _ _ c.meets_some-t.ensures refl refl
    ∙ rw (c.if-time-t.false, c.if-t.true) refl)
    (λ z. omega arith) in
    record { value = no.0; words_after = no.1 }

pub returns-then-t-2 : goal.returns-then-t-2
returns-then-t-2 c =
    let no =
    comes-no c.args.l c.args.words.now _ _ 14
    (advance-rules _ _ _ _ c.requires.held c.requires.going _ c.after-time.ensures _ _ _ c.meets_some-t.ensures refl refl
    ∙ rw (c.if-time-t.false, c.if-t.false, c.if-t-2.true) refl)
    (λ z. omega arith) in
    record { value = no.0; words_after = no.1 }

pub returns-then-overdue : goal.returns-then-overdue
returns-then-overdue c =
    let no =
    comes-no c.args.l c.args.words.now _ _ 15
    (advance-rules _ _ _ _ c.requires.held c.requires.going _ c.after-time.ensures _ _ _ c.meets_some-t.ensures c.overdue.ensures refl
    ∙ rw (c.if-time-t.false, c.if-t.false, c.if-t-2.false, c.if-overdue.true) refl)
    (λ z. omega arith) in
    record { value = no.0; words_after = no.1 }

pub overflow_add-l : goal.overflow_add-l
overflow_add-l c =
    let a = c.args in
    let sent = ap (λ (t : Turns). t.sent) c.take_turns-sent.ensures in
    omega (arith, sent, turns-few a.l a.increments.now a.l.plan.stations, c.requires.going.settled.few, held-count c.requires.held)

pub returns-then-l-sent-gt-MAX_FLIGHT : goal.returns-then-l-sent-gt-MAX_FLIGHT
returns-then-l-sent-gt-MAX_FLIGHT c =
    let over : max_flight < c.args.l.count + c.take_turns-sent.result.sent = omega arith in
    let no =
    comes-no c.args.l c.args.words.now _ _ 19
    (advance-rules _ _ _ _ c.requires.held c.requires.going _ c.after-time.ensures _ _ _ c.meets_some-t.ensures c.overdue.ensures
    (ap (λ (t : Turns). t.sent) c.take_turns-sent.ensures)
    ∙ rw (c.if-time-t.false, c.if-t.false, c.if-t-2.false, c.if-overdue.false, lt-ltb _ _ over) refl)
    (λ z. omega arith) in
    record { value = no.0; words_after = no.1 }

pub tell_all-count-requires : goal.tell_all-count-requires
tell_all-count-requires c =
    let sent = ap (λ (t : Turns). t.sent) c.take_turns-sent.ensures in
    record { held = c.requires.held; going = c.requires.going; room = omega (arith, sent) }

pub returns : goal.returns
returns c =
    let sent = ap (λ (t : Turns). t.sent) c.take_turns-sent.ensures in
    let few : c.args.l.count + c.take_turns-sent.result.sent ≤ max_flight = omega arith in
    let a = c.args in
    let rules : event_rules (run_of a.l a.words.now) (Advance a.d) a.increments.now ≡ 0 =
    advance-rules _ _ _ _ c.requires.held c.requires.going _ c.after-time.ensures _ _ _ c.meets_some-t.ensures c.overdue.ensures sent
    ∙ rw (c.if-time-t.false, c.if-t.false, c.if-t-2.false, c.if-overdue.false, le-ltb _ _ few) refl in
    let yes =
    advance-comes _ _ _ _ c.requires.held c.requires.going _ c.after-time.ensures rules _ _ _
    (ap (λ (t : Turns). t.stations) c.take_turns-sent.ensures) c.tell_all-count.ensures.value c.tell_all-count.ensures.words_after in
    record { value = yes.0; words_after = yes.1 }
