-- `run::play_on` plays one event after the other: what is still to be played from where it stands is what was to be played from
-- the start, the record stays valid, and the rounds signed and the line's end are kept beside it. The measure is how many events
-- may still come. Assumes nothing.
use Rattle.std.proofs.Common.{refl, sym, ◌∙◌, take, arith}
use Rattle.std.proofs.Math.Seq.{length-take-le}
use Rattle.run.specs.Hearing.{line-stands}
use Rattle.run.specs.Limits.{held-is, held-settled}
use Rattle.refusal.proofs.Laws.{refused}
use Rattle.script.specs.Read.{none_read}
use Rattle.run.specs.Part.{standing}
use Rattle.run.proofs.PartLaws.{Turned, turned_as, goes_number, ready-onward, onward-read, onward-ends, part-from, turn-held, turn-few, turn-read, turn-hearer, turn-nobody, turn-plan, turn-refused, turn-passes, turn-unheard, turn-starts, turn-stays, turn-shown}
use Rattle.run.proofs.parts.play_on.Goals as goal
use Rattle.run.proofs.parts.play_on.Goals.{Joined-hearer, in-None+in-Ok-pass, in-None+in-Err-pass, in-Some+in-Ok-hear+then-heard-was, in-Some+in-Ok-hear+else-heard-was, in-Some+in-Err-hear}

-- the turn, whichever way it went: the event is played, and the places noted are as many as before
turned : (c : Joined-hearer)
    → Turned c.args.line.plan.stations (standing 0 c.loop-next.line c.loop-next.words c.loop-next.next c.loop-next.number c.loop-next.out c.loop-next.place) c.in-Ok.read.event (take c.args.line.plan.stations c.in-Ok.read.increments) c.match-hearer.answer c.match-hearer.line c.match-hearer.words c.match-hearer.signed c.match-hearer.end c.match-hearer.long
turned c =
    let inv = c.loop-next.invariant in
    elim c.match-hearer.branch [
      | in-None+in-Ok-pass w ↦
          turned_as (turn-passes _ _ _ inv.on inv.beside _ _ _ _ w.in-Ok-pass.ensures.value w.in-Ok-pass.ensures.words_after _ w.note_signed.ensures _ _ w.line_end-long.ensures.value w.line_end-long.ensures.out_after) w.words-is w.signed-is w.end-is w.long-is w.line-is w.answer-is
      | in-None+in-Err-pass w ↦
          turned_as (turn-refused _ _ _ inv.on inv.beside _ _ _ _ w.in-Err-pass.ensures.value w.in-Err-pass.ensures.words_after) w.words-is w.signed-is w.end-is w.long-is w.line-is (w.answer-is ∙ w.number-in-Err-pass.ensures)
      | in-Some+in-Ok-hear+then-heard-was w ↦
          turned_as (turn-starts _ _ _ inv.on inv.beside _ _ _ w.in-Some.ensures.heard w.in-Some.ensures.within _ _ (rw w.rest.ensures at w.in-Ok-hear.ensures) _ _ w.line_end-long-then-heard-was.ensures.value w.line_end-long-then-heard-was.ensures.out_after) w.words-is w.signed-is w.end-is w.long-is w.line-is w.answer-is
      | in-Some+in-Ok-hear+else-heard-was w ↦
          turned_as (turn-stays _ _ _ inv.on inv.beside _ _ _ w.in-Some.ensures.heard w.in-Some.ensures.within _ _ (rw w.rest.ensures at w.in-Ok-hear.ensures) w.if-heard-was.false) w.words-is w.signed-is w.end-is w.long-is w.line-is w.answer-is
      | in-Some+in-Err-hear w ↦
          turned_as (turn-unheard _ _ _ inv.on inv.beside _ _ _ w.in-Some.ensures.heard w.in-Some.ensures.within _ _ (rw w.rest.ensures at w.in-Err-hear.ensures) refl) w.words-is w.signed-is w.end-is w.long-is w.line-is (w.answer-is ∙ w.number-in-Err-hear.ensures)
    ]

pub loop-next-init : goal.loop-next-init
loop-next-init c =
    let a = c.args in
    record {
      on = ready-onward c.requires a.bytes.now a.next a.number a.out.now a.place;
      beside = c.requires.beside;
      few = (held-settled (held-is _ _ c.requires.good)).few;
      places = refl;
    }

pub returns-in-Err : goal.returns-in-Err
unfolding none_read
returns-in-Err c =
    let g = sym c.goes_on.ensures ∙ c.loop-next-test.true in
    let inv = c.loop-next.invariant in
    let from = part-from _ _ _ (onward-read _ _ _ inv.on g _ (turn-read _ _ _ inv.on inv.beside _ c.in-Err.ensures) (refused _) _ _ (rw c.number.ensures at c.script_line.ensures.value) (rw c.number.ensures at c.script_line.ensures.out_after)) in
    record { value = from.0; words_after = from.1.0; out_after = from.1.1 }

pub overflow_add-number : goal.overflow_add-number
overflow_add-number c = omega (arith, (goes_number _ _ _ _ _ (sym c.goes_on.ensures ∙ c.loop-next-test.true)).0)

pub pass-requires : goal.pass-requires
pass-requires c =
    let inv = c.loop-next.invariant in
    record { held = turn-held _ _ _ inv.on inv.beside; nobody = turn-nobody _ _ _ inv.on inv.beside _ _ c.in-None.ensures.heard (omega arith) }

pub note_signed-requires : goal.note_signed-requires
note_signed-requires c =
    let inv = c.loop-next.invariant in
    let many = turn-plan _ _ _ inv.on inv.beside _ _ _ c.in-Ok-pass.ensures.value in
    let few = turn-few _ _ _ inv.on inv.beside in
    (omega (arith, many, few), omega (arith, many, few, inv.beside.twelve))

pub hear-requires : goal.hear-requires
hear-requires c =
    let inv = c.loop-next.invariant in
    rw c.rest.ensures (record { stands = line-stands (turn-held _ _ _ inv.on inv.beside) _ _ (turn-hearer _ _ _ inv.on inv.beside _ _ c.in-Some.ensures.heard) (omega (arith, c.in-Some.ensures.within, inv.beside.stations)); signed_len = inv.beside.twelve })

pub slice_bounds-event_line-end : goal.slice_bounds-event_line-end
slice_bounds-event_line-end c = let b = (turned c).beside in omega (arith, b.fits, b.room)

pub slice_bounds-event_line-end-in-loop-next : goal.slice_bounds-event_line-end-in-loop-next
slice_bounds-event_line-end-in-loop-next c = let b = (turned c).beside in sym (length-take-le _ _ (omega (arith, b.fits, b.room)))

pub loop-next-smaller : goal.loop-next-smaller
loop-next-smaller c = omega (arith, (goes_number _ _ _ _ _ (sym c.goes_on.ensures ∙ c.loop-next-test.true)).0)

pub loop-next-preserved : goal.loop-next-preserved
loop-next-preserved c =
    let inv = c.loop-next.invariant in
    let g = sym c.goes_on.ensures ∙ c.loop-next-test.true in
    let t = turned (goal.at.loop-next-preserved c).Joined-hearer in
    record {
      on = turn-shown _ _ _ inv.on inv.beside g _ c.in-Ok.ensures refl t _ _ c.event_line-place.ensures.value c.event_line-place.ensures.out_after;
      beside = t.beside;
      few = inv.few;
      places = c.match-hearer.auto.places ∙ inv.places;
    }

pub shape_of-words : goal.shape_of-words
shape_of-words c = c.loop-next.invariant.on.words

pub shape_of-out : goal.shape_of-out
shape_of-out c = c.loop-next.invariant.on.out

pub shape_of-signed : goal.shape_of-signed
shape_of-signed c = c.loop-next.invariant.beside.twelve ∙ sym c.requires.beside.twelve

pub shape_of-places : goal.shape_of-places
shape_of-places c = c.loop-next.invariant.places

pub shape_of-end : goal.shape_of-end
shape_of-end c = c.loop-next.invariant.beside.room ∙ sym c.requires.beside.room

pub returns : goal.returns
returns c =
    let from = part-from _ _ _ (onward-ends _ _ _ c.loop-next.invariant.on (sym c.goes_on.ensures ∙ c.loop-next-test.false)) in
    record { value = from.0; words_after = from.1.0; out_after = from.1.1 }
