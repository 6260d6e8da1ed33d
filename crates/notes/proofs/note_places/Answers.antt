-- `notes::note_places` notes the messages from the first to the last. The loop's invariant: the notes are those of the messages
-- passed. Assumes nothing.
use Rattle.std.proofs.Common.{◌≡◌, refl, ap, ◌∙◌, ℕ, ◌-◌, length, arith}
use Rattle.flight.specs.Message.{places_to}
use Rattle.flight.proofs.Keys.{holds-true, holds-false}
use Rattle.flight.proofs.Places.{length-places, places-start, places-turn}
use Rattle.notes.proofs.note_places.Goals as goal

pub returns-then-to-words : goal.returns-then-to-words
returns-then-to-words c = let e = holds-false c.args.to c.args.words.now c.if-to-words.true in rw e refl

pub loop-i-init : goal.loop-i-init
loop-i-init c = let a = c.args in record { most = omega arith; noted = places-start a.words.now a.from a.places.now }

pub loop-i-preserved : goal.loop-i-preserved
loop-i-preserved c =
    let a = c.args in
    let b = c.loop-i in
    record { most = omega arith; noted = c.note_place.ensures ∙ places-turn a.words.now a.from b.i a.places.now (omega arith) b.invariant.noted }

pub shape_of-places : goal.shape_of-places
shape_of-places c =
    let a = c.args in
    let b = c.loop-i in
    ap length b.invariant.noted ∙ length-places a.words.now a.from (b.i - a.from) a.places.now

pub returns : goal.returns
returns c =
    let a = c.args in
    let b = c.loop-i in
    let e = holds-true a.to a.words.now c.if-to-words.false in
    let k : b.i - a.from ≡ a.to - a.from = omega arith in
    rw e (b.invariant.noted ∙ ap (λ (k : ℕ). places_to a.words.now a.from k a.places.now) k)
