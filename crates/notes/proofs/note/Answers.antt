-- `notes::note` notes the oldest time sent of each pair. The loop's invariant: the notes are those of the messages passed.
-- Assumes nothing.
use Rattle.std.proofs.Common.{◌≡◌, refl, ap, ap₂, ◌∙◌, ℕ, ◌+◌, ◌*◌, ◌%◌, List, length, get_or, set, min, add-one, arith}
use Rattle.notes.specs.Notes.{noted, length-noted}
use Rattle.notes.proofs.note.Goals as goal

pub loop-i-init : goal.loop-i-init
unfolding noted
loop-i-init c = refl

pub bounds-oldest-at : goal.bounds-oldest-at
bounds-oldest-at c =
    let a = c.args in
    let b = c.loop-i in
    omega (arith, ap length b.invariant, length-noted b.i a.words.now a.oldest.now)

pub loop-i-preserved : goal.loop-i-preserved
unfolding noted
loop-i-preserved c =
    let w = c.args.words.now in
    let i = c.loop-i.i in
    let e = c.loop-i.invariant in
    rw add-one
    (ap₂ (λ (t : List ℕ) (s : ℕ). set t (get_or w (3 * i) 0 % 256) s) e
    (c.min.ensures ∙ ap (λ (t : List ℕ). min (get_or t (get_or w (3 * i) 0 % 256) 0) (get_or w (3 * i + 2) 0)) e))

pub shape_of-oldest : goal.shape_of-oldest
shape_of-oldest c =
    let a = c.args in
    let b = c.loop-i in
    ap length b.invariant ∙ length-noted b.i a.words.now a.oldest.now

pub returns : goal.returns
returns c =
    let a = c.args in
    let e : c.loop-i.i ≡ a.count = omega arith in
    c.loop-i.invariant ∙ ap (λ (n : ℕ). noted n a.words.now a.oldest.now) e
