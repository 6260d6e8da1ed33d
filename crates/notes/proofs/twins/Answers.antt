-- `notes::twins` answers `twins`. The loop's invariant: the place of each word passed is marked, and no two of those words are equal.
-- Assumes nothing.
use Rattle.std.proofs.Common.{◌≡◌, refl, sym, ◌∙◌, ◌%◌, get_or, length-set, arith}
use Rattle.flight.proofs.Keys.{holds-true, holds-false}
use Rattle.notes.specs.Marks.{first, marked-none, marked_more, different-none, different-more, different-twins, new_word, word-twins}
use Rattle.notes.proofs.twins.Goals as goal

pub returns-then-count-words : goal.returns-then-count-words
returns-then-count-words c = let e = holds-false c.args.count c.args.words.now
    c.if-count-words.true in rw e refl

pub loop-i-init : goal.loop-i-init
loop-i-init c = record { room = refl; marked = marked-none _ _; different = different-none _ }

pub bounds-marks-at : goal.bounds-marks-at
bounds-marks-at c = omega arith

pub returns-then-again : goal.returns-then-again
returns-then-again c =
    let a = c.args in
    let l = a.words.now in
    let i = c.loop-i.i in
    let e = holds-true a.count l c.if-count-words.false in
    let mark = get_or c.loop-i.marks (first l i % 1024) 0 in
    rw e (sym (word-twins a.count i l mark (omega arith) (sym c.again.ensures ∙ c.if-again.true)))

pub loop-i-preserved : goal.loop-i-preserved
loop-i-preserved c =
    let l = c.args.words.now in
    let marks = c.loop-i.marks in
    let v = c.loop-i.invariant in
    let i = c.loop-i.i in record {
      room = length-set marks (first l i % 1024) 1 ∙ v.room;
      marked = marked_more i l marks v.room v.marked;
      different = different-more i l v.different (new_word i l marks (first l i) v.marked (sym c.again.ensures ∙ c.if-again.false));
    }

pub returns : goal.returns
returns c =
    let a = c.args in
    let e = holds-true a.count a.words.now c.if-count-words.false in
    let n : c.loop-i.i ≡ a.count = omega arith in
    rw e (sym (different-twins a.count a.words.now (rw n at c.loop-i.invariant.different)))
