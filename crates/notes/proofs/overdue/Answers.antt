-- `notes::overdue` answers `overdue`: the notes of all messages tell whether one was sent too long ago. Assumes nothing.
use Prim.Native.Nat.{◌-◌}
use mathlib.Core.Path.{refl, sym, ap, ◌∙◌}
use native.Mathlib.Omega.{arith}
use lib.ListN.{replicate}
use Rattle.clock.specs.Limits.{last}
use Rattle.flight.specs.Message.{decode, some_of}
use Rattle.flight.specs.Members.{overdue-early}
use Rattle.flight.proofs.Keys.{holds-true, holds-false}
use Rattle.notes.specs.Notes.{before, noted-overdue, first-notes}
use Rattle.notes.proofs.overdue.Goals as goal

pub returns-then-count-words : goal.returns-then-count-words
returns-then-count-words c =
    let e = holds-false c.args.count c.args.words.now c.if-count-words.true in
    rw e refl

pub returns-then-time-wait : goal.returns-then-time-wait
returns-then-time-wait c =
    let a = c.args in
    let e = holds-true a.count a.words.now c.if-count-words.false in
    rw e (sym (overdue-early a.time.0 a.wait (decode a.count a.words.now) c.if-time-wait.true))

pub returns : goal.returns
returns c =
    let a = c.args in
    let l = a.words.now in
    let t = a.time.0 in
    let e = holds-true a.count l c.if-count-words.false in
    rw e
    (c.search.ensures
    ∙ ap (some_of (before (t - a.wait))) c.note.ensures
    ∙ noted-overdue t a.wait a.count l (replicate 256 last)
    c.if-time-wait.false refl (first-notes t a.wait (omega arith)))
