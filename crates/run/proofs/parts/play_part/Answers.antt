-- `run::play_part` answers 10, or checks the record once, lays beside it what is kept, and plays its events. Assumes nothing.
use mathlib.Core.Path.{refl, sym, ◌∙◌}
use native.Mathlib.Omega.{arith}
use Rattle.run.specs.Limits.{held-is, held-settled}
use Rattle.run.proofs.PartLaws.{onward-start, ready-new, part-bad, part-ends}
use Rattle.run.proofs.parts.play_part.Goals as goal

pub returns-then-bad_line : goal.returns-then-bad_line
returns-then-bad_line c =
    let a = c.args in
    let bad = part-bad a.l a.words.now a.bytes.now a.at a.played a.out.now a.from (sym c.bad_line.ensures ∙ c.if-bad_line.true) in
    record { value = bad.0; words_after = bad.1.0; out_after = bad.1.1 }

pub seated-line-requires : goal.seated-line-requires
seated-line-requires c = (held-settled (held-is _ _ (sym c.bad_line.ensures ∙ c.if-bad_line.false))).few

pub note_signed-requires : goal.note_signed-requires
note_signed-requires c =
    let a = c.args in
    let on = onward-start a.l a.words.now a.bytes.now a.at a.played a.out.now a.from (sym c.bad_line.ensures ∙ c.if-bad_line.false) c.seated-line.ensures in
    let few = (held-settled (held-is _ _ on.good)).few in
    (omega (arith, few), omega (arith, few))

pub play_on-requires : goal.play_on-requires
play_on-requires c =
    let a = c.args in
    let on = onward-start a.l a.words.now a.bytes.now a.at a.played a.out.now a.from (sym c.bad_line.ensures ∙ c.if-bad_line.false) c.seated-line.ensures in
    ready-new _ _ _ _ _ _ _ on.good on.twelve refl c.note_signed.ensures refl c.line_end-long.ensures.value c.line_end-long.ensures.out_after

pub returns : goal.returns
returns c =
    let a = c.args in
    let ok = sym c.bad_line.ensures ∙ c.if-bad_line.false in
    let ends = part-ends a.l a.words.now a.bytes.now a.at a.played a.out.now a.from ok c.seated-line.ensures _ refl in
    record { value = c.play_on.ensures.value ∙ ends.0; words_after = c.play_on.ensures.words_after ∙ ends.1.0; out_after = c.play_on.ensures.out_after ∙ ends.1.1 }
