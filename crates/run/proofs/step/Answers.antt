-- `run::step` comes to what is heard at the station that hears, or to 11 or the advance. Assumes nothing.
use mathlib.Core.Path.{sym, ap, ◌∙◌}
use Rattle.std.proofs.lemmas.Result.{err_from_is_err_and}
use Rattle.line.specs.declared.Line.{Line}
use native.Mathlib.Omega.{arith}
use Rattle.run.specs.Limits.{held-settled, table-station}
use Rattle.run.specs.Hearing.{noted-all, line-stands, line-heard, seats-same}
use borrow.Author.Rules.{rules}
use Rattle.run.proofs.step.Goals as goal

pub pass-requires : goal.pass-requires
pass-requires c = record { held = c.requires; nobody = omega (arith, c.in_default.ensures.heard) }

pub note_signed-requires : goal.note_signed-requires
note_signed-requires c = let few = (held-settled c.requires).few in (omega (arith, few), omega (arith, few))

pub offset_bounds-l-i : goal.offset_bounds-l-i
offset_bounds-l-i c = omega (arith, (held-settled c.requires).few, c.in-Some.ensures.within)

pub bounds-l-i : goal.bounds-l-i
bounds-l-i c = omega (arith, (held-settled c.requires).few, c.in-Some.ensures.within)

pub hear-requires : goal.hear-requires
hear-requires c = rw c.rest.ensures (record { stands = line-stands c.requires _ _ c.in-Some.ensures.heard c.in-Some.ensures.within; signed_len = search rules })

pub seat-requires : goal.seat-requires
seat-requires c = omega (arith, (held-settled c.requires).few, c.in-Some.ensures.within)

-- what is heard where it is refused, and where it is not
pub returns-in_err-h : goal.returns-in_err-h
returns-in_err-h c =
    let a = c.args in
    let p = err_from_is_err_and c.from_residual.result c.from_residual.ensures.1 in
    let few = (held-settled c.requires).few in
    let noted = noted-all a.l _ (omega (arith, few)) c.note_signed.ensures in
    let k = c.in-Some.ensures.within in
    let heard = line-heard c.requires _ _ c.in-Some.ensures.heard k _ _ noted _ _ (rw c.rest.ensures at c.in_err-h.ensures) in
    rw (p.1, p.2) (record { value = sym (seats-same a.l c.in-Some.i _ _ (omega (arith, k)) (table-station a.l _ (omega (arith, k)))) ∙ heard.0; words_after = heard.1 })

pub returns : goal.returns
returns c =
    let a = c.args in
    let few = (held-settled c.requires).few in
    let noted = noted-all a.l _ (omega (arith, few)) c.note_signed.ensures in
    let heard = line-heard c.requires _ _ c.in-Some.ensures.heard c.in-Some.ensures.within _ _ noted _ _ (rw c.rest.ensures at c.in_ok-h.ensures) in
    record { value = ap (λ (x : Line). record { answer = 0; line = x }) c.seat.ensures ∙ heard.0; words_after = heard.1 }
