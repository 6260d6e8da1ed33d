-- `run::send` comes to the faulty send's table and effect: 17, 18, then 19, else its recipient takes its new place and what it
-- sends follows. Assumes nothing.
use mathlib.Core.Path.{sym, ◌∙◌}
use native.Mathlib.Omega.{arith}
use Rattle.run.specs.Limits.{held-settled}
use Rattle.run.specs.Sends.{sent-few}
use Rattle.run.specs.Hearing.{lies-limits}
use Rattle.run.proofs.Hearing.{does-sound, does-unsigned, does-filled, does-sent}
use Rattle.run.proofs.send.Goals as goal

pub returns-then-not-has : goal.returns-then-not-has
returns-then-not-has c = let a = c.args in does-sound a.rest.plan a.rest.time a.rest.count a.s a.signed.now a.words.now a.sender a.recipient a.round a.signers (sym c.has.ensures ∙ c.if-not-has.true)

pub unsigned-requires : goal.unsigned-requires
unsigned-requires c = (omega (arith, (held-settled c.requires.stands.lies.held).few, c.requires.signed_len), omega (arith, (lies-limits c.requires.stands.lies).1))

pub returns-then-unsigned : goal.returns-then-unsigned
returns-then-unsigned c =
    let a = c.args in
    does-unsigned a.rest.plan a.rest.time a.rest.count a.s a.signed.now a.words.now a.sender a.recipient a.round a.signers (sym c.has.ensures ∙ c.if-not-has.false) _ c.unsigned.ensures c.if-unsigned.true

pub overflow_add-rest : goal.overflow_add-rest
overflow_add-rest c =
    let a = c.args in
    omega (arith, c.count_sent.ensures, sent-few a.rest.plan a.recipient c.heard-o.result, (lies-limits c.requires.stands.lies).3)

pub returns-then-rest-count_sent-gt-MAX_FLIGHT : goal.returns-then-rest-count_sent-gt-MAX_FLIGHT
returns-then-rest-count_sent-gt-MAX_FLIGHT c =
    let a = c.args in
    does-filled a.rest.plan a.rest.time a.rest.count a.s a.signed.now a.words.now a.sender a.recipient a.round a.signers (sym c.has.ensures ∙ c.if-not-has.false) _ c.unsigned.ensures c.if-unsigned.false _ c.heard-o.ensures (omega arith)

pub overflow_add-s : goal.overflow_add-s
overflow_add-s c = omega (arith, (lies-limits c.requires.stands.lies).1)

pub tell_noted-count-requires : goal.tell_noted-count-requires
tell_noted-count-requires c =
    let limits = lies-limits c.requires.stands.lies in
    record { place = limits.0; low = limits.1; fits = limits.2; room = omega (arith, c.count_sent.ensures, limits.4) }

pub returns : goal.returns
returns c =
    let a = c.args in
    does-sent a.rest.plan a.rest.time a.rest.count a.s a.signed.now a.words.now a.sender a.recipient a.round a.signers (sym c.has.ensures ∙ c.if-not-has.false) _ c.unsigned.ensures c.if-unsigned.false _ c.heard-o.ensures (omega arith) _ _ c.tell_noted-count.ensures.value c.tell_noted-count.ensures.words_after
