-- `flight::message_at` answers `message_at`: where the place is past all words, each of its words is. Assumes nothing.
use mathlib.Core.Path.{sym, ◌∙◌}
use Rattle.flight.specs.Message.{message_at}
use Rattle.flight.proofs.Keys.{message-past}
use Rattle.flight.proofs.message_at.Goals as goal

pub returns-then-at-words : goal.returns-then-at-words
returns-then-at-words c = c.unpack.ensures ∙ sym (message-past c.args.words.now
    c.args.i c.if-at-words.true)

pub returns : goal.returns
unfolding message_at
returns c =
    let a = c.word-3.ensures in
    let b = c.word-2.ensures in
    let d = c.word.ensures in
    rw (← d, ← b, ← a) c.unpack-2.ensures
