-- `run::tell_noted` of a station that sends nothing leaves the words as they are; else it is what `tell` promises. Assumes nothing.
use Rattle.std.proofs.Common.{sym, ◌∙◌}
use Rattle.run.specs.Sends.{sends_none}
use Rattle.run.proofs.tell_noted.Goals as goal

pub returns-then-quiet : goal.returns-then-quiet
returns-then-quiet c =
    let a = c.args in
    let none = sends_none a.rest.plan a.rest.time.0 a.i a.round a.o a.words.now a.rest.count c.requires (sym c.quiet.ensures ∙ c.if-quiet.true) in
    record { value = none.0; words_after = none.1 }
