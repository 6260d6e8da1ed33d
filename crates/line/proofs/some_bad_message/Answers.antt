-- `line::some_bad_message` says whether some message is bad: `any` asks `bad_message` of each. Assumes nothing.
use Rattle.std.proofs.Common.{ℕ, ◌∙◌, refl, arith, rules, tests, []}
use Rattle.std.proofs.lemmas.Iterator.{YieldsList-from_range}
use Rattle.std.proofs.lemmas.Iterator.Search.{any_from_yields_List}
use Rattle.flight.specs.Message.{message_at}
use Rattle.model.specs.Record.{bad_message}
use Rattle.line.specs.Held.{run_of}
use Rattle.line.specs.HeldLaws.{any-some_of}
use Rattle.line.proofs.some_bad_message.Goals as goal

pub returns : goal.returns
returns c =
    any_from_yields_List (λ (i : ℕ). bad_message (run_of c.args.l []) (message_at c.args.words.now i)) _ _ _ c.any.ensures.ran
    (YieldsList-from_range 0 c.args.l.count c.args.l.count refl (omega arith)) (λ x b q k. search (rules, tests))
    ∙ any-some_of _ _ _
