-- `event::some_bad_increment` says whether some increment is bad: `any` asks `bad_increment` of each increment with its index. Assumes nothing.
use Rattle.std.proofs.Common.{ℕ, ◌∙◌, rules, tests}
use Rattle.std.proofs.lemmas.Iterator.{YieldsList-from_slice}
use Rattle.std.proofs.lemmas.Iterator.Consumers.{YieldsList-from_enumerate}
use Rattle.std.proofs.lemmas.Iterator.Search.{any_from_yields_List}
use Rattle.clock.specs.Tests.{any-some_to}
use Rattle.event.specs.Event.{bad_increment}
use Rattle.event.proofs.some_bad_increment.Goals as goal

pub returns : goal.returns
returns c =
    any_from_yields_List (λ (x : ℕ × ℕ). bad_increment c.args.faulty x.0 x.1) _ _ _ c.any.ensures.ran
    (YieldsList-from_enumerate (YieldsList-from_slice c.args.increments.now (cc)) c.enumerate.ensures.count) (λ x b q k. search (rules, tests))
    ∙ any-some_to _ _
