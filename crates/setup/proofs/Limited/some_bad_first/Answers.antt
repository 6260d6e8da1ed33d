-- `setup::Limited::some_bad_first` says whether some reading is bad: `any` asks `bad_first` of each reading with its index. Assumes nothing.
use Rattle.std.proofs.Common.{ℕ, ◌∙◌, rules, tests}
use Rattle.std.proofs.lemmas.Iterator.{YieldsList-from_slice}
use Rattle.std.proofs.lemmas.Iterator.Consumers.{YieldsList-from_enumerate}
use Rattle.std.proofs.lemmas.Iterator.Search.{any_from_yields_List}
use Rattle.clock.specs.Tests.{any-some_to}
use Rattle.setup.specs.Setup.{bad_first}
use Rattle.setup.proofs.Limited.some_bad_first.Goals as goal

pub returns : goal.returns
returns c =
    any_from_yields_List (λ (x : ℕ × ℕ). bad_first c.args.self.plan x.0 x.1) _ _ _ c.any.ensures.ran
    (YieldsList-from_enumerate (YieldsList-from_slice c.args.first.now (cc)) c.enumerate.ensures.count) (λ x b q k. search (rules, tests))
    ∙ any-some_to _ _
