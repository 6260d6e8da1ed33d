-- `run::some_unsigned` says whether some station is a sound signer that did not sign: `any` asks `unsigned_at` of each. Assumes
-- nothing.
use Rattle.std.proofs.Common.{◌∙◌, refl, arith, rules, tests}
use Rattle.std.proofs.lemmas.Iterator.{YieldsList-from_range}
use Rattle.std.proofs.lemmas.Iterator.Search.{any_from_yields_List}
use Rattle.line.specs.HeldLaws.{any-some_station}
use Rattle.run.specs.Hearing.{unsigned_by}
use Rattle.run.proofs.some_unsigned.Goals as goal

pub returns : goal.returns
unfolding unsigned_by
returns c =
    let a = c.args in
    any_from_yields_List (unsigned_by a.plan a.signed.now a.round a.signers) _ _ _ c.any.ensures.ran
    (YieldsList-from_range 0 a.plan.stations a.plan.stations refl (omega arith)) (λ x b q k. search (rules, tests))
    ∙ any-some_station _ _
