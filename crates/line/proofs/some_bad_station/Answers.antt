-- `line::some_bad_station` says whether some station's record is bad: `any` asks `bad_station_at` of each. Assumes nothing.
use Rattle.std.proofs.Common.{◌∙◌, refl, arith, rules, tests, []}
use Rattle.std.proofs.lemmas.Iterator.{YieldsList-from_range}
use Rattle.std.proofs.lemmas.Iterator.Search.{any_from_yields_List}
use Rattle.model.specs.Record.{bad_station_at}
use Rattle.line.specs.Held.{run_of}
use Rattle.line.specs.HeldLaws.{any-some_station}
use Rattle.line.proofs.some_bad_station.Goals as goal

pub returns : goal.returns
returns c =
    any_from_yields_List (bad_station_at (run_of c.args.l [])) _ _ _ c.any.ensures.ran
    (YieldsList-from_range 0 c.args.l.plan.stations c.args.l.plan.stations refl (omega arith)) (λ x b q k. search (rules, tests))
    ∙ any-some_station _ _
