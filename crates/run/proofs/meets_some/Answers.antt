-- `run::meets_some` says which of 12, 13 and 14 some station meets: after i turns the three tests say it of the first i. Assumes
-- nothing.
use Rattle.std.proofs.Common.{◌≡◌, ap, sym, ◌∙◌, [], arith}
use Rattle.line.specs.Record.{some_station}
use Rattle.line.specs.Event.{exceeds_at, drifts_at}
use Rattle.line.specs.Held.{run_of}
use Rattle.line.specs.HeldLaws.{some-none, some_more}
use Rattle.run.specs.declared.Meets.{Meets}
use Rattle.run.specs.Limits.{table-station}
use Rattle.run.specs.Advance.{blocked_at, meets-is}
use Rattle.run.proofs.meets_some.Goals as goal

pub loop-i-init : goal.loop-i-init
loop-i-init c = record { exceeds = sym (some-none _); drifts = sym (some-none _); passes = sym (some-none _) }

pub bounds-increments-i : goal.bounds-increments-i
bounds-increments-i c = omega (arith, c.requires.long)

pub bounds-l-i : goal.bounds-l-i
bounds-l-i c = omega (arith, c.requires.settled.few)

pub loop-i-preserved : goal.loop-i-preserved
loop-i-preserved c =
    let m = meets-is _ _ _ c.requires _ (omega arith) _ (table-station c.args.l c.loop-i.i (omega arith)) _ c.meets_at-t.ensures in
    let v = c.loop-i.invariant in record {
      exceeds = some_more (exceeds_at (run_of _ []) _) _ v.exceeds (ap (λ (x : Meets). x.exceeds) m);
      drifts = some_more (drifts_at (run_of _ []) _ _) _ v.drifts (ap (λ (x : Meets). x.drifts) m);
      passes = some_more (blocked_at _ _) _ v.passes (ap (λ (x : Meets). x.passes) m);
    }

pub returns : goal.returns
returns c =
    let s : c.loop-i.i ≡ c.args.l.plan.stations = omega arith in
    let v = c.loop-i.invariant in
    λ j. record {
      exceeds = (v.exceeds ∙ ap (some_station _) s) j;
      drifts = (v.drifts ∙ ap (some_station _) s) j;
      passes = (v.passes ∙ ap (some_station _) s) j;
    }
