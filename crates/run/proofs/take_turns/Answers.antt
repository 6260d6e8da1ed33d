-- `run::take_turns` lets each station take its turn: after i turns the first i stand in their places and so many messages are
-- sent. Assumes nothing.
use Rattle.std.proofs.Common.{◌≡◌, ap, ◌∙◌, arith}
use Rattle.run.specs.Limits.{table-station}
use Rattle.run.specs.Advance.{stations_to, sent_to, goes-is, turns-few, turns-start, turn-stations, turn-sent}
use Rattle.run.specs.Sends.{sent-few}
use Rattle.run.proofs.take_turns.Goals as goal

pub loop-i-init : goal.loop-i-init
loop-i-init c = let t = turns-start c.args.l c.args.increments.now in record { stations = t.0; sent = t.1 }

pub bounds-increments-i : goal.bounds-increments-i
bounds-increments-i c = omega (arith, c.requires.long)

pub bounds-l-i : goal.bounds-l-i
bounds-l-i c = omega (arith, c.requires.settled.few)

pub bounds-stations-i : goal.bounds-stations-i
bounds-stations-i c = omega (arith, c.requires.settled.few)

pub overflow_add-sent : goal.overflow_add-sent
overflow_add-sent c =
    let a = c.args in
    let few = turns-few a.l a.increments.now c.loop-i.i in
    let one = sent-few a.l.plan c.loop-i.i c.advanced-o.result in
    omega (arith, c.loop-i.invariant.sent, c.count_sent-sent.ensures, c.requires.settled.few)

pub loop-i-preserved : goal.loop-i-preserved
loop-i-preserved c =
    let v = c.loop-i.invariant in
    let goes = goes-is _ _ _ c.requires _ (omega arith) _ (table-station c.args.l c.loop-i.i (omega arith)) _ c.advanced-o.ensures in
    record { stations = turn-stations _ _ _ _ goes v.stations; sent = turn-sent _ _ _ _ goes v.sent c.count_sent-sent.ensures }

pub returns : goal.returns
returns c =
    let s : c.loop-i.i ≡ c.args.l.plan.stations = omega arith in
    let v = c.loop-i.invariant in
    λ j. record { stations = (v.stations ∙ ap (stations_to _ _) s) j; sent = (v.sent ∙ ap (sent_to _ _) s) j }
