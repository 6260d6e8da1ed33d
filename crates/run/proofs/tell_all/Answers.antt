-- `run::tell_all` sends what each station sends, in order: after i turns what the first i sent follows the messages that stood.
-- Assumes nothing.
use Rattle.std.proofs.Common.{◌≡◌, refl, ap, ◌∙◌, ℕ, ◌+◌, ◌^◌, ◌<◌, [], ◌++◌, arith, rules}
use Rattle.flight.specs.Message.{decode, coded}
use Rattle.flight.proofs.Coding.{laid-length}
use Rattle.line.specs.Held.{run_of}
use Rattle.line.specs.Moves.{advance_sends}
use Rattle.run.specs.Limits.{table-station, station-small}
use Rattle.run.specs.Advance.{sent_to, goes-is, turn-sent, turn-room, turn-laid, turns-laid}
use Rattle.run.proofs.tell_all.Goals as goal

pub loop-i-init : goal.loop-i-init
loop-i-init c =
    let a = c.args in
    let t = turns-laid a.l a.words.now a.d a.increments.now c.requires.held (λ j. (c.type_inv.words j).fits) in
    record { number = t.0; laid = t.1 }

pub bounds-increments-i : goal.bounds-increments-i
bounds-increments-i c = omega (arith, c.requires.going.long)

pub bounds-l-i : goal.bounds-l-i
bounds-l-i c = omega (arith, c.requires.going.settled.few)

pub overflow_add-s : goal.overflow_add-s
overflow_add-s c =
    omega (arith, station-small c.requires.going.settled _ (omega arith) (table-station c.args.l c.loop-i.i (omega arith)))

pub tell-count-requires : goal.tell-count-requires
tell-count-requires c =
    let k : c.loop-i.i < c.args.l.plan.stations = omega arith in
    let here = table-station c.args.l c.loop-i.i k in
    let goes = goes-is _ _ _ c.requires.going _ k _ here _ c.advanced-o.ensures in
    let v = c.loop-i.invariant in
    turn-room _ _ _ _ goes _ c.requires.going k _ here _ c.after-time.ensures _ _ c.requires.held.room c.requires.room _ v.number v.laid

pub loop-i-preserved : goal.loop-i-preserved
loop-i-preserved c =
    let a = c.args in
    let i : ℕ = c.loop-i.i in
    let k : i < a.l.plan.stations = omega arith in
    let here = table-station a.l i k in
    let goes = goes-is _ _ _ c.requires.going _ k _ here _ c.advanced-o.ensures in
    let v = c.loop-i.invariant in
    let small : c.advanced-o.result.relay < 2 ^ 64 = search rules in record {
      number = c.tell-count.ensures.value ∙ omega (arith, v.number, turn-sent a.l a.increments.now i c.advanced-o.result goes refl refl);
      laid = turn-laid _ _ _ _ goes _ c.requires.going k _ here _ c.after-time.ensures _ _ c.requires.held.room c.requires.room _ v.number v.laid small c.tell-count.ensures.words_after;
    }

pub shape_of-words : goal.shape_of-words
shape_of-words c = laid-length c.loop-i.invariant.laid

pub returns : goal.returns
returns c =
    let a = c.args in
    let s : c.loop-i.i ≡ a.l.plan.stations = omega arith in record {
      value = c.loop-i.invariant.number ∙ ap (λ (k : ℕ). a.l.count + sent_to a.l a.increments.now k) s;
      words_after = c.loop-i.invariant.laid.words ∙ ap (λ (k : ℕ). coded a.words.now (decode a.l.count a.words.now ++ advance_sends (run_of a.l []) a.d
          a.increments.now k)) s;
    }
