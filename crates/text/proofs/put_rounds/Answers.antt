-- `text::put_rounds` lays the rounds one behind the other, at most 21 bytes each. Assumes nothing.
use Rattle.std.proofs.Common.{ℕ, [], refl, ◌∙◌, arith}
use Rattle.line.specs.Held.{run_of}
use Rattle.text.proofs.Laws.{rounds-start, rounds-next, round-shown}
use Rattle.text.proofs.put_rounds.Goals as goal

pub loop-i-init : goal.loop-i-init
loop-i-init c = rounds-start (run_of c.args.l []) c.args.out.now c.args.at c.requires.at_in_bounds

pub loop-i-preserved : goal.loop-i-preserved
loop-i-preserved c =
    let a = c.args in
    let i : ℕ = c.loop-i.i in
    let shown = round-shown a.l i _ c.loop-i-test.true refl in
    rounds-next (run_of a.l []) a.out.now a.at i (omega (arith, c.requires.stations_bound)) c.loop-i.invariant (c.put_round-next.ensures.value ∙ rw shown refl) (c.put_round-next.ensures.out_after ∙ rw shown refl)
