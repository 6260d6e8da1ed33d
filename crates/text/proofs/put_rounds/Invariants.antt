-- The loop of `text::put_rounds`: after i turns the rounds of the first i stations lie there.
use mathlib.Core.List.{[]}
use Prim.Native.Nat.{◌*◌, ◌-◌}
use Rattle.line.specs.Held.{run_of}
use Rattle.text.specs.Text.{rounds_to}
use Rattle.text.proofs.Laws.{Written}
use Rattle.text.proofs.put_rounds.Given as goal

abbrev pub invariant-loop-i : goal.invariant-loop-i
invariant-loop-i l = Written l.initial.out l.at (rounds_to (run_of l.l []) l.i) (21 * (12 - l.i)) l.out l.next
