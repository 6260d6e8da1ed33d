-- The loop of `text::put_long`: the digits behind place i are laid, and the rest is to be spelt in front of them.
use mathlib.Core.Path.{◌≡◌}
use Rattle.text.specs.Text.{places}
use Rattle.text.proofs.Laws.{Spelt}
use Rattle.text.proofs.put_long.Given as goal

abbrev pub invariant-loop-i : goal.invariant-loop-i
invariant-loop-i l = (l.count ≡ places l.x) × Spelt l.x l.initial.out l.at l.count l.out l.rest l.i
