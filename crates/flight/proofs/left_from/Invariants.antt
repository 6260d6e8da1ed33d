-- `flight::left_from` looks for the first message of these names: no message passed has the word. Assumes nothing.
use Rattle.std.proofs.Common.{◌≡◌, ℕ, ◌*◌, ◌<◌, get_or}
use Rattle.flight.proofs.left_from.Given as goal

abbrev pub invariant-loop-i : goal.invariant-loop-i
invariant-loop-i l = (j : ℕ) → j < l.i → get_or l.words (3 * j) 0 ≡ l.key → ⊥
