-- The loop of `number::read_long`: what is still to be read from the place answers what the whole reading does, and the weights
-- keep every sum within a word.
use mathlib.Core.Path.{◌≡◌}
use Prim.Native.Nat.{◌-◌}
use Rattle.number.specs.Number.{number_from, read_number}
use Rattle.number.proofs.Laws.{Weight}
use Rattle.number.proofs.read_long.Given as goal

abbrev pub invariant-loop : goal.invariant-loop
invariant-loop l = Weight (9 - l.counter) l.weight l.sum ×
    (number_from (9 - l.counter) l.bytes l.place l.weight l.sum ≡ read_number l.bytes l.at)
