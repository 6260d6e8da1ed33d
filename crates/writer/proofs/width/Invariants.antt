-- The loop of `writer::width`: after i turns the sum is the length of the bytes of the first i numbers, at most 10 each.
use Prim.Native.Nat.{◌*◌, ◌≤◌}
use mathlib.Core.Path.{◌≡◌}
use lib.ListN.{length, take}
use Rattle.number.specs.Number.{bytes_of}
use Rattle.writer.proofs.width.Given as goal

abbrev pub invariant-loop-v : goal.invariant-loop-v
invariant-loop-v l = (l.sum ≤ 10 * l.v-index) × (l.sum ≡ length (bytes_of (take l.v-index l.numbers)))
