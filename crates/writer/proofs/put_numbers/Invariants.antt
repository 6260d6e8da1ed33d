-- The loop of `writer::put_numbers`: after i turns the bytes of the first i numbers lie there.
use Prim.Native.Nat.{ℕ, ◌+◌}
use mathlib.Core.List.{List}
use mathlib.Core.Path.{◌≡◌}
use lib.ListN.{length, take}
use Rattle.number.specs.Number.{bytes_of, laid}
use Rattle.writer.proofs.put_numbers.Given as goal

pub record Put (vs out₀ : List ℕ) (at i : ℕ) (out : List ℕ) (place : ℕ) : Type 0 where
  pub next : place ≡ at + length (bytes_of (take i vs))
  pub long : length out ≡ length out₀
  pub same : out ≡ laid out₀ at (bytes_of (take i vs))

abbrev pub invariant-loop-v : goal.invariant-loop-v
invariant-loop-v l = Put l.numbers l.initial.out l.at l.v-index l.out l.place
