-- `writer::put_numbers` lays the bytes of a row down, each number behind the last. Assumes nothing.
use Prim.Native.Nat.{ℕ, ◌+◌, ◌≤◌, ◌<◌}
use mathlib.Core.List.{List}
use mathlib.Core.Path.{◌≡◌, refl, sym, ◌∙◌, ap, ap₂}
use native.Mathlib.Numerals.{add-one}
use lib.ListN.{length, take, get_or, length-append}
use Rattle.number.specs.Number.{number_bytes, bytes_of, laid}
use Rattle.number.proofs.Laws.{laid_none, laid_on, length-laid}
use Rattle.writer.specs.Laws.{bytes-more, bytes-part}
use native.Mathlib.Omega.{arith}
use Rattle.writer.proofs.put_numbers.Invariants.{Put}
use Rattle.writer.proofs.put_numbers.Goals as goal

start : (vs out : List ℕ) (at : ℕ) → Put vs out at 0 out at
unfolding bytes_of
start vs out at = record { next = omega arith; long = refl; same = sym (laid_none out at) }

module _ (vs out₀ : List ℕ) (at i : ℕ) (out : List ℕ) (place : ℕ) (p : Put vs out₀ at i out place) (h : i < length vs)
    (room : at + length (bytes_of vs) ≤ length out₀)
  where
    so_far : length (bytes_of (take (i + 1) vs)) ≡ length (bytes_of (take i vs)) + length (number_bytes (get_or vs i 0))
    so_far = rw (add-one, bytes-more vs i h) (length-append (bytes_of (take i vs)) (number_bytes (get_or vs i 0)))

    fits : place + length (number_bytes (get_or vs i 0)) ≤ length out
    fits = omega (arith, p.next, p.long, so_far, bytes-part vs (i + 1))

    turn : {after : List ℕ} {behind : ℕ} → behind ≡ place + length (number_bytes (get_or vs i 0))
        → after ≡ laid out place (number_bytes (get_or vs i 0)) → Put vs out₀ at (i + 1) after behind
    turn {after} {behind} e f =
        let same : after ≡ laid out₀ at (bytes_of (take (i + 1) vs)) =
        f
        ∙ ap₂ (λ (l : List ℕ) (k : ℕ). laid l k (number_bytes (get_or vs i 0))) p.same p.next
        ∙ laid_on out₀ at (bytes_of (take i vs)) (omega (arith, bytes-part vs i)) (number_bytes (get_or vs i 0))
        ∙ ap (laid out₀ at) (sym (rw add-one (bytes-more vs i h)))
        in
        record {
          next = omega (arith, p.next, so_far);
          long = ap length same ∙ length-laid out₀ at (bytes_of (take (i + 1) vs)) (omega (arith, bytes-part vs (i + 1)));
          same = same;
        }

pub loop-v-init : goal.loop-v-init
loop-v-init c = start _ _ _

pub put_number-place-requires : goal.put_number-place-requires
put_number-place-requires c = fits _ _ _ _ _ _ c.loop-v.invariant (omega arith) c.requires

pub loop-v-preserved : goal.loop-v-preserved
loop-v-preserved c =
    turn _ _ _ _ _ _ c.loop-v.invariant (omega arith) c.requires c.put_number-place.ensures.value c.put_number-place.ensures.out_after
