-- Laws of a place and the part from there: past the bytes it is their end, else the place itself.
use Rattle.std.specs.Prelude.{ℕ, ◌≤◌, ◌<◌, List, [], Bool, true, false, ◌≡◌, refl, leb, length, drop}
use Rattle.std.proofs.Common.{ap, ◌∙◌, arith, le-leb, leb-true}
use Rattle.std.proofs.Math.Seq.{drop-length}
use Rattle.std.proofs.lemmas.Bool.{lt-leb}
use Rattle.std.specs.Borrow.{Bor}
use Rattle.clock.specs.Pick.{pick}
use Rattle.reader.specs.Reader.{within, part_from}

pub within-past : (s : List ℕ) (at : ℕ) → length s ≤ at → within s at ≡ length s
unfolding within
within-past s at h = simp (le-leb _ _ h)

pub within-before : (s : List ℕ) (at : ℕ) → at < length s → within s at ≡ at
unfolding within
within-before s at h = simp (lt-leb _ _ h)

-- a place that is not past the bytes
pub within-inside : (s : List ℕ) (at : ℕ) → at ≤ length s → within s at ≡ at
unfolding within
within-inside s at h = chosen (leb (length s) at) (length s) at (λ e. omega (arith, leb-true (length s) at e, h))
  where
    chosen : (b : Bool) (m n : ℕ) → (b ≡ true → m ≡ n) → pick b m n ≡ n
    chosen true m n e = e refl
    chosen false m n e = refl

-- past the bytes nothing is left
pub part-past : (b : Bor (List ℕ)) (at : ℕ) → length b.now ≤ at → part_from b at ≡ []
unfolding part_from
part-past b at h = ap (λ (k : ℕ). drop k b.now) (within-past b.now at h) ∙ drop-length b.now
