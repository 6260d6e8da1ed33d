-- Tests, and what they say where they hold or fail.
use Rattle.std.specs.Prelude.{ℕ, zero, suc, ◌+◌, ◌≤◌, ◌<◌, Bool, true, false, ◌&&◌, ◌||◌, List, length, ◌≡◌, refl, ltb, get_or, take}
use Rattle.std.specs.List.{list_any, enumerate_from}
use Rattle.std.proofs.Common.{ap, ap₂, sym, ◌∙◌, add-one, zero-add, arith, ltb-false, le-ltb}
use Rattle.std.proofs.lemmas.List.Folds.{list_any_more}
use Rattle.std.proofs.lemmas.List.FromFn.{length-enumerate_from, get_or-enumerate_from}
use Rattle.std.proofs.Math.Seq.{take-length}
use Rattle.std.proofs.Math.Decide.{dec_lt}

-- x is not from low to high
abbrev pub outside : ℕ → ℕ → ℕ → Bool
outside low high x = ltb x low || ltb high x

-- one of the first k of l has p, which is asked of its index and of itself
unfoldable pub some_to : (ℕ → ℕ → Bool) → List ℕ → ℕ → Bool
some_to p l zero = false
some_to p l (suc k) = some_to p l k || p k (get_or l k 0)

-- both parts of a test that holds
pub both : (a b : Bool) → (a && b) ≡ true → (a ≡ true) × (b ≡ true)
both true true e = (refl, refl)
both true false e = (refl, e)
both false true e = (e, refl)
both false false e = (e, e)

-- neither part of a test that fails
pub neither : (a b : Bool) → (a || b) ≡ false → (a ≡ false) × (b ≡ false)
neither true true e = (e, e)
neither true false e = (e, refl)
neither false true e = (refl, e)
neither false false e = (refl, refl)

-- what is not outside is inside
pub inside : (low high x : ℕ) → outside low high x ≡ false → (low ≤ x) × (x ≤ high)
inside low high x e = let n = neither (ltb x low) (ltb high x) e in (ltb-false x low n.0, ltb-false high x n.1)

pub not-outside : (low high x : ℕ) → low ≤ x → x ≤ high → outside low high x ≡ false
not-outside low high x l h = simp (le-ltb x low l, le-ltb high x h)

-- none of the first 0
pub some_to-none : (p : ℕ → ℕ → Bool) (l : List ℕ) → some_to p l 0 ≡ false
unfolding some_to
some_to-none p l = refl

-- one more asked
pub some_to-more : (p : ℕ → ℕ → Bool) (l : List ℕ) (i : ℕ) {before here : Bool}
    → before ≡ some_to p l i → here ≡ p i (get_or l i 0) → (before || here) ≡ some_to p l (i + 1)
unfolding some_to
some_to-more p l i e f = rw add-one (ap₂ ◌||◌ e f)

-- where none has p, each fails it
pub some_to-each : (p : ℕ → ℕ → Bool) (l : List ℕ) (k i : ℕ) → some_to p l k ≡ false → i < k → p i (get_or l i 0) ≡ false
unfolding some_to
some_to-each p l zero i e h = absurd (omega arith)
some_to-each p l (suc k) i e h =
    let n = neither (some_to p l k) (p k (get_or l k 0)) e in
    elim (dec_lt i k) [
      | yes b ↦ some_to-each p l k i n.0 b
      | no b ↦ let s : i ≡ k = omega arith in rw s n.1
    ]

-- what `any` finds in a list with the index of each: whether one of them has p
pub any-some_to : (p : ℕ → ℕ → Bool) (l : List ℕ) → list_any (λ (x : ℕ × ℕ). p x.0 x.1) (enumerate_from 0 l) ≡ some_to p l (length l)
unfolding some_to
any-some_to p l =
    ap (list_any test) (sym (take-length pairs) ∙ ap (λ (k : ℕ). take k pairs) (length-enumerate_from 0 l)) ∙ go (length l) (omega arith)
  where
    test : ℕ × ℕ → Bool
    test x = p x.0 x.1

    pairs : List (ℕ × ℕ)
    pairs = enumerate_from 0 l

    go : (k : ℕ) → k ≤ length l → list_any test (take k pairs) ≡ some_to p l k
    go zero h = refl
    go (suc k) h =
        let within : k < length l = omega arith in
        rw (← add-one) (list_any_more test pairs k (0, 0) (omega (arith, length-enumerate_from 0 l)))
        ∙ ap₂ ◌||◌ (go k (omega arith)) (ap test (get_or-enumerate_from 0 l k (0, 0) within) ∙ ap (λ (n : ℕ). p n (get_or l k 0)) (zero-add k))
