-- Some member of a list has a property: how that passes through the lists that a flight is made of.
use Rattle.std.specs.Prelude.{ℕ, zero, suc, ◌-◌, ◌<◌, Bool, true, false, List, [], ◌∷◌, ◌++◌, ◌⊎◌, ◌≡◌, refl, eqb, length, get_or}
use Rattle.std.proofs.Common.{inl, inr, arith, eqb-true, eq-eqb}
use Rattle.std.proofs.Math.Decide.{dec_lt}
use Rattle.std.proofs.lemmas.Bool.{eqb-false}
use Rattle.clock.specs.Pick.{pick}
use Rattle.mask.specs.Mask.{has}
use Rattle.flight.specs.declared.Message.{Message}
use Rattle.flight.specs.Message.{no_message, without, toward, sent_to}
use Rattle.flight.specs.Members.{All, also, length_without, without_at}

-- some member has P
pub data Some {A : Type 0} (P : A → Type 0) : List A → Type 0 where
  here : {a : A} {l : List A} → P a → Some P (a ∷ l)
  further : {a : A} {l : List A} → Some P l → Some P (a ∷ l)

module _ {A : Type 0} {P : A → Type 0} where
  -- none of no members
  pub some-nil : Some P [] → ⊥
  some-nil = elim [ ]

  -- of the first of two lists
  pub some_left : {a : List A} (b : List A) → Some P a → Some P (a ++ b)
  some_left b (here p) = here p
  some_left b (further s) = further (some_left b s)

  -- of the second
  pub some_right : (a : List A) {b : List A} → Some P b → Some P (a ++ b)
  some_right [] s = s
  some_right (x ∷ a) s = further (some_right a s)

  -- at a place
  pub some_at : (l : List A) (i : ℕ) (d : A) → i < length l → P (get_or l i d) → Some P l
  some_at [] i d h p = absurd (omega arith)
  some_at (a ∷ l) zero d h p = here p
  some_at (a ∷ l) (suc i) d h p = further (some_at l i d (omega arith) p)

  -- at which place
  pub place : {l : List A} (d : A) → Some P l → (i : ℕ) × (i < length l) × P (get_or l i d)
  place d (here p) = (0, omega arith, p)
  place d (further s) = let x = place d s in (suc x.0, omega (arith, x.1), x.2)

  -- it has what all have
  pub some-all : {Q R : A → Type 0} {l : List A} → ((a : A) → P a → Q a → R a) → Some P l → All Q l → (a : A) × R a
  some-all f (here p) (also q x) = (_, f _ p q)
  some-all f (further s) (also q x) = some-all f s x

-- one message taken out: it was that one, or it is still there
pub some-without : {P : Message → Type 0} (ms : List Message) (i : ℕ) → i < length ms → Some P ms
    → P (get_or ms i no_message) ⊎ Some P (without i ms)
some-without {P} ms i h s = go (place no_message s)
  where
    len : length (without i ms) ≡ length ms - 1
    len = length_without i ms

    stays : (j : ℕ) → j < length ms → P (get_or ms j no_message) → (b : Bool) → eqb j i ≡ b → P (get_or ms i no_message) ⊎ Some P (without i ms)
    stays j l p true e = let q = eqb-true j i e in inl (rw (← q) p)
    stays j l p false e = elim (dec_lt j (length ms - 1)) [
      | yes b ↦ inr (some_at (without i ms) j no_message (omega (arith, len)) (rw (without_at i ms j no_message b h, e) p))
      | no b ↦
          let last : j ≡ length ms - 1 = omega arith in
          let ne = eqb-false j i e in
          inr (some_at (without i ms) i no_message (omega (arith, len, ne))
          (rw (without_at i ms i no_message (omega (arith, ne)) h, eq-eqb i i refl, ← last) p))
    ]

    go : (j : ℕ) × (j < length ms) × P (get_or ms j no_message) → P (get_or ms i no_message) ⊎ Some P (without i ms)
    go x = stays x.0 x.1 x.2 (eqb x.0 i) refl

-- a message sent to many goes to each of them
pub some-sent_to : {P : Message → Type 0} (m : Message) (n mask k : ℕ) → k < n → has mask k ≡ true → P (toward m k) → Some P (sent_to m n mask)
unfolding sent_to
some-sent_to m zero mask k h e p = absurd (omega arith)
some-sent_to m (suc n) mask k h e p = elim (dec_lt k n) [
  | yes b ↦ some_left (pick (has mask n) (toward m n ∷ []) []) (some-sent_to m n mask k b e p)
  | no b ↦ let q : k ≡ n = omega arith in some_right (sent_to m n mask) (rw (← q, e) (here p))
]
