-- Counting the digits of a number by tens: so many are counted, and this is left.
use Rattle.std.specs.Prelude.{ℕ, suc, zero, ◌+◌, ◌-◌, ◌/◌, ◌^◌, ◌<◌, ◌≤◌, ◌≡◌, ltb, eqb}
use Rattle.std.proofs.Common.{refl, ap, sym, subst, ◌∙◌, pow-suc, arith, lt-ltb, le-ltb, eq-eqb, ne_eqb}
use Rattle.std.proofs.Math.Decide.{dec_lt}
use Rattle.clock.specs.Pick.{pick}
use Rattle.text.specs.Text.{places_from, places}
use Rattle.text.proofs.Laws.{places-zero, places-low, places-high}

-- so many are counted of x, and this is left of it
pub record Counted (x count rest : ℕ) : Type 0 where
  pub some : (1 ≤ count) × (count ≤ 20)
  pub below : rest < 10 ^ (20 - count)
  pub same : places x ≡ pick (eqb rest 0) count (count + places_from (19 - count) rest)

pub counted_start : (x : ℕ) → x < 2 ^ 64 → Counted x 1 (x / 10)
unfolding places places_from
counted_start x h = record { some = (omega arith, omega arith); below = omega arith; same = go }
  where
    go : pick (ltb x 10) 1 (places_from 18 (x / 10) + 1) ≡ pick (eqb (x / 10) 0) 1 (1 + places_from 18 (x / 10))
    go = elim (dec_lt x 10) [
      | yes b ↦ rw (lt-ltb x 10 b, eq-eqb (x / 10) 0 (omega arith)) refl
      | no b ↦ rw (le-ltb x 10 (omega arith), ne_eqb (x / 10) 0 (λ e. omega arith)) (omega arith)
    ]

module _ (x count rest : ℕ) (c : Counted x count rest) (h : rest ≡ 0 → ⊥) where
  -- there is a place for it
  pub counted-room : count < 20
  counted-room = elim (dec_lt count 20) [
    | yes b ↦ b
    | no b ↦
        let e : 20 - count ≡ 0 = omega arith in
        let f : rest < 10 ^ 0 = subst (λ k. rest < 10 ^ k) e c.below in
        absurd (h (omega arith))
  ]

  pub counted_next : Counted x (count + 1) (rest / 10)
  counted_next = go (19 - count) (omega (arith, counted-room))
    where
      go : (left : ℕ) → count + left ≡ 19 → Counted x (count + 1) (rest / 10)
      go left e =
          let a : 20 - count ≡ suc left = omega arith in
          let b : 19 - count ≡ left = omega arith in
          let low : rest < 10 ^ suc left = subst (λ k. rest < 10 ^ k) a c.below in
          let d : 20 - (count + 1) ≡ left = omega arith in
          let m : 19 - (count + 1) ≡ left - 1 = omega arith in
          let less : rest / 10 < 10 ^ left = div-less left low in
          record {
            some = (omega arith, omega arith);
            below = subst (λ k. rest / 10 < 10 ^ k) (sym d) less;
            same = c.same ∙ rw (ne_eqb rest 0 h, b, m) (digits left less);
          }
        where
          div-less : (k : ℕ) → rest < 10 ^ suc k → rest / 10 < 10 ^ k
          div-less k l = omega (arith, pow-suc 10 k)

          digits : (k : ℕ) → rest / 10 < 10 ^ k → count + places_from k rest ≡ pick (eqb (rest / 10) 0) (count + 1) (count + 1 + places_from (k - 1) (rest / 10))
          digits zero l = rw (eq-eqb (rest / 10) 0 (omega arith)) (one-digit rest)
            where
              one-digit : (y : ℕ) → count + places_from 0 y ≡ count + 1
              one-digit y = ap (λ (z : ℕ). count + z) (places-zero y)
          digits (suc k) l = elim (dec_lt rest 10) [
            | yes s ↦ rw (places-low k rest s, eq-eqb (rest / 10) 0 (omega arith)) refl
            | no s ↦
                let back : suc k - 1 ≡ k = omega arith in
                rw (places-high k rest (omega arith), ne_eqb (rest / 10) 0 (λ z. omega arith), back) (omega arith)
          ]

-- nothing is left
pub counted-end : {x count rest : ℕ} → Counted x count rest → rest ≡ 0 → count ≡ places x
counted-end c e = sym (c.same ∙ rw (eq-eqb _ 0 e) refl)

-- two to five at once
module _ (x : ℕ) (h : x < 2 ^ 64) where
  pub counted-2 : 10 ≤ x → Counted x 2 (x / 100)
  counted-2 b = subst (λ k. Counted x 2 k) (omega arith) (counted_next x 1 (x / 10) (counted_start x h) (λ e. omega arith))

  pub counted-3 : 100 ≤ x → Counted x 3 (x / 1000)
  counted-3 b = subst (λ k. Counted x 3 k) (omega arith) (counted_next x 2 (x / 100) (counted-2 (omega arith)) (λ e. omega arith))

  pub counted-4 : 1000 ≤ x → Counted x 4 (x / 10000)
  counted-4 b = subst (λ k. Counted x 4 k) (omega arith) (counted_next x 3 (x / 1000) (counted-3 (omega arith)) (λ e. omega arith))

  pub counted-5 : 10000 ≤ x → Counted x 5 (x / 100000)
  counted-5 b = subst (λ k. Counted x 5 k) (omega arith) (counted_next x 4 (x / 10000) (counted-4 (omega arith)) (λ e. omega arith))
