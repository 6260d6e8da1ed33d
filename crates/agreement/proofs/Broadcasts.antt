-- The signed line gives the clocks what they need of messages. Unforgeability: each start holds a sound signature. Relay: a
-- relay in flight is not overdue. Correctness: whoever waits for k has gathered every signature that was sent more than T ago,
-- and all sound stations are more than f.
use Prim.Native.Nat.{ℕ, zero, suc, ◌+◌, ◌*◌, ◌<◌, ◌≤◌}
use Rattle.std.specs.Prelude.{◌⊎◌, ◌≡◌}
use Rattle.std.proofs.Math.Bool.{true}
use Rattle.std.proofs.Math.Logic.{inl, inr}
use Rattle.std.proofs.Math.Path.{refl, ap, subst}
use Rattle.std.proofs.Common.{◌∙◌}
use Rattle.std.proofs.Math.Decide.{dec_lt, dec_le}
use Rattle.std.proofs.Math.Nat.{mul-le-mul_left}
use native.Mathlib.Omega.{arith}
use Rattle.clock.specs.Limits.{parts}
use Rattle.clock.specs.Drift.{rate}
use Rattle.mask.specs.Mask.{has}
use Rattle.setup.specs.declared.Plan.{Plan}
use Rattle.station.specs.Station.{waits}
use Rattle.line.specs.Valid.{Sound}
use Rattle.agreement.specs.Clocks.{Shown, ShownTo, HoldsBack, Broadcast}
use Rattle.agreement.specs.ClockLaws.{now-climbs}
use Rattle.agreement.specs.Among.{Some, some-all}
use Rattle.agreement.specs.Course.{Course}
use Rattle.agreement.specs.Timing.{at, now, rounds, begun, clocks}
use Rattle.agreement.proofs.Signatures.{in-time, Marks, signs-once, unforgeable}
use Rattle.agreement.proofs.Messages.{all_sound, relay-stays, IsReady, ready-stays}

module _ (plan : Plan) (𝓡 : Course plan) where
  -- the step in which a station that waits for more than j started j
  started-at : (p : ℕ) → Sound plan p → (j s : ℕ) → 1 ≤ j → j < waits (at plan 𝓡 p s)
      → (x : ℕ) × (x < s) × (waits (at plan 𝓡 p x) ≡ j) × ((at plan 𝓡 p x).round < (at plan 𝓡 p (suc x)).round)
  started-at p h j zero one l = absurd (omega (arith, (𝓡.begins p h).round))
  started-at p h j (suc s) one l = elim (dec_lt j (waits (at plan 𝓡 p s))) [
    | yes b ↦ let x = started-at p h j s one b in (x.0, omega (arith, x.1), x.2, x.3)
    | no b ↦ (s, omega arith, omega (arith, rounds plan 𝓡 p h s), omega arith)
  ]

  -- ---- relay

  -- once p has started j, q waits for j no longer than T
  relay-soon : (j : ℕ) → Shown (clocks plan 𝓡) j → (p : ℕ) → Sound plan p → (x : ℕ) → waits (at plan 𝓡 p x) ≡ j
      → (at plan 𝓡 p x).round < (at plan 𝓡 p (suc x)).round → (q : ℕ) → Sound plan q → (t : ℕ) → suc x ≤ t → waits (at plan 𝓡 q t) ≡ j
      → now plan 𝓡 t ≤ now plan 𝓡 (suc x) + plan.bound
  relay-soon j shown p h x e l q g t b w =
      (some-all {R = λ y. now plan 𝓡 t ≤ now plan 𝓡 (suc x) + plan.bound} (λ y r i. omega (arith, r.sent, i))
      (relay-stays plan 𝓡 j shown p h x e l q g t b w) (in-time plan 𝓡 t)).1

  -- no later than T after p's start of k is anybody in a round below k
  catch-up : (k : ℕ) → ShownTo (clocks plan 𝓡) k → (p : ℕ) → Sound plan p → (s : ℕ) → k < waits (at plan 𝓡 p s)
      → (q : ℕ) → Sound plan q → (t : ℕ) → s ≤ t → waits (at plan 𝓡 q t) ≤ k → now plan 𝓡 t ≤ now plan 𝓡 s + plan.bound
  unfolding ShownTo
  catch-up k shown p h s l q g t b w =
      let j : ℕ = waits (at plan 𝓡 q t) in
      let x = started-at p h (waits (at plan 𝓡 q t)) s (omega arith) (omega arith) in
      omega (
        arith,
        relay-soon (waits (at plan 𝓡 q t)) (shown (waits (at plan 𝓡 q t)) w) p h x.0 x.2 x.3 q g t (omega (arith, x.1)) refl,
        now-climbs (clocks plan 𝓡) (suc x.0) s x.1,
      )

  -- ---- correctness

  -- p has neither signed nor started k
  NotYet : ℕ → ℕ → ℕ → Type 0
  NotYet p k y = ((at plan 𝓡 p y).signed < k) × (waits (at plan 𝓡 p y) ≤ k)

  -- the last state up to m in which it had not: m itself, or one after which it had
  last-state : (p : ℕ) → Sound plan p → (k : ℕ) → 1 ≤ k → (m : ℕ)
      → NotYet p k m ⊎ ((y : ℕ) × (y < m) × NotYet p k y × (NotYet p k (suc y) → ⊥))
  unfolding NotYet
  last-state p h k one zero = inl (omega (arith, (𝓡.begins p h).signed), omega (arith, (𝓡.begins p h).round))
  last-state p h k one (suc m) = go (last-state p h k one m)
    where
      go : NotYet p k m ⊎ ((y : ℕ) × (y < m) × NotYet p k y × (NotYet p k (suc y) → ⊥))
          → NotYet p k (suc m) ⊎ ((y : ℕ) × (y < suc m) × NotYet p k y × (NotYet p k (suc y) → ⊥))
      go (inr x) = inr (x.0, omega (arith, x.1), x.2, x.3)
      go (inl n) = elim (dec_lt (at plan 𝓡 p (suc m)).signed k) [
        | yes a ↦ elim (dec_le (waits (at plan 𝓡 p (suc m))) k) [
          | yes b ↦ inl (a, b)
          | no b ↦ inr (m, omega arith, n, λ f. b f.1)
        ]
        | no a ↦ inr (m, omega arith, n, λ f. a f.0)
      ]

  module _ (k : ℕ) (one : 1 ≤ k) (shown : Shown (clocks plan 𝓡) k) (q : ℕ) (g : Sound plan q) (m : ℕ) (w : waits (at plan 𝓡 q m) ≡ k)
      (nobody : (p : ℕ) → Sound plan p → (y : ℕ) → y ≤ m → HoldsBack (clocks plan 𝓡) k p y m → ⊥) (p : ℕ) (h : Sound plan p) where
    -- whoever had not by y holds k back, if m is soon after
    held : (y : ℕ) → y ≤ m → NotYet p k y → now plan 𝓡 m ≤ now plan 𝓡 y + plan.bound → ⊥
    unfolding NotYet
    held y b n soon =
        nobody p h y b
        (record {
          waiting = n.1;
          soon = soon;
          below = λ e.
              let low : (at plan 𝓡 p y).reading.0 ≤ k * plan.period =
              subst (λ j. (at plan 𝓡 p y).reading.0 ≤ j * plan.period) e ((𝓡.keeps y p h).low (omega (arith, n.0, e))) in
              omega (arith, mul-le-mul_left (rate plan.drift) low);
        })

    -- it signed k more than T ago, and q has gathered its signature
    signed-gathered : (y : ℕ) → y < m → Marks plan 𝓡 p k y → (now plan 𝓡 m ≤ now plan 𝓡 y + plan.bound → ⊥) → has (at plan 𝓡 q m).gathered p ≡ true
    signed-gathered y b mark late = go (ready-stays plan 𝓡 k shown p h y mark q g m b w)
      where
        go : (has (at plan 𝓡 q m).gathered p ≡ true) ⊎ Some (IsReady plan 𝓡 q k p (now plan 𝓡 (suc y))) (𝓡.state m).flight
            → has (at plan 𝓡 q m).gathered p ≡ true
        go (inl u) = u
        go (inr s) =
            absurd (late
            (some-all {R = λ x. now plan 𝓡 m ≤ now plan 𝓡 y + plan.bound} (λ x r i. omega (arith, r.sent, i, mark.once)) s (in-time plan 𝓡 m)).1)

    -- it is in q's gathering
    every_one : has (at plan 𝓡 q m).gathered p ≡ true
    unfolding NotYet
    every_one = go (last-state p h k one m)
      where
        -- in the step from y it signed k or started it
        did : (y : ℕ) → y < m → NotYet p k y → (NotYet p k (suc y) → ⊥) → (now plan 𝓡 m ≤ now plan 𝓡 y + plan.bound → ⊥)
            → has (at plan 𝓡 q m).gathered p ≡ true
        did y b n done late = elim (dec_lt (at plan 𝓡 p (suc y)).signed k) [
          | yes a ↦
              -- it started k without its own signature: the relay would be overdue
              let more : k < waits (at plan 𝓡 p (suc y)) = elim (dec_le (waits (at plan 𝓡 p (suc y))) k) [
                | yes c ↦ absurd (done (a, c))
                | no c ↦ omega arith
              ] in
              let up = rounds plan 𝓡 p h y in
              let e : waits (at plan 𝓡 p y) ≡ k = omega (arith, n.1) in
              let l : (at plan 𝓡 p y).round < (at plan 𝓡 p (suc y)).round = omega (arith, n.1) in
              absurd (late (omega (arith, relay-soon k shown p h y e l q g m b w, (begun plan 𝓡 p h y l).0)))
          | no a ↦
              let mark = signs-once plan 𝓡 p h y (λ f. omega (arith, f, n.0)) in
              let e : waits (at plan 𝓡 p y) ≡ k = omega (arith, mark.signed, n.1) in
              signed-gathered y b (subst (λ j. Marks plan 𝓡 p j y) e mark) late
        ]

        go : NotYet p k m ⊎ ((y : ℕ) × (y < m) × NotYet p k y × (NotYet p k (suc y) → ⊥)) → has (at plan 𝓡 q m).gathered p ≡ true
        go (inl n) = absurd (held m (omega arith) n (omega arith))
        go (inr x) = did x.0 x.1 x.2 x.3 (λ soon. held x.0 (omega (arith, x.1)) x.2 soon)

  -- ---- the three laws

  pub broadcast : Broadcast (clocks plan 𝓡)
  unfolding ShownTo
  broadcast = record {
    unforgeability = λ k one p h m l.
        let u = unforgeable plan 𝓡 p h m k one (omega arith) in
        (u.0, u.1, (u.2.0, u.2.1, u.2.2.waiting, omega (arith, u.2.2.reading)));
    relay = λ k shown p h s f q g t b w.
        relay-law k shown p h s f.here f.before q g t b w;
    correct = λ k one shown q g m w nobody.
        omega (
          arith,
          all_sound plan 𝓡.planned (at plan 𝓡 q m).gathered (𝓡.keeps m q g).below
              (λ p h. every_one k one (shown k (omega arith)) q g m w nobody p h),
          (𝓡.keeps m q g).few,
        );
  }
    where
      -- what a start of k sets is k·P + A
      set : (k : ℕ) (p : ℕ) → Sound plan p → (s : ℕ) → waits (at plan 𝓡 p s) ≡ suc k → ((r : ℕ) → r < s → waits (at plan 𝓡 p r) ≤ k) → 1 ≤ k
          → (at plan 𝓡 p s).reading.0 ≡ k * plan.period + plan.step
      set k p h zero e before one = absurd (omega (arith, (𝓡.begins p h).round))
      set k p h (suc s) e before one =
          let up = before s (omega arith) in
          let b = begun plan 𝓡 p h s (omega arith) in
          let z : waits (at plan 𝓡 p s) ≡ k = omega (arith, b.1) in
          b.2 ∙ ap (λ (x : ℕ). x * plan.period + plan.step) z

      relay-law : (k : ℕ) → ShownTo (clocks plan 𝓡) k → (p : ℕ) → Sound plan p → (s : ℕ) → waits (at plan 𝓡 p s) ≡ suc k
          → ((r : ℕ) → r < s → waits (at plan 𝓡 p r) ≤ k) → (q : ℕ) → Sound plan q → (t : ℕ) → s ≤ t → waits (at plan 𝓡 q t) ≤ k
          → rate plan.drift * now plan 𝓡 t + parts * (at plan 𝓡 p s).reading.0
          ≤ rate plan.drift * now plan 𝓡 s + rate plan.drift * plan.bound + parts * 0 + parts * (k * plan.period + plan.step)
      relay-law k shown p h s e before q g t b w =
          let soon = catch-up k shown p h s (omega arith) q g t b w in
          let reads = set k p h s e before (omega arith) in
          omega (arith, mul-le-mul_left (rate plan.drift) soon)
