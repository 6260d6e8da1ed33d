-- The clock layer of demand 3: everybody waits for k when one comes up to k·P, whoever has not started a round follows soon,
-- two that wait for the same round read no more than D apart, and whoever waits for k reads at most k·P + A, the first by
-- induction on k with relay, the second by relay and the others by correctness, with the clock's law on whole stretches.
use Prim.Native.Nat.{ℕ, zero, suc, ◌+◌, ◌*◌, ◌<◌, ◌≤◌, zero-le, suc-le-suc}
use Rattle.std.specs.Prelude.{◌≡◌, refl}
use Rattle.std.proofs.Math.Path.{sym}
use Rattle.std.proofs.Common.{◌∙◌, le_refl, le_trans, le_of_eq, lt-suc_self, not-le_of_lt, lt_of_le_of_lt, le-add_right, arith}
use Rattle.std.proofs.Math.Decide.{dec_lt, dec_le}
use Rattle.std.proofs.Math.Nat.{le_of_lt, le_antisymm, lt_of_not-le, le-suc, le_step}
use Rattle.agreement.specs.Clocks.{Clocks, Broadcast, Shown, ShownTo, First, HoldsBack}
use Rattle.agreement.specs.ClockSums.{set-high, most-read, least-read, relayed-soon, under-mark, set-under, step-short}
use Rattle.agreement.specs.ClockSums.{soon-started, soon-unstarted, soon-later, spread-kept, soon-marked, soon-unmarked, step_kept}

-- ---- what never falls

-- what does not fall in a step does not fall
pub climbs : (f : ℕ → ℕ) → ((m : ℕ) → f m ≤ f (suc m)) → (i j : ℕ) → i ≤ j → f i ≤ f j
climbs f up i zero h = let z : i ≡ 0 = omega arith in rw z (le_refl (f 0))
climbs f up i (suc j) h = elim (dec_le i j) [
  | yes l ↦ le_trans (climbs f up i j l) (up j)
  | no l ↦ let z : i ≡ suc j = omega arith in rw z (le_refl (f (suc j)))
]

-- the first place at which what grows passes k
passes-first : (f : ℕ → ℕ) → ((m : ℕ) → f m ≤ f (suc m)) → (k m : ℕ) → k < f m
    → (s : ℕ) × (s ≤ m) × (k < f s) × ((r : ℕ) → r < s → f r ≤ k)
passes-first f up k zero h = (0, le_refl 0, h, λ r l. absurd (omega arith))
passes-first f up k (suc n) h = elim (dec_lt k (f n)) [
  | yes l ↦
      let s = passes-first f up k n l in
      (s.0, omega (arith, s.1), s.2, s.3)
  | no l ↦ (suc n, le_refl (suc n), h, λ r b. le_trans (climbs f up r n (omega arith)) (omega arith))
]

-- what follows of each round from all before it is so of all
up_to : (Q : ℕ → Type 0) → Q 0 → ((k : ℕ) → ((j : ℕ) → j ≤ k → Q j) → Q (suc k)) → (k j : ℕ) → j ≤ k → Q j
up_to Q base next zero j h = let z : j ≡ 0 = omega arith in rw z base
up_to Q base next (suc k) j h = elim (dec_le j k) [
  | yes l ↦ up_to Q base next k j l
  | no l ↦ let z : j ≡ suc k = omega arith in rw z (next k (up_to Q base next k))
]

-- ---- the clocks alone

module _ (𝓒 : Clocks) where
  open 𝓒 use {parts, rate, step, period, ticks, wait, slack, sound, now, waits, reads}

  -- time never falls
  pub now-climbs : (i j : ℕ) → i ≤ j → 𝓒.now i ≤ 𝓒.now j
  now-climbs i j h = climbs now 𝓒.later i j h

  -- rounds never fall
  waits-climbs : (p : ℕ) → sound p → (i j : ℕ) → i ≤ j → waits p i ≤ waits p j
  waits-climbs p sp i j h = climbs (waits p) (𝓒.onward p sp) i j h

  -- whoever waits for k + 1 first did so at some time
  first-state : (p : ℕ) → sound p → (m k : ℕ) → waits p m ≡ suc k → (s : ℕ) × (s ≤ m) × First 𝓒 p k s
  first-state p sp m k h =
      let s = passes-first (waits p) (𝓒.onward p sp) k m (le_of_eq (sym h)) in
      (s.0, s.1, record { here = le_antisymm (le_trans (waits-climbs p sp s.0 m s.1) (le_of_eq h)) s.2; before = s.3 })

  -- a first state other than state 0 is a start
  starts-there : (p k n : ℕ) → First 𝓒 p k (suc n) → waits p n < waits p (suc n)
  starts-there p k n f = lt_of_le_of_lt (f.before n (lt-suc_self n)) (le_of_eq (sym f.here))

  -- a start of k sets the clock to k·P + A or more
  low-at : (p : ℕ) → sound p → (k s : ℕ) → First 𝓒 p k s → k * period + step ≤ reads p s
  low-at p sp k zero f = 𝓒.low_first p sp k f.here
  low-at p sp k (suc n) f = 𝓒.low p sp n k (starts-there p k n f) f.here

  -- and to no more than it may
  high-at : (p : ℕ) → sound p → (k s : ℕ) → First 𝓒 p k s → parts * reads p s ≤ parts * (k * period + step) + rate * wait + parts * slack
  high-at p sp k zero f = 𝓒.high-first p sp k f.here
  high-at p sp k (suc n) f = 𝓒.high p sp n k (starts-there p k n f) f.here

  -- what a start sets is below the next mark
  under_at : (p k s : ℕ) → parts * reads p s ≤ parts * (k * period + step) + rate * wait + parts * slack → reads p s < suc k * period
  under_at p k s high = set-under parts rate wait slack ticks step period k (reads p s) 𝓒.gap high

  -- the most that p reads at t, if its start of k was relayed by E
  most-at : (p : ℕ) → sound p → (k s t E : ℕ) → First 𝓒 p k s → s ≤ t → waits p t ≡ suc k
      → rate * E + parts * reads p s ≤ rate * now s + rate * wait + parts * slack + parts * (k * period + step)
      → parts * reads p t + rate * E ≤ rate * now t + parts * (k * period + step) + rate * wait + parts * (slack + ticks)
  most-at p sp k s t E f l h relayed =
      most-read parts rate wait slack ticks (k * period + step) (reads p s) (now s) (reads p t) (now t) E relayed
      (𝓒.fast p sp s t l (f.here ∙ sym h))

  -- the least that q reads at t, if it started k by E
  least_at : (q : ℕ) → sound q → (k s t E : ℕ) → First 𝓒 q k s → s ≤ t → waits q t ≡ suc k → now s ≤ E
      → parts * now t + rate * (k * period + step) ≤ parts * E + rate * reads q t + rate * ticks
  least_at q sq k s t E f l h late =
      least-read parts rate ticks (k * period + step) (reads q s) (now s) (reads q t) (now t) E
      (𝓒.slow q sq s t l (f.here ∙ sym h)) (low-at q sq k s f) late

-- ---- everybody waits for k

module _ (𝓒 : Clocks) (𝓑 : Broadcast 𝓒) where
  open 𝓒 use {parts, rate, bound, spread, step, period, ticks, wait, slack, excess, sound, now, waits, reads}

  -- if one waits for k + 1 and reads (k + 1)·P or more while another waits for k or less, relay is against the gap rule
  shown-next : (k : ℕ) → ShownTo 𝓒 k → Shown 𝓒 (suc k)
  unfolding Shown
  shown-next k shown p sp m h r q sq = elim (dec_le (waits q m) k) [
    | yes l ↦
        let f = first-state 𝓒 p sp m k h in
        let relayed = 𝓑.relay k shown p sp f.0 f.2 q sq m f.1 l in
        let most = most-at 𝓒 p sp k f.0 m (now m) f.2 f.1 h relayed in
        absurd (not-le_of_lt (under-mark parts rate wait slack ticks step period k (reads p m) (now m) 𝓒.gap most) r)
    | no l ↦ lt_of_not-le l
  ]

  -- by induction on k; for 0 it is trivial
  shown-to : (k : ℕ) → ShownTo 𝓒 k
  unfolding Shown ShownTo
  shown-to k = up_to (Shown 𝓒) (λ p sp m h r q sq. zero-le) (λ j to. shown-next j to) k

  -- if one waits for k and reads k·P or more, everybody waits for k or more
  pub everybody : (k : ℕ) → Shown 𝓒 k
  unfolding ShownTo
  everybody k = shown-to k k (le_refl k)

  -- ---- the relay

  -- once one has started k, another waits for k or less no longer than W, and what c adds
  pub follows : (p : ℕ) → 𝓒.sound p → (s k : ℕ) → k < 𝓒.waits p s → (q : ℕ) → 𝓒.sound q → (t : ℕ) → s ≤ t → 𝓒.waits q t ≤ k
      → 𝓒.rate * 𝓒.now t ≤ 𝓒.rate * 𝓒.now s + 𝓒.rate * 𝓒.wait + 𝓒.parts * 𝓒.slack
  follows p sp s k l q sq t b h = go (waits p s) refl
    where
      go : (x : ℕ) → waits p s ≡ x → rate * now t ≤ rate * now s + rate * wait + parts * slack
      go zero e = absurd (omega arith)
      go (suc j) e =
          let f = first-state 𝓒 p sp s j e in
          relayed-soon parts rate wait slack (j * period + step) (reads p f.0) (now f.0) (now s) (now t)
          (𝓑.relay j (shown-to j) p sp f.0 f.2 q sq t (le_trans f.1 b) (omega arith))
          (low-at 𝓒 p sp j f.0 f.2) (now-climbs 𝓒 f.0 s f.1)

  -- ---- the spread

  -- p's start of k, relayed by any state in which q waits for k or less
  relay-by : (p : ℕ) → sound p → (k s : ℕ) → First 𝓒 p k s → (q : ℕ) → sound q → (t : ℕ) → waits q t ≤ k
      → rate * now t + parts * reads p s ≤ rate * now s + rate * wait + parts * slack + parts * (k * period + step)
  relay-by p sp k s f q sq t h = elim (dec_le s t) [
    | yes l ↦ 𝓑.relay k (shown-to k) p sp s f q sq t l h
    | no l ↦
        set-high parts rate wait slack (k * period + step) (reads p s) (now s) (now t) (high-at 𝓒 p sp k s f)
        (now-climbs 𝓒 t s (le_of_lt (lt_of_not-le l)))
  ]

  -- and by q's own start of k, which takes no time
  relay-start : (p : ℕ) → sound p → (k s : ℕ) → First 𝓒 p k s → (q : ℕ) → sound q → (u : ℕ) → First 𝓒 q k u
      → rate * now u + parts * reads p s ≤ rate * now s + rate * wait + parts * slack + parts * (k * period + step)
  relay-start p sp k s f q sq zero g =
      set-high parts rate wait slack (k * period + step) (reads p s) (now s) (now 0) (high-at 𝓒 p sp k s f)
      (now-climbs 𝓒 0 s zero-le)
  relay-start p sp k s f q sq (suc n) g =
      rw (𝓒.at_once q sq n (starts-there 𝓒 q k n g)) (relay-by p sp k s f q sq n (g.before n (lt-suc_self n)))

  -- p and q in round k at t, which is soon after E: by E, p's start was relayed and q had started
  spread-from : (p : ℕ) → sound p → (q : ℕ) → sound q → (t k : ℕ) → waits p t ≡ suc k → waits q t ≡ suc k
      → (s : ℕ) → s ≤ t → First 𝓒 p k s → (u : ℕ) → u ≤ t → First 𝓒 q k u → (E : ℕ)
      → rate * E + parts * reads p s ≤ rate * now s + rate * wait + parts * slack + parts * (k * period + step) → now u ≤ E
      → parts * now t + rate * step ≤ parts * E + rate * period + rate * ticks + parts * bound → reads p t ≤ reads q t + spread
  spread-from p sp q sq t k hp hq s sl f u ul g E relayed late soon =
      spread-kept parts rate bound spread step period ticks wait slack excess (k * period + step) (reads p t) (reads q t) (now t) E
      𝓒.some 𝓒.faster 𝓒.excess-is 𝓒.spreads
      (most-at 𝓒 p sp k s t E f sl hp relayed) (least_at 𝓒 q sq k u t E g ul hq late) soon

  -- E is the later of q's start and a moment F that t is soon after
  spread-later : (p : ℕ) → sound p → (q : ℕ) → sound q → (t k : ℕ) → waits p t ≡ suc k → waits q t ≡ suc k
      → (s : ℕ) → s ≤ t → First 𝓒 p k s → (F : ℕ)
      → rate * F + parts * reads p s ≤ rate * now s + rate * wait + parts * slack + parts * (k * period + step)
      → parts * now t + rate * step ≤ parts * F + rate * period + rate * ticks + parts * bound → reads p t ≤ reads q t + spread
  spread-later p sp q sq t k hp hq s sl f F relayed soon =
      let g = first-state 𝓒 q sq t k hq in
      elim (dec_le (now g.0) F) [
        | yes l ↦ spread-from p sp q sq t k hp hq s sl f g.0 g.1 g.2 F relayed l soon
        | no l ↦
            spread-from p sp q sq t k hp hq s sl f g.0 g.1 g.2 (now g.0)
            (relay-start p sp k s f q sq g.0 g.2) (le_refl (now g.0))
            (soon-later parts rate bound ticks step period F (now g.0) (now t) (le_of_lt (lt_of_not-le l)) soon)
      ]

  -- F is the start of k of the one that holds k + 1 back, or its state y if it had not started k
  spread-held : (p : ℕ) → sound p → (q : ℕ) → sound q → (t k : ℕ) → waits p t ≡ suc k → waits q t ≡ suc k
      → (w : ℕ) → sound w → (y : ℕ) → HoldsBack 𝓒 (suc k) w y t → reads p t ≤ reads q t + spread
  spread-held p sp q sq t k hp hq w sw y held =
      let f = first-state 𝓒 p sp t k hp in
      elim (dec_le (waits w y) k) [
        | yes l ↦
            spread-later p sp q sq t k hp hq f.0 f.1 f.2 (now y) (relay-by p sp k f.0 f.2 w sw y l)
            (soon-unstarted parts rate bound ticks step period (now y) (now t)
            (step-short parts rate wait slack ticks step period 𝓒.gap) held.soon)
        | no l ↦
            let hw : waits w y ≡ suc k = le_antisymm held.waiting (lt_of_not-le l) in
            let g = first-state 𝓒 w sw y k hw in
            spread-later p sp q sq t k hp hq f.0 f.1 f.2 (now g.0)
            (relay-start p sp k f.0 f.2 w sw g.0 g.2)
            (soon-started parts rate bound ticks step period k (reads w g.0) (now g.0) (reads w y) (now y) (now t)
            (𝓒.slow w sw g.0 y g.1 (g.2.here ∙ sym hw)) (low-at 𝓒 w sw k g.0 g.2) (held.below hw))
      ]

  -- two that wait for the same round read no more than D apart
  pub spread-holds : (p : ℕ) → 𝓒.sound p → (q : ℕ) → 𝓒.sound q → (t k : ℕ) → 𝓒.waits p t ≡ suc k → 𝓒.waits q t ≡ suc k
      → 𝓒.reads p t ≤ 𝓒.reads q t + 𝓒.spread
  spread-holds p sp q sq t k hp hq = elim (dec_le (reads p t) (reads q t + spread)) [
    | yes l ↦ l
    | no l ↦
        absurd
        (𝓑.correct (suc k) (suc-le-suc zero-le) (shown-to (suc k)) q sq t hq
        (λ w sw y ly held. l (spread-held p sp q sq t k hp hq w sw y held)))
  ]

  -- ---- the ceiling

  -- whoever reads more than its mark had come up to exactly its mark, since a start sets it below and no step passes it
  came_up : (p : ℕ) → sound p → (m k : ℕ) → waits p m ≡ suc k → (reads p m ≤ suc k * period → ⊥)
      → (x : ℕ) × (x ≤ m) × (waits p x ≡ suc k) × (reads p x ≡ suc k * period)
  came_up p sp zero k h past = absurd (past (le_of_lt (under_at 𝓒 p k 0 (𝓒.high-first p sp k h))))
  came_up p sp (suc n) k h past = elim (dec_le (waits p (suc n)) (waits p n)) [
    | yes l ↦
        let same : waits p (suc n) ≡ waits p n = le_antisymm l (𝓒.onward p sp n) in
        let hn : waits p n ≡ suc k = sym same ∙ h in
        elim (dec_le (suc k * period) (reads p n)) [
          | yes over ↦
              elim (dec_le (reads p n) (suc k * period)) [
                | yes under ↦ (n, le-suc n, hn, le_antisymm under over)
                | no beyond ↦
                    let x = came_up p sp n k hn beyond in
                    (x.0, le_step x.1, x.2, x.3)
              ]
          | no under ↦ absurd (past (rw hn at (𝓒.unpassed p sp n same (rw hn (lt_of_not-le under)))))
        ]
    | no l ↦ absurd (past (le_of_lt (under_at 𝓒 p k (suc n) (𝓒.high p sp n k (lt_of_not-le l) h))))
  ]

  -- p at its mark at x, held back by w: m is soon after x
  ceiling-soon : (p : ℕ) → sound p → (m k x : ℕ) → waits p x ≡ suc k → reads p x ≡ suc k * period
      → (w : ℕ) → sound w → (y : ℕ) → HoldsBack 𝓒 (suc k) w y m → parts * now m ≤ parts * now x + rate * (spread + ticks) + parts * bound
  unfolding Shown
  ceiling-soon p sp m k x hx rx w sw y held = elim (dec_le y x) [
    | yes l ↦ soon-unmarked parts rate bound spread ticks (now x) (now y) (now m) held.soon (now-climbs 𝓒 y x l)
    | no l ↦
        let xy : x ≤ y = le_of_lt (lt_of_not-le l) in
        let up : waits w x ≤ waits w y = waits-climbs 𝓒 w sw x y xy in
        let shown : suc k ≤ waits w x = everybody (suc k) p sp x hx (le_of_eq (sym rx)) w sw in
        let wx : waits w x ≡ suc k = le_antisymm (le_trans up held.waiting) shown in
        let wy : waits w y ≡ suc k = le_antisymm held.waiting (le_trans shown up) in
        soon-marked parts rate bound spread ticks (suc k * period) (reads w x) (now x) (reads w y) (now y) (now m)
        (𝓒.slow w sw x y xy (wx ∙ sym wy)) (le_trans (le_of_eq (sym rx)) (spread-holds p sp w sw x k hx wx)) (held.below wy)
  ]

  -- so m is not more than A past the mark
  ceiling-from : (p : ℕ) → sound p → (m k : ℕ) → waits p m ≡ suc k → (x : ℕ) → x ≤ m → waits p x ≡ suc k → reads p x ≡ suc k * period
      → parts * now m ≤ parts * now x + rate * (spread + ticks) + parts * bound → reads p m ≤ suc k * period + step
  ceiling-from p sp m k h x xm hx rx soon =
      step_kept parts rate bound spread step ticks (suc k * period) (reads p m) (now x) (now m) 𝓒.some 𝓒.steps
      (rw rx at (𝓒.fast p sp x m xm (hx ∙ sym h))) soon

  -- whoever waits for k >= 1 reads at most k·P + A
  pub ceiling : (p : ℕ) → 𝓒.sound p → (m k : ℕ) → 1 ≤ k → 𝓒.waits p m ≡ k → 𝓒.reads p m ≤ k * 𝓒.period + 𝓒.step
  ceiling p sp m zero one h = absurd (not-le_of_lt one (le_refl 0))
  ceiling p sp m (suc k) one h = elim (dec_le (reads p m) (suc k * period + step)) [
    | yes l ↦ l
    | no l ↦
        let x = came_up p sp m k h (λ under. l (le_trans under (le-add_right (suc k * period) step))) in
        absurd
        (𝓑.correct (suc k) one (shown-to (suc k)) p sp m h
        (λ w sw y ly held. l (ceiling-from p sp m k h x.0 x.1 x.2 x.3
        (ceiling-soon p sp m k x.0 x.2 x.3 w sw y held))))
  ]
