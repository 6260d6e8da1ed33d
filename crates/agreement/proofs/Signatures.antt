-- Unforgeability: whoever starts a round holds the signature of a sound station, and that station signed as an advance brought
-- it up to its mark. Every signature in a gathering or in a message was made at some time; among f + 1 signers one is sound.
use Prim.Native.Nat.{ℕ, zero, suc, ◌+◌, ◌*◌, ◌^◌, ◌<◌, ◌≤◌}
use Rattle.std.specs.Prelude.{Bool, ◌||◌, ◌⊎◌, ◌≡◌, eqb}
use Rattle.std.proofs.Math.Bool.{true, false}
use Rattle.std.proofs.Common.{inl, inr, sym, subst, ◌∙◌}
use Rattle.std.proofs.Math.Path.{refl, ap}
use Rattle.std.proofs.Math.Decide.{dec_le}
use native.Mathlib.Omega.{arith}
use borrow.Author.Tests.{eqb-true, eqb-false}
use Rattle.mask.specs.Mask.{has, count, one, join, only}
use Rattle.mask.proofs.Laws.{has-below, has_join, has-only, join-lt, only-lt}
use Rattle.setup.specs.declared.Plan.{Plan}
use Rattle.station.specs.declared.Station.{Station}
use Rattle.station.specs.declared.Outcome.{Outcome}
use Rattle.station.specs.Station.{waits, still, start, settle, gather, hear, sign, move}
use Rattle.flight.specs.Members.{All, no_member, all_map}
use Rattle.line.specs.Valid.{Sound}
use Rattle.line.proofs.Moves.{settle-either, hear-either, all-sends}
use Rattle.agreement.specs.Signatures.{sound-signer}
use Rattle.agreement.specs.Among.{Some, some-all}
use Rattle.agreement.specs.Steps.{Turn, idle, ticks, signs, hears}
use Rattle.agreement.specs.Course.{Course}
use Rattle.agreement.specs.Timing.{at, now, rounds}

-- ---- counting

-- a member of no set
none_has : (i : ℕ) → has 0 i ≡ true → ⊥
none_has i e = let f = has-below 0 0 i (omega arith) (omega arith) in let z : ◌≡◌ {A = ℕ} 0 1 = cc in omega arith

-- a start keeps the last signed round
settle-signed : (ready : Bool) (plan : Plan) (t : Station) → (settle ready plan t).station.signed ≡ t.signed
unfolding start
settle-signed ready plan t = settle-either (λ o. o.station.signed ≡ t.signed) ready plan t (λ h. refl) (λ h. refl)

-- signing makes the waited round the last signed
sign-signed : (plan : Plan) (p : ℕ) (s : Station) → (sign plan p s).station.signed ≡ waits s
unfolding sign
sign-signed plan p s = settle-signed true plan _

-- only who signs sends a ready
still-unready : {o : Outcome} (s : Station) → o ≡ still s → o.ready ≡ true → ⊥
unfolding still
still-unready {o} s e r = let z : ◌≡◌ {A = ℕ} 0 1 = clash (sym (ap (λ (x : Outcome). x.ready) e) ∙ r) in omega arith
  where
    clash : false ≡ true → ◌≡◌ {A = ℕ} 0 1
    clash q = cc

hear-unready : (plan : Plan) (round signers : ℕ) (s : Station) {o : Outcome} → o ≡ hear plan round signers s → o.ready ≡ true → ⊥
unfolding still
hear-unready plan round signers s {o} e r =
    hear-either (λ x. x.ready ≡ true → ⊥) plan round signers s
    (λ q. settle-either (λ x. x.ready ≡ true → ⊥) false plan (gather signers s) (λ h. clash) (λ h. clash)) clash
    (sym (ap (λ (x : Outcome). x.ready) e) ∙ r)
  where
    clash : false ≡ true → ⊥
    clash q = let z : ◌≡◌ {A = ℕ} 0 1 = cc in omega arith

module _ (plan : Plan) (𝓡 : Course plan) where
  -- ---- no message is overdue

  pub in-time : (m : ℕ) → All (λ x. now plan 𝓡 m ≤ x.sent.0 + plan.bound) (𝓡.state m).flight
  in-time zero = let e = 𝓡.empty in rw e no_member
  in-time (suc m) =
      (𝓡.steps m).next ((𝓡.steps m).soon (in-time m))
      (λ p h. all-sends plan (now plan 𝓡 (suc m)) p (waits (at plan 𝓡 p m)) ((𝓡.steps m).outcome p) (λ e j u. omega arith) (λ e j u. omega arith))

  -- ---- every signature was made

  -- i has signed k by state m
  unfoldable pub SignedBy : ℕ → ℕ → ℕ → Type 0
  SignedBy i k m = (y : ℕ) × (y ≤ m) × ((at plan 𝓡 i y).signed ≡ k)

  signed-later : (i k m : ℕ) → SignedBy i k m → SignedBy i k (suc m)
  unfolding SignedBy
  signed-later i k m x = (x.0, omega (arith, x.1), x.2)

  -- every sound member of a set has signed k by state m
  unfoldable pub AllSigned : ℕ → ℕ → ℕ → Type 0
  AllSigned g k m = (i : ℕ) → Sound plan i → has g i ≡ true → SignedBy i k m

  none-signed : (k m : ℕ) → AllSigned 0 k m
  unfolding AllSigned
  none-signed k m i h e = absurd (none_has i e)

  joined-signed : (a b k m : ℕ) → AllSigned a k m → AllSigned b k m → AllSigned (join a b) k m
  unfolding AllSigned
  joined-signed a b k m f g i h e = go (has a i) refl (sym (has_join a b i) ∙ e)
    where
      go : (t : Bool) → has a i ≡ t → (t || has b i) ≡ true → SignedBy i k m
      go true x y = f i h x
      go false x y = g i h y

  just-signed : (i m : ℕ) {k : ℕ} → (at plan 𝓡 i m).signed ≡ k → SignedBy i k (suc m)
  unfolding SignedBy
  just-signed i m e = (m, omega arith, e)

  -- what a step leaves of gatherings: those of the station then, and those that it relays, were signed
  record Made (m k : ℕ) (o : Outcome) : Type 0 where
    gathers : AllSigned o.station.gathered (waits o.station) (suc m)
    relays : AllSigned o.relay k (suc m)

  settled-made : (m : ℕ) (ready : Bool) (t : Station) → AllSigned t.gathered (waits t) (suc m) → Made m (waits t) (settle ready plan t)
  unfolding start
  settled-made m ready t f =
      settle-either (Made m (waits t)) ready plan t
      (λ h. record { gathers = none-signed _ (suc m); relays = f })
      (λ h. record { gathers = f; relays = none-signed _ (suc m) })

  -- what is known of state m
  pub record Known (m : ℕ) : Type 0 where
    pub gathered : (q : ℕ) → Sound plan q → AllSigned (at plan 𝓡 q m).gathered (waits (at plan 𝓡 q m)) m
    pub carried : All (λ x. AllSigned x.signers x.round m) (𝓡.state m).flight

  later-all : (g k m : ℕ) → AllSigned g k m → AllSigned g k (suc m)
  unfolding AllSigned
  later-all g k m f i h e = signed-later i k m (f i h e)

  module _ (m : ℕ) (known : Known m) (p : ℕ) (h : Sound plan p) where
    -- what it signs, it has signed then
    signs-own : {o : Outcome} → (𝓡.steps m).outcome p ≡ o → o.station.signed ≡ waits (at plan 𝓡 p m) → SignedBy p (waits (at plan 𝓡 p m)) (suc m)
    unfolding SignedBy
    signs-own {o} e f = (suc m, omega arith, ap (λ (s : Station). s.signed) ((𝓡.steps m).becomes p h ∙ ap (λ (x : Outcome). x.station) e) ∙ f)

    own-signed : {o : Outcome} → (𝓡.steps m).outcome p ≡ o → o.station.signed ≡ waits (at plan 𝓡 p m)
        → AllSigned (only p) (waits (at plan 𝓡 p m)) (suc m)
    unfolding AllSigned
    own-signed {o} e f i k u =
        let few : p < 64 = omega (arith, h.line, 𝓡.planned.stations.1) in
        let q : p ≡ i = eqb-true p i (sym (has-only p i few) ∙ u) in
        rw (← q) (signs-own e f)

    -- its own turn
    turn-made : {o : Outcome} → (𝓡.steps m).outcome p ≡ o → Turn plan (𝓡.showing m) (𝓡.state m) (𝓡.state (suc m)) p o
        → Made m (waits (at plan 𝓡 p m)) o
    unfolding still move sign gather AllSigned
    turn-made {o} eo (idle e t) =
        rw e (record { gathers = later-all _ _ m (known.gathered p h); relays = none-signed _ (suc m) })
    turn-made {o} eo (ticks d x e t k f) =
        rw e (record { gathers = later-all _ _ m (known.gathered p h); relays = none-signed _ (suc m) })
    turn-made {o} eo (signs e t f w) =
        let s : Station = at plan 𝓡 p m in
        rw e (settled-made m true (record { round = s.round; reading = s.reading; signed = waits s; gathered = join s.gathered (only p) })
        (joined-signed s.gathered (only p) (waits s) (suc m) (later-all _ _ m (known.gathered p h))
        (own-signed (eo ∙ e) (settle-signed true plan _))))
    turn-made {o} eo (hears round signers e t l from) =
        let s : Station = at plan 𝓡 p m in
        rw e (hear-either (Made m (waits s)) plan round signers s
        (λ q.
        settled-made m false (gather signers s)
        (joined-signed s.gathered signers (waits s) (suc m) (later-all _ _ m (known.gathered p h)) (origin q from)))
        (record { gathers = later-all _ _ m (known.gathered p h); relays = none-signed _ (suc m) }))
      where
        origin : round ≡ waits (at plan 𝓡 p m)
            → Some (λ x. (x.round ≡ round) × (x.signers ≡ signers)) (𝓡.state m).flight
            ⊎ (round ≡ waits (at plan 𝓡 p m) → (i : ℕ) → Sound plan i → has signers i ≡ true → (at plan 𝓡 i m).signed ≡ round)
            → AllSigned signers (waits (at plan 𝓡 p m)) (suc m)
        origin q (inl s) =
            (some-all (λ x a c. let u = a.0 in let v = a.1 in later-all signers (waits (at plan 𝓡 p m)) m (rw (← v, ← q, ← u) c)) s known.carried).1
        origin q (inr f) = λ i k u. just-signed i m (f q i k u ∙ q)

    -- where it sends its ready, it has just signed
    ready-signed : ((𝓡.steps m).outcome p).ready ≡ true → AllSigned (only p) (waits (at plan 𝓡 p m)) (suc m)
    ready-signed e = go ((𝓡.steps m).outcome p) refl ((𝓡.steps m).turn p h) e
      where
        go : (o : Outcome) → (𝓡.steps m).outcome p ≡ o → Turn plan (𝓡.showing m) (𝓡.state m) (𝓡.state (suc m)) p o → o.ready ≡ true
            → AllSigned (only p) (waits (at plan 𝓡 p m)) (suc m)
        go o eo (idle f t) r = absurd (still-unready (at plan 𝓡 p m) f r)
        go o eo (ticks d x f t k g) r = absurd (still-unready (move x (at plan 𝓡 p m)) f r)
        go o eo (signs f t g w) r = own-signed (eo ∙ f) (sign-signed plan p (at plan 𝓡 p m))
        go o eo (hears round signers f t l from) r = absurd (hear-unready plan round signers (at plan 𝓡 p m) f r)

  -- of every state
  pub known : (m : ℕ) → Known m
  unfolding AllSigned
  known zero = record {
    gathered = λ q h. let e = (𝓡.begins q h).gathered in rw e (none-signed _ 0);
    carried = let e = 𝓡.empty in rw e no_member;
  }
  known (suc m) = next (known m)
    where
      made : Known m → (p : ℕ) → Sound plan p → Made m (waits (at plan 𝓡 p m)) ((𝓡.steps m).outcome p)
      made before p h = turn-made m before p h refl ((𝓡.steps m).turn p h)

      next : Known m → Known (suc m)
      next before = record {
        gathered = λ q h. let e = (𝓡.steps m).becomes q h in rw e (made before q h).gathers;
        carried = (𝓡.steps m).next (all_map (λ x f. later-all x.signers x.round m f) before.carried)
            (λ p h.
            all-sends plan (now plan 𝓡 (suc m)) p (waits (at plan 𝓡 p m)) ((𝓡.steps m).outcome p)
            (λ e j u. ready-signed m before p h e) (λ z j u. (made before p h).relays));
      }

  -- ---- who starts holds a sound signature

  -- where its round grows, a station relays f + 1 signers
  pub started-relay : (p : ℕ) → Sound plan p → (m : ℕ) → (at plan 𝓡 p m).round < (at plan 𝓡 p (suc m)).round
      → (plan.faults < count ((𝓡.steps m).outcome p).relay) × (((𝓡.steps m).outcome p).relay < 2 ^ plan.stations)
  unfolding still move sign gather
  started-relay p h m l = go ((𝓡.steps m).outcome p) ((𝓡.steps m).turn p h) (rw ((𝓡.steps m).becomes p h) at l)
    where
      s : Station
      s = at plan 𝓡 p m

      settled : (ready : Bool) (t : Station) → t.round ≡ s.round → t.gathered < 2 ^ plan.stations → s.round < (settle ready plan t).station.round
          → (plan.faults < count (settle ready plan t).relay) × ((settle ready plan t).relay < 2 ^ plan.stations)
      settled ready t e b =
          settle-either
          (λ o. s.round < o.station.round → (plan.faults < count o.relay) × (o.relay < 2 ^ plan.stations)) ready plan t
          (λ f g. (f, b)) (λ f g. absurd (omega arith))

      go : (o : Outcome) → Turn plan (𝓡.showing m) (𝓡.state m) (𝓡.state (suc m)) p o → s.round < o.station.round
          → (plan.faults < count o.relay) × (o.relay < 2 ^ plan.stations)
      go o (idle e t) g = absurd (let f = rw e at g in omega arith)
      go o (ticks d x e t k f) g = absurd (let f = rw e at g in omega arith)
      go o (signs e t f w) g =
          rw e (settled true (record { round = s.round; reading = s.reading; signed = waits s; gathered = join s.gathered (only p) }) refl
          (join-lt plan.stations s.gathered (only p) (𝓡.keeps m p h).below (only-lt p plan.stations h.line)) (rw e at g))
      go o (hears round signers e t low from) g =
          rw e (hear-either (λ x. s.round < x.station.round → (plan.faults < count x.relay) × (x.relay < 2 ^ plan.stations)) plan round signers s
          (λ q. settled false (gather signers s) refl (join-lt plan.stations s.gathered signers (𝓡.keeps m p h).below low))
          (λ f. absurd (omega arith)) (rw e at g))

  -- a sound station has signed the round that another starts
  pub started-signed : (p : ℕ) → Sound plan p → (m : ℕ) → (at plan 𝓡 p m).round < (at plan 𝓡 p (suc m)).round
      → (w : ℕ) × Sound plan w × SignedBy w (waits (at plan 𝓡 p m)) (suc m)
  unfolding AllSigned
  started-signed p h m l =
      let r = started-relay p h m l in
      let x = sound-signer plan 𝓡.planned ((𝓡.steps m).outcome p).relay r.1 r.0 in
      (x.0, x.1, (turn-made m (known m) p h refl ((𝓡.steps m).turn p h)).relays x.0 x.1 x.2)

  -- ---- and it signed at its mark

  -- in the step from state z station w comes up to the mark of round k while it waits for k
  pub record Marks (w k z : ℕ) : Type 0 where
    pub shown : 𝓡.showing z w k
    pub waiting : waits (at plan 𝓡 w z) ≡ k
    pub reading : (at plan 𝓡 w z).reading.0 ≡ k * plan.period
    pub signed : (at plan 𝓡 w (suc z)).signed ≡ k
    pub once : now plan 𝓡 (suc z) ≡ now plan 𝓡 z
    pub ready : (𝓡.steps z).outcome w ≡ sign plan w (at plan 𝓡 w z)

  -- a last signed round that changes is signed at the mark
  pub signs-once : (w : ℕ) → Sound plan w → (z : ℕ) → ((at plan 𝓡 w (suc z)).signed ≡ (at plan 𝓡 w z).signed → ⊥) → Marks w (waits (at plan 𝓡 w z)) z
  unfolding still move gather start
  signs-once w h z ne = go ((𝓡.steps z).outcome w) refl ((𝓡.steps z).turn w h)
    where
      s : Station
      s = at plan 𝓡 w z

      same : {o : Outcome} → (𝓡.steps z).outcome w ≡ o → at plan 𝓡 w (suc z) ≡ o.station
      same e = (𝓡.steps z).becomes w h ∙ ap (λ (x : Outcome). x.station) e

      heard-signed : (round signers : ℕ) → (hear plan round signers s).station.signed ≡ s.signed
      heard-signed round signers =
          hear-either (λ o. o.station.signed ≡ s.signed) plan round signers s (λ q. settle-signed false plan (gather signers s)) refl

      go : (o : Outcome) → (𝓡.steps z).outcome w ≡ o → Turn plan (𝓡.showing z) (𝓡.state z) (𝓡.state (suc z)) w o → Marks w (waits s) z
      go o eo (idle e t) = absurd (ne (ap (λ (x : Station). x.signed) (same (eo ∙ e))))
      go o eo (ticks d x e t k f) = absurd (ne (ap (λ (x : Station). x.signed) (same (eo ∙ e))))
      go o eo (signs e t f x) = record {
        shown = x;
        waiting = refl;
        reading = f;
        signed = ap (λ (x : Station). x.signed) (same (eo ∙ e)) ∙ sign-signed plan w s;
        once = t;
        ready = eo ∙ e;
      }
      go o eo (hears round signers e t l from) = absurd (ne (ap (λ (x : Station). x.signed) (same (eo ∙ e)) ∙ heard-signed round signers))

  -- whoever has signed k came up to its mark
  pub signed-marks : (w : ℕ) → Sound plan w → (k : ℕ) → 1 ≤ k → (y : ℕ) → (at plan 𝓡 w y).signed ≡ k → (z : ℕ) × (z < y) × Marks w k z
  signed-marks w h k one zero e = absurd (omega (arith, (𝓡.begins w h).signed))
  signed-marks w h k one (suc y) e = go (eqb (at plan 𝓡 w y).signed k) refl (λ f. signed-marks w h k one y f)
    where
      go : (b : Bool) → eqb (at plan 𝓡 w y).signed k ≡ b → ((at plan 𝓡 w y).signed ≡ k → (z : ℕ) × (z < y) × Marks w k z)
          → (z : ℕ) × (z < suc y) × Marks w k z
      go true q rest = let x = rest (eqb-true _ _ q) in (x.0, omega (arith, x.1), x.2)
      go false q rest =
          let m = signs-once w h y (λ f. eqb-false _ _ q (sym f ∙ e)) in
          let f : waits (at plan 𝓡 w y) ≡ k = sym m.signed ∙ e in
          (y, omega arith, rw f at m)

  -- unforgeability: whoever has started k, some sound station came up to k's mark before
  pub unforgeable : (p : ℕ) → Sound plan p → (m k : ℕ) → 1 ≤ k → k ≤ (at plan 𝓡 p m).round → (w : ℕ) × Sound plan w × ((z : ℕ) × (z < m) × Marks w k z)
  unfolding SignedBy
  unforgeable p h zero k one l = absurd (omega (arith, (𝓡.begins p h).round))
  unforgeable p h (suc m) k one l = elim (dec_le k (at plan 𝓡 p m).round) [
    | yes b ↦
        let x = unforgeable p h m k one b in
        (x.0, x.1, (x.2.0, omega (arith, x.2.1), x.2.2))
    | no b ↦
        let up = rounds plan 𝓡 p h m in
        let e : waits (at plan 𝓡 p m) ≡ k = omega arith in
        let x = started-signed p h m (omega arith) in
        found x.0 x.1 (subst (λ j. SignedBy x.0 j (suc m)) e x.2)
  ]
    where
      found : (w : ℕ) → Sound plan w → SignedBy w k (suc m) → (w : ℕ) × Sound plan w × ((z : ℕ) × (z < suc m) × Marks w k z)
      found w g y = let z = signed-marks w g k one y.0 y.2 in (w, g, (z.0, omega (arith, z.1, y.1), z.2))
