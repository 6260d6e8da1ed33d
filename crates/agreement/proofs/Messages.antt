-- Relay and correctness of the signed line. A ready or a relay of round k is in flight until its recipient, who waits for k,
-- gathers it: it is sent when everybody waits for k or more, and no message is in flight for longer than T.
use Rattle.std.specs.Prelude.{ℕ, zero, suc, ◌+◌, ◌^◌, ◌<◌, ◌≤◌, Bool, true, false, ◌||◌, not, ◌⊎◌, ◌≡◌, refl, eqb}
use mathlib.Core.List.{[]}
use Rattle.std.proofs.Common.{inl, inr, sym, ◌∙◌, arith, eqb-true, ne_eqb, eq-eqb}
use Rattle.std.proofs.Math.Path.{ap}
use Rattle.std.proofs.Math.Decide.{dec_le}
use Rattle.std.proofs.lemmas.Bool.{eqb-false}
use Rattle.clock.specs.Limits.{max_stations}
use Rattle.clock.specs.Pick.{pick}
use Rattle.mask.specs.Mask.{has, count, count_to, one, join, only}
use Rattle.mask.proofs.Laws.{count-below, count_none, has_join, has-only, join-lt}
use Rattle.setup.specs.declared.Plan.{Plan}
use Rattle.setup.specs.Laws.{Planned}
use Rattle.station.specs.declared.Station.{Station}
use Rattle.station.specs.declared.Outcome.{Outcome}
use Rattle.station.specs.Station.{waits, still, start, settle, gather, hear, sign, move}
use Rattle.flight.specs.declared.Message.{Message}
use Rattle.flight.specs.Message.{toward, sent_to}
use Rattle.line.specs.Run.{others, ready_of, relay_of, sends}
use Rattle.line.specs.Valid.{Sound}
use Rattle.line.proofs.Valid.{is-sound}
use Rattle.line.proofs.Moves.{settle-either, hear-either, hear-starts, others-are}
use Rattle.agreement.specs.Clocks.{Shown}
use Rattle.agreement.specs.Among.{Some, some_left, some_right, some-sent_to}
use Rattle.agreement.specs.Steps.{Turn, Given, idle, ticks, signs, hears}
use Rattle.agreement.specs.Course.{Course}
use Rattle.agreement.specs.Timing.{at, now, rounds, rounds-on, begun, clocks}
use Rattle.agreement.proofs.Signatures.{started-relay, Marks, unforgeable}

-- ---- counting

-- where q has every member of p, it has as many
count-up : (k : ℕ) (p q : ℕ → Bool) → ((i : ℕ) → i < k → p i ≡ true → q i ≡ true) → count_to k p ≤ count_to k q
unfolding count_to
count-up zero p q f = omega arith
count-up (suc k) p q f = go (p k) (q k) refl refl (count-up k p q (λ i h. f i (omega arith)))
  where
    go : (a b : Bool) → p k ≡ a → q k ≡ b → count_to k p ≤ count_to k q → count_to k p + one a ≤ count_to k q + one b
    go true true e g l = omega arith
    go true false e g l = let t = f k (omega arith) e in let z : ◌≡◌ {A = ℕ} 0 1 = cc in absurd (omega arith)
    go false true e g l = omega arith
    go false false e g l = omega arith

-- a set and the others are all
count-rest : (k : ℕ) (p : ℕ → Bool) → count_to k p + count_to k (λ i. not (p i)) ≡ k
unfolding count_to
count-rest zero p = refl
count-rest (suc k) p = go (p k) (count-rest k p)
  where
    go : (b : Bool) → count_to k p + count_to k (λ i. not (p i)) ≡ k → count_to k p + one b + (count_to k (λ i. not (p i)) + one (not b)) ≡ suc k
    go true e = omega arith
    go false e = omega arith

-- what is joined counts as much as a part
count-join : (n a b : ℕ) → n ≤ 64 → a < 2 ^ n → b < 2 ^ n → count b ≤ count (join a b)
count-join n a b few la lb =
    omega (
      arith,
      count-below b n lb few,
      count-below (join a b) n (join-lt n a b la lb) few,
      count-up n (has b) (has (join a b)) (λ i h e. has_join a b i ∙ either_true (has a i) e),
    )
  where
    either_true : (x : Bool) {y : Bool} → y ≡ true → (x || y) ≡ true
    either_true true e = refl
    either_true false e = e

-- all sound stations together are more than f
pub all_sound : (plan : Plan) → Planned plan → (g : ℕ) → g < 2 ^ plan.stations → ((i : ℕ) → Sound plan i → has g i ≡ true) → plan.faults < count g
all_sound plan p g l f =
    let few : plan.stations ≤ 64 = omega (arith, p.stations.1) in
    let n : ℕ = plan.stations in
    omega (
      arith,
      count-below g n l few,
      count-below plan.faulty n p.marks.0 few,
      p.marks.1,
      p.faults,
      count-rest n (has plan.faulty),
      count-up n (λ i. not (has plan.faulty i)) (has g) (λ i h e. f i (record { line = h; unmarked = flip _ e })),
    )
  where
    flip : (x : Bool) → not x ≡ true → x ≡ false
    flip true e = sym e
    flip false e = refl

-- ---- what is sent

module _ {P : Message → Type 0} (plan : Plan) (time i k : ℕ) (o : Outcome) (j : ℕ) (low : j < 12) (u : has (others plan i) j ≡ true) where
  -- a ready goes to each of the others
  sends-ready : o.ready ≡ true → P (toward (ready_of time i k) j) → Some P (sends plan time i k o)
  unfolding sends
  sends-ready e p =
      rw e (some_left (pick (eqb o.relay 0) [] (sent_to (relay_of time i k o.relay) max_stations (others plan i)))
      (some-sent_to (ready_of time i k) max_stations (others plan i) j low u p))

  -- and so does a relay
  sends-relay : (o.relay ≡ 0 → ⊥) → P (toward (relay_of time i k o.relay) j) → Some P (sends plan time i k o)
  unfolding sends
  sends-relay ne p =
      rw (ne_eqb o.relay 0 ne) (some_right (pick o.ready (sent_to (ready_of time i k) max_stations (others plan i)) [])
      (some-sent_to (relay_of time i k o.relay) max_stations (others plan i) j low u p))

-- a start goes on by one round
start-round : (plan : Plan) (s : Station) → (start plan s).round ≡ s.round + 1
unfolding start
start-round plan s = refl

-- whoever signs sends its ready
sign-ready : (plan : Plan) (p : ℕ) (s : Station) → (sign plan p s).ready ≡ true
unfolding sign
sign-ready plan p s = settle-either (λ o. o.ready ≡ true) true plan _ (λ h. refl) (λ h. refl)

-- each other sound station is among the others
other-of : (plan : Plan) → Planned plan → (i j : ℕ) → Sound plan i → Sound plan j → (i ≡ j → ⊥) → has (others plan i) j ≡ true
other-of plan p i j h g ne = others-are plan i j p h.line ∙ rw (is-sound plan j g, ne_eqb i j ne) refl

module _ (plan : Plan) (𝓡 : Course plan) where
  -- everybody waits for k or more where one comes up to its mark
  waited : (k : ℕ) → Shown (clocks plan 𝓡) k → (w : ℕ) → Sound plan w → (z : ℕ) → Marks plan 𝓡 w k z → (q : ℕ) → Sound plan q → k ≤ waits (at plan 𝓡 q z)
  unfolding Shown
  waited k shown w h z mark q g = shown w h z mark.waiting (omega (arith, mark.reading)) q g

  -- and so later
  waited-on : (k : ℕ) → Shown (clocks plan 𝓡) k → (w : ℕ) → Sound plan w → (z : ℕ) → Marks plan 𝓡 w k z → (q : ℕ) → Sound plan q
      → (m : ℕ) → z ≤ m → k ≤ waits (at plan 𝓡 q m)
  waited-on k shown w h z mark q g m l = omega (arith, waited k shown w h z mark q g, rounds-on plan 𝓡 q g z m l)

  -- ---- relays

  -- a relay of round k to q, sent at this time, by more than f signers
  pub record IsRelay (q k time : ℕ) (x : Message) : Type 0 where
    pub to : x.recipient ≡ q
    pub of : x.round ≡ k
    pub sent : x.sent.0 ≡ time
    pub many : plan.faults < count x.signers
    pub below : x.signers < 2 ^ plan.stations

  module _ (k : ℕ) (shown : Shown (clocks plan 𝓡) k) (p : ℕ) (h : Sound plan p) (x : ℕ) (e : waits (at plan 𝓡 p x) ≡ k)
      (l : (at plan 𝓡 p x).round < (at plan 𝓡 p (suc x)).round) (q : ℕ) (g : Sound plan q) where
    -- when p starts k everybody waits for k or more
    relay-waited : (m : ℕ) → suc x ≤ m → k ≤ waits (at plan 𝓡 q m)
    relay-waited m b =
        let w = unforgeable plan 𝓡 p h (suc x) k (omega arith) (omega (arith, (begun plan 𝓡 p h x l).1)) in
        waited-on k shown w.0 w.1 w.2.0 w.2.2 q g m (omega (arith, w.2.1))

    relay-sent : (p ≡ q → ⊥) → Some (IsRelay q k (now plan 𝓡 (suc x))) (𝓡.state (suc x)).flight
    relay-sent ne =
        let r = started-relay plan 𝓡 p h x l in
        let o : Outcome = (𝓡.steps x).outcome p in
        (𝓡.steps x).sent p h
        (sends-relay plan (now plan 𝓡 (suc x)) p (waits (at plan 𝓡 p x)) o q (omega (arith, g.line, 𝓡.planned.stations.1))
        (other-of plan 𝓡.planned p q h g ne) (λ z. omega (arith, r.0, ap count z, count_none))
        (record { to = refl; of = e; sent = refl; many = r.0; below = r.1 }))

    -- while q waits for k, the relay is in flight
    pub relay-stays : (m : ℕ) → suc x ≤ m → waits (at plan 𝓡 q m) ≡ k → Some (IsRelay q k (now plan 𝓡 (suc x))) (𝓡.state m).flight
    relay-stays zero b w = absurd (omega arith)
    relay-stays (suc m) b w = elim (dec_le (suc x) m) [
      | yes c ↦
          let here : waits (at plan 𝓡 q m) ≡ k = omega (arith, relay-waited m c, (rounds plan 𝓡 q g m).0) in
          kept here ((𝓡.steps m).kept (relay-stays m c here))
      | no c ↦
          let z : m ≡ x = omega arith in
          rw z (relay-sent (λ i. let up = (begun plan 𝓡 p h x l).1 in let f = rw (z, ← i) at w in omega (arith, up, e, f)))
    ]
      where
        -- had it been delivered, q would have started
        kept : waits (at plan 𝓡 q m) ≡ k
            → Some (IsRelay q k (now plan 𝓡 (suc x))) (𝓡.state (suc m)).flight ⊎ Given plan (𝓡.state m) (𝓡.steps m).outcome (IsRelay q k (now plan 𝓡 (suc x)))
            → Some (IsRelay q k (now plan 𝓡 (suc x))) (𝓡.state (suc m)).flight
        kept here (inl s) = s
        kept here (inr given) = absurd (omega (arith, started, w, here))
          where
            y : Message
            y = given.message

            starts : ((𝓡.steps m).outcome q).station ≡ start plan (at plan 𝓡 q m)
            starts =
                let to = given.has-it.to in
                let heard = given.heard-it in
                ap (λ (o : Outcome). o.station) (rw to at heard)
                ∙ hear-starts plan y.round y.signers (at plan 𝓡 q m) (given.has-it.of ∙ sym here)
                (omega (
                  arith,
                  given.has-it.many,
                  count-join plan.stations (at plan 𝓡 q m).gathered y.signers (omega (arith, 𝓡.planned.stations.1)) (𝓡.keeps m q g).below
                      given.has-it.below,
                ))

            started : (at plan 𝓡 q (suc m)).round ≡ (at plan 𝓡 q m).round + 1
            started = ap (λ (s : Station). s.round) ((𝓡.steps m).becomes q g ∙ starts) ∙ start-round plan (at plan 𝓡 q m)

  -- ---- readies

  -- a ready of round k to q, sent at this time, with p's signature
  pub record IsReady (q k p time : ℕ) (x : Message) : Type 0 where
    pub to : x.recipient ≡ q
    pub of : x.round ≡ k
    pub sent : x.sent.0 ≡ time
    pub with-p : has x.signers p ≡ true

  -- as long as it does not start, a station keeps what it has gathered
  gathered-stays : (q : ℕ) → Sound plan q → (m : ℕ) → (at plan 𝓡 q (suc m)).round ≡ (at plan 𝓡 q m).round → (i : ℕ)
      → has (at plan 𝓡 q m).gathered i ≡ true → has (at plan 𝓡 q (suc m)).gathered i ≡ true
  unfolding still move sign gather start
  gathered-stays q g m same i u =
      rw ((𝓡.steps m).becomes q g) (go ((𝓡.steps m).outcome q) ((𝓡.steps m).turn q g) (rw ((𝓡.steps m).becomes q g) at same))
    where
      s : Station
      s = at plan 𝓡 q m

      settled : (ready : Bool) (t : Station) → t.round ≡ s.round → has t.gathered i ≡ true → (settle ready plan t).station.round ≡ s.round
          → has (settle ready plan t).station.gathered i ≡ true
      settled ready t e v =
          settle-either (λ o. o.station.round ≡ s.round → has o.station.gathered i ≡ true) ready plan t
          (λ f w. absurd (omega arith)) (λ f w. v)

      joined : (b : ℕ) → has (join s.gathered b) i ≡ true
      joined b = has_join s.gathered b i ∙ rw u refl

      go : (o : Outcome) → Turn plan (𝓡.showing m) (𝓡.state m) (𝓡.state (suc m)) q o → o.station.round ≡ s.round
          → has o.station.gathered i ≡ true
      go o (idle e t) w = rw e u
      go o (ticks d x e t k f) w = rw e u
      go o (signs e t f x) w =
          rw e (settled true (record { round = s.round; reading = s.reading; signed = waits s; gathered = join s.gathered (only q) }) refl
          (joined (only q)) (rw e at w))
      go o (hears round signers e t low from) w =
          rw e (hear-either (λ x. x.station.round ≡ s.round → has x.station.gathered i ≡ true) plan round signers s
          (λ z. settled false (gather signers s) refl (joined signers)) (λ z. u) (rw e at w))

  -- whoever hears its round and does not start has gathered what it heard
  heard-gathered : (q : ℕ) → Sound plan q → (m : ℕ) (round signers : ℕ) → (𝓡.steps m).outcome q ≡ hear plan round signers (at plan 𝓡 q m)
      → round ≡ waits (at plan 𝓡 q m) → (at plan 𝓡 q (suc m)).round ≡ (at plan 𝓡 q m).round → (i : ℕ) → has signers i ≡ true
      → has (at plan 𝓡 q (suc m)).gathered i ≡ true
  unfolding hear gather start
  heard-gathered q g m round signers e r same i u =
      let b = (𝓡.steps m).becomes q g ∙ ap (λ (o : Outcome). o.station) e in
      rw b (go (rw b at same))
    where
      s : Station
      s = at plan 𝓡 q m

      joined : (x : Bool) → (x || has signers i) ≡ true
      joined true = refl
      joined false = u

      go : (hear plan round signers s).station.round ≡ s.round → has (hear plan round signers s).station.gathered i ≡ true
      go =
          rw (eq-eqb round (waits s) r)
          (settle-either (λ o. o.station.round ≡ s.round → has o.station.gathered i ≡ true) false plan (gather signers s)
          (λ f w. absurd (omega arith)) (λ f w. has_join s.gathered signers i ∙ joined (has s.gathered i)))

  module _ (k : ℕ) (shown : Shown (clocks plan 𝓡) k) (p : ℕ) (h : Sound plan p) (z : ℕ) (mark : Marks plan 𝓡 p k z) (q : ℕ) (g : Sound plan q) where
    -- its own signature it counts at once
    own-gathered : waits (at plan 𝓡 p (suc z)) ≡ k → has (at plan 𝓡 p (suc z)).gathered p ≡ true
    unfolding sign start
    own-gathered w =
        let b = (𝓡.steps z).becomes p h ∙ ap (λ (o : Outcome). o.station) mark.ready in
        rw b (go (rw b at w))
      where
        s : Station
        s = at plan 𝓡 p z

        few : p < 64
        few = omega (arith, h.line, 𝓡.planned.stations.1)

        joined : (x : Bool) → (x || has (only p) p) ≡ true
        joined true = refl
        joined false = has-only p p few ∙ eq-eqb p p refl

        go : waits (sign plan p s).station ≡ k → has (sign plan p s).station.gathered p ≡ true
        go =
            settle-either (λ o. waits o.station ≡ k → has o.station.gathered p ≡ true) true plan
            (record { round = s.round; reading = s.reading; signed = waits s; gathered = join s.gathered (only p) })
            (λ f e. absurd (omega (arith, mark.waiting))) (λ f e. has_join s.gathered (only p) p ∙ joined (has s.gathered p))

    -- to the others it sends it
    ready-sent : (p ≡ q → ⊥) → Some (IsReady q k p (now plan 𝓡 (suc z))) (𝓡.state (suc z)).flight
    ready-sent ne =
        let few : p < 64 = omega (arith, h.line, 𝓡.planned.stations.1) in
        (𝓡.steps z).sent p h
        (sends-ready plan (now plan 𝓡 (suc z)) p (waits (at plan 𝓡 p z)) ((𝓡.steps z).outcome p) q (omega (arith, g.line, 𝓡.planned.stations.1))
        (other-of plan 𝓡.planned p q h g ne) (ap (λ (o : Outcome). o.ready) mark.ready ∙ sign-ready plan p (at plan 𝓡 p z))
        (record { to = refl; of = mark.waiting; sent = refl; with-p = has-only p p few ∙ eq-eqb p p refl }))

    -- while q waits for k, it has gathered p's signature or the ready is in flight
    pub ready-stays : (m : ℕ) → suc z ≤ m → waits (at plan 𝓡 q m) ≡ k
        → (has (at plan 𝓡 q m).gathered p ≡ true) ⊎ Some (IsReady q k p (now plan 𝓡 (suc z))) (𝓡.state m).flight
    ready-stays zero b w = absurd (omega arith)
    ready-stays (suc m) b w = elim (dec_le (suc z) m) [
      | yes c ↦
          let here : waits (at plan 𝓡 q m) ≡ k = omega (arith, waited-on k shown p h z mark q g m (omega arith), (rounds plan 𝓡 q g m).0) in
          next here (ready-stays m c here)
      | no c ↦ let e : m ≡ z = omega arith in rw e (begin (eqb p q) refl (rw e at w))
    ]
      where
        begin : (t : Bool) → eqb p q ≡ t → waits (at plan 𝓡 q (suc z)) ≡ k
            → (has (at plan 𝓡 q (suc z)).gathered p ≡ true) ⊎ Some (IsReady q k p (now plan 𝓡 (suc z))) (𝓡.state (suc z)).flight
        begin true e f = let i = eqb-true p q e in inl (rw (← i) (own-gathered (rw (← i) at f)))
        begin false e f = inr (ready-sent (eqb-false p q e))

        next : waits (at plan 𝓡 q m) ≡ k → (has (at plan 𝓡 q m).gathered p ≡ true) ⊎ Some (IsReady q k p (now plan 𝓡 (suc z))) (𝓡.state m).flight
            → (has (at plan 𝓡 q (suc m)).gathered p ≡ true) ⊎ Some (IsReady q k p (now plan 𝓡 (suc z))) (𝓡.state (suc m)).flight
        next here (inl u) = inl (gathered-stays q g m (omega arith) p u)
        next here (inr s) = heard-or-not ((𝓡.steps m).kept s)
          where
            heard-or-not : Some (IsReady q k p (now plan 𝓡 (suc z))) (𝓡.state (suc m)).flight
                ⊎ Given plan (𝓡.state m) (𝓡.steps m).outcome (IsReady q k p (now plan 𝓡 (suc z)))
                → (has (at plan 𝓡 q (suc m)).gathered p ≡ true) ⊎ Some (IsReady q k p (now plan 𝓡 (suc z))) (𝓡.state (suc m)).flight
            heard-or-not (inl x) = inr x
            heard-or-not (inr given) =
                let to = given.has-it.to in
                let heard = given.heard-it in
                inl (heard-gathered q g m given.message.round given.message.signers (rw to at heard) (given.has-it.of ∙ sym here) (omega arith) p
                given.has-it.with-p)
