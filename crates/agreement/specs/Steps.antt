-- A run in two steps for each event: first the clocks move, then the stations sign or hear. What a step does to each station,
-- to the time and to the flight, as the proof of demand 3 needs it.
use Prim.Native.Nat.{ℕ, zero, suc, ◌+◌, ◌^◌, ◌<◌, ◌≤◌}
use Rattle.std.specs.Prelude.{Bool, ◌⊎◌, get_or}
use Rattle.std.proofs.Math.Bool.{true, false}
use mathlib.Core.List.{List, [], ◌++◌}
use Rattle.std.proofs.Math.Logic.{inl}
use Rattle.std.proofs.Common.{inr, get_or-set_same, get_or-set_other}
use Rattle.std.proofs.Math.Path.{◌≡◌, refl}
use Rattle.std.proofs.Math.Decide.{dec_lt}
use native.Mathlib.Omega.{arith}
use Rattle.std.proofs.Math.Dec.{eqb}
use borrow.Author.Tests.{eqb-true, eqb-false, eq-eqb}
use Rattle.clock.specs.Drift.{keeps}
use Rattle.clock.specs.Pick.{pick}
use Rattle.mask.specs.Mask.{has}
use Rattle.setup.specs.declared.Plan.{Plan}
use Rattle.station.specs.declared.Station.{Station}
use Rattle.station.specs.declared.Outcome.{Outcome}
use Rattle.station.specs.Station.{waits, mark_for, still, hear, sign, move, advance}
use Rattle.flight.specs.declared.Message.{Message}
use Rattle.flight.specs.Message.{no_message, index_of, without}
use Rattle.flight.specs.Members.{All, no_member, all_append, all-at, all_without, Agree, named-agree, index_of-named}
use Rattle.event.specs.declared.Event.{Event}
use Rattle.event.specs.declared.Event.TheVariants.{Advance, Deliver, Send}
use Rattle.line.specs.Run.{Run, no_station, station_at, sends, become, hear_at, moved_all, moves, lands_at}
use Rattle.line.specs.Event.{names_of, take_out, effect, event_answer, step}
use Rattle.line.specs.Valid.{Sound, Valid}
use Rattle.line.specs.Allowed.{Advances, Delivers, FaultySends}
use Rattle.line.proofs.Allowed.{accepted, advances, delivers, faulty-sends}
use Rattle.line.proofs.ValidSteps.{landed-sound}
use Rattle.line.proofs.Moves.{lands-is, moved_at, signed-to}
use Rattle.line.specs.Moves.{heard_run, advance_at, advance_sends, Signed}
use Rattle.agreement.specs.Statement.{Shows}
use Rattle.agreement.specs.Among.{Some, some_left, some_right, some_at, some-without}

-- ---- what a step does

-- what station p does in a step from a to b: nothing; its clock goes on; it signs at its mark; it hears signatures, which a
-- message in flight carried, or which each sound signer has just made
pub data Turn (plan : Plan) (shows : ℕ → ℕ → Type 0) (a b : Run) (p : ℕ) (o : Outcome) : Type 0 where
  idle : o ≡ still (station_at a p) → b.time ≡ a.time → Turn plan shows a b p o
  ticks : (d x : ℕ) → o ≡ still (move x (station_at a p)) → b.time ≡ a.time + d → keeps plan.drift d x ≡ true
      → ((station_at a p).reading.0 < mark_for plan (station_at a p) → (station_at a p).reading.0 + x ≤ mark_for plan (station_at a p))
      → Turn plan shows a b p o
  signs : o ≡ sign plan p (station_at a p) → b.time ≡ a.time → (station_at a p).reading.0 ≡ mark_for plan (station_at a p)
      → shows p (waits (station_at a p)) → Turn plan shows a b p o
  hears : (round signers : ℕ) → o ≡ hear plan round signers (station_at a p) → b.time ≡ a.time → signers < 2 ^ plan.stations
      → Some (λ m. (m.round ≡ round) × (m.signers ≡ signers)) a.flight
      ⊎ (round ≡ waits (station_at a p) → (i : ℕ) → Sound plan i → has signers i ≡ true → (station_at a i).signed ≡ round)
      → Turn plan shows a b p o

-- a message with this property is delivered in a step from a: its recipient hears it
pub record Given (plan : Plan) (a : Run) (outcome : ℕ → Outcome) (P : Message → Type 0) : Type 0 where
  pub message : Message
  pub has-it : P message
  pub recipient : Sound plan message.recipient
  pub heard-it : outcome message.recipient ≡ hear plan message.round message.signers (station_at a message.recipient)

-- a step from a to b
pub record Step (plan : Plan) (shows : ℕ → ℕ → Type 0) (a b : Run) : Type 1 where
  pub outcome : ℕ → Outcome
  pub turn : (p : ℕ) → Sound plan p → Turn plan shows a b p (outcome p)
  pub becomes : (p : ℕ) → Sound plan p → station_at b p ≡ (outcome p).station
  -- time does not fall
  pub forth : a.time ≤ b.time
  -- no message is overdue after it
  pub soon : All (λ m. a.time ≤ m.sent.0 + plan.bound) a.flight → All (λ m. b.time ≤ m.sent.0 + plan.bound) a.flight
  -- what the messages and those sent now have, all have then
  pub next : {Q : Message → Type 0} → All Q a.flight
      → ((p : ℕ) → Sound plan p → All Q (sends plan b.time p (waits (station_at a p)) (outcome p))) → All Q b.flight
  -- what a station sends is in flight then
  pub sent : {P : Message → Type 0} (p : ℕ) → Sound plan p → Some P (sends plan b.time p (waits (station_at a p)) (outcome p)) → Some P b.flight
  -- and a message that was in flight is, or it was delivered
  pub kept : {P : Message → Type 0} → Some P a.flight → Some P b.flight ⊎ Given plan a outcome P

-- a step that shows this shows that
pub step-shows : {plan : Plan} {shows more : ℕ → ℕ → Type 0} {a b : Run} → ((p k : ℕ) → shows p k → more p k) → Step plan shows a b → Step plan more a b
step-shows {plan} {shows} {more} {a} {b} f s = record {
  outcome = s.outcome;
  turn = λ p h. turned p (s.outcome p) (s.turn p h);
  becomes = s.becomes;
  forth = s.forth;
  soon = s.soon;
  next = s.next;
  sent = s.sent;
  kept = s.kept;
}
  where
    turned : (p : ℕ) (o : Outcome) → Turn plan shows a b p o → Turn plan more a b p o
    turned p o (idle e t) = idle e t
    turned p o (ticks d x e t k m) = ticks d x e t k m
    turned p o (signs e t m w) = signs e t m (f p (waits (station_at a p)) w)
    turned p o (hears round signers e t l w) = hears round signers e t l w

-- ---- the events

-- nothing is sent by a station that only moves
sends-still : (plan : Plan) (time i k : ℕ) (s : Station) → sends plan time i k (still s) ≡ []
unfolding sends still
sends-still plan time i k s = refl

still-none : {P : Message → Type 0} (plan : Plan) (time i k : ℕ) (s : Station) → Some P (sends plan time i k (still s)) → ⊥
still-none {P} plan time i k s x = let e = sends-still plan time i k s in gone (rw e at x)
  where
    gone : Some P [] → ⊥
    gone = elim [ ]

-- a step in which nothing happens
pub rests : (r : Run) (shows : ℕ → ℕ → Type 0) → Step r.plan shows r r
unfolding still
rests r shows = record {
  outcome = λ p. still (station_at r p);
  turn = λ p h. idle refl refl;
  becomes = λ p h. refl;
  forth = omega arith;
  soon = λ x. x;
  next = λ x f. x;
  sent = λ p h s. absurd (still-none r.plan r.time p (waits (station_at r p)) (station_at r p) s);
  kept = λ s. inl s;
}

module _ (r : Run) (d : ℕ) (increments : List ℕ) (v : Valid r) (a : Advances r d increments) where
  -- each clock that an advance moves
  moved-is : (p : ℕ) → p < r.plan.stations → station_at (moves d increments r) p ≡ move (get_or increments p 0) (station_at r p)
  unfolding moves
  moved-is p h = moved_at r.stations increments p (omega (arith, v.rules.long)) (omega (arith, a.long))

  -- an advance's first step: the clocks move
  pub goes : (shows : ℕ → ℕ → Type 0) → Step r.plan shows r (moves d increments r)
  unfolding moves still
  goes shows = record {
    outcome = λ p. still (move (get_or increments p 0) (station_at r p));
    turn = λ p h. ticks d (get_or increments p 0) refl refl (a.drift p h) (a.mark p h.line);
    becomes = λ p h. moved-is p h.line;
    forth = omega arith;
    soon = λ x. a.wait;
    next = λ x f. x;
    sent = λ p h s. absurd
        (still-none r.plan (r.time + d) p (waits (station_at r p)) (move (get_or increments p 0) (station_at r p)) s);
    kept = λ s. inl s;
  }

  -- its second step: those that landed sign
  done : Signed r d increments r.plan.stations (effect r (Advance d) increments)
  unfolding effect
  done = signed-to r d increments (omega (arith, a.long, v.rules.long)) r.plan.stations (omega (arith, v.rules.long))

  -- a faulty station sends nothing
  faulty-none : (k : ℕ) → k < r.plan.stations → has r.plan.faulty k ≡ true
      → sends r.plan (r.time + d) k (waits (station_at r k)) (advance_at r increments k) ≡ []
  unfolding advance lands_at
  faulty-none k h u = go (lands_at r increments k) refl
    where
      go : (b : Bool) → lands_at r increments k ≡ b
          → sends r.plan (r.time + d) k (waits (station_at r k))
          (pick b (sign r.plan k (move (get_or increments k 0) (station_at r k))) (still (move (get_or increments k 0) (station_at r k)))) ≡ []
      go true e =
          let f = landed-sound r d increments v.rules a k h e in
          let z : ◌≡◌ {A = ℕ} 0 1 = cc in
          absurd (omega arith)
      go false e = sends-still r.plan (r.time + d) k (waits (station_at r k)) (move (get_or increments k 0) (station_at r k))

  -- all that the first k send
  all-turns : {Q : Message → Type 0}
      → ((p : ℕ) → Sound r.plan p → All Q (sends r.plan (r.time + d) p (waits (station_at r p)) (advance_at r increments p)))
      → (k : ℕ) → k ≤ r.plan.stations → All Q (advance_sends r d increments k)
  unfolding advance_sends
  all-turns f zero h = no_member
  all-turns {Q} f (suc k) h = all_append (all-turns f k (omega arith)) (go (has r.plan.faulty k) refl)
    where
      go : (b : Bool) → has r.plan.faulty k ≡ b
          → All Q (sends r.plan (r.time + d) k (waits (station_at r k)) (advance_at r increments k))
      go true e = rw (faulty-none k h e) no_member
      go false e = f k (record { line = h; unmarked = e })

  some_turn : {P : Message → Type 0} (p : ℕ) → Some P (sends r.plan (r.time + d) p (waits (station_at r p)) (advance_at r increments p))
      → (k : ℕ) → p < k → Some P (advance_sends r d increments k)
  unfolding advance_sends
  some_turn p s zero h = absurd (omega arith)
  some_turn {P} p s (suc k) h = elim (dec_lt p k) [
    | yes b ↦ some_left (sends r.plan (r.time + d) k (waits (station_at r k)) (advance_at r increments k)) (some_turn p s k b)
    | no b ↦
        let q : p ≡ k = omega arith in
        some_right (advance_sends r d increments k) (rw (← q) s)
  ]

  -- a station that landed signs, and another does nothing more
  landed-or-not : (shows : ℕ → ℕ → Type 0) → ((p : ℕ) → Sound r.plan p → lands_at r increments p ≡ true → shows p (waits (station_at r p)))
      → (p : ℕ) → Sound r.plan p → (b : Bool) → lands_at r increments p ≡ b
      → Turn r.plan shows (moves d increments r) (effect r (Advance d) increments) p (advance_at r increments p)
  unfolding advance lands_at move moves
  landed-or-not shows shown p h true e =
      let m = moved-is p h.line in
      let l = lands-is r.plan (get_or increments p 0) (station_at r p) e in
      signs (rw (m, e) refl) done.time (rw m l.1) (rw m (shown p h e))
  landed-or-not shows shown p h false e = let m = moved-is p h.line in idle (rw (m, e) refl) done.time

  pub signs-step : (shows : ℕ → ℕ → Type 0) → ((p : ℕ) → Sound r.plan p → lands_at r increments p ≡ true → shows p (waits (station_at r p)))
      → Step r.plan shows (moves d increments r) (effect r (Advance d) increments)
  unfolding moves move
  signs-step shows shown = record {
    outcome = λ p. advance_at r increments p;
    turn = λ p h. landed-or-not shows shown p h (lands_at r increments p) refl;
    becomes = λ p h. done.done p h.line;
    forth = omega (arith, done.time);
    soon = λ x. let t = done.time in rw t x;
    next = λ x f. let g = done.flight in rw g (all_append x (all-turns (λ p h. same p h (f p h)) r.plan.stations (omega arith)));
    sent = λ p h s.
        let g = done.flight in
        rw g (some_right r.flight (some_turn p (other p h s) r.plan.stations h.line));
    kept = λ s. let g = done.flight in inl (rw g (some_left (advance_sends r d increments r.plan.stations) s));
  }
    where
      same : {Q : Message → Type 0} (p : ℕ) → Sound r.plan p
          → All Q (sends r.plan (effect r (Advance d) increments).time p (waits (get_or (moved_all r.stations increments) p no_station)) (advance_at r increments p))
          → All Q (sends r.plan (r.time + d) p (waits (station_at r p)) (advance_at r increments p))
      same p h x = let t = done.time in let m = moved-is p h.line in rw (t, m) at x

      other : {P : Message → Type 0} (p : ℕ) → Sound r.plan p
          → Some P (sends r.plan (effect r (Advance d) increments).time p (waits (get_or (moved_all r.stations increments) p no_station)) (advance_at r increments p))
          → Some P (sends r.plan (r.time + d) p (waits (station_at r p)) (advance_at r increments p))
      other p h x = let t = done.time in let m = moved-is p h.line in rw (t, m) at x

-- ---- hearing

module _ (r : Run) (v : Valid r) (ms : List Message) (i round signers : ℕ) (h : Sound r.plan i) (low : signers < 2 ^ r.plan.stations)
    (from : Some (λ m. (m.round ≡ round) × (m.signers ≡ signers)) r.flight
    ⊎ (round ≡ waits (station_at r i) → (j : ℕ) → Sound r.plan j → has signers j ≡ true → (station_at r j).signed ≡ round))
    (left : (Q : Message → Type 0) → All Q r.flight → All Q ms)
    (keep : (P : Message → Type 0) → Some P r.flight
    → Some P ms ⊎ ((m : Message) × P m × (m.recipient ≡ i) × (m.round ≡ round) × (m.signers ≡ signers)))
    (shows : ℕ → ℕ → Type 0) where
  -- what each station does: one hears
  abbrev hearing : ℕ → Outcome
  hearing p = pick (eqb p i) (hear r.plan round signers (station_at r i)) (still (station_at r p))

  at_i : hearing i ≡ hear r.plan round signers (station_at r i)
  at_i = rw (eq-eqb i i refl) refl

  -- one station hears, with the messages ms left
  pub hears-step : Step r.plan shows r (heard_run r ms i round signers)
  unfolding still
  hears-step = record {
    outcome = hearing;
    turn = λ p k. turns p (eqb p i) refl;
    becomes = λ p k. stands p (eqb p i) refl;
    forth = omega arith;
    soon = λ x. x;
    next = λ x f. all_append (left _ x) (let z = f i h in rw at_i at z);
    sent = λ p k s. some_right ms (theirs p s (eqb p i) refl);
    kept = λ s. go (keep _ s);
  }
    where
      turns : (p : ℕ) (b : Bool) → eqb p i ≡ b
          → Turn r.plan shows r (heard_run r ms i round signers) p (pick b (hear r.plan round signers (station_at r i)) (still (station_at r p)))
      turns p true e = let q = eqb-true p i e in hears round signers (rw q refl) refl low (rw q from)
      turns p false e = idle refl refl

      stands : (p : ℕ) (b : Bool) → eqb p i ≡ b
          → station_at (heard_run r ms i round signers) p ≡ (pick b (hear r.plan round signers (station_at r i)) (still (station_at r p))).station
      stands p true e =
          let q = eqb-true p i e in
          rw q (get_or-set_same r.stations i _ no_station (omega (arith, h.line, v.rules.long)))
      stands p false e = get_or-set_other r.stations i p _ no_station (eqb-false p i e)

      theirs : {P : Message → Type 0} (p : ℕ) → Some P (sends r.plan r.time p (waits (station_at r p)) (hearing p)) → (b : Bool) → eqb p i ≡ b
          → Some P (sends r.plan r.time i (waits (station_at r i)) (hear r.plan round signers (station_at r i)))
      theirs p s true e = let q = eqb-true p i e in let z = rw q at s in rw at_i at z
      theirs p s false e =
          absurd (still-none r.plan r.time p (waits (station_at r p)) (station_at r p) (rw e at s))

      go : {P : Message → Type 0}
          → Some P ms ⊎ ((m : Message) × P m × (m.recipient ≡ i) × (m.round ≡ round) × (m.signers ≡ signers))
          → Some P (ms ++ sends r.plan r.time i (waits (station_at r i)) (hear r.plan round signers (station_at r i)))
          ⊎ Given r.plan r hearing P
      go (inl s) = inl (some_left _ s)
      go (inr x) = inr (record {
        message = x.0;
        has-it = x.1;
        recipient = let e = x.2 in rw e h;
        heard-it = let e = x.2 in let f = x.3 in let g = x.4 in rw (e, f, g) at_i;
      })

-- ---- an event in two steps

-- the run after the clocks have moved, and before anybody signs
unfoldable pub move_of : Run → Event → List ℕ → Run
move_of r (Advance d) increments = moves d increments r
move_of r (Deliver sender recipient round kind) increments = r
move_of r (Send sender recipient round signers) increments = r

-- in the middle of an event: a refused one moves nothing
unfoldable pub middle : Run → Event → List ℕ → Run
middle r e increments = pick (eqb (event_answer r e increments) 0) (move_of r e increments) r

-- an event's first step
pub first_step : (r : Run) (e : Event) (increments : List ℕ) (shows : ℕ → ℕ → Type 0) → Step r.plan shows r (middle r e increments)
unfolding middle move_of
first_step r e increments shows = go (eqb (event_answer r e increments) 0) refl
  where
    kinds : (f : Event) → event_answer r f increments ≡ 0 → Step r.plan shows r (move_of r f increments)
    kinds (Advance d) z = let a = accepted r (Advance d) increments z in goes r d increments a.0 (advances r increments d a.1) shows
    kinds (Deliver sender recipient round kind) z = rests r shows
    kinds (Send sender recipient round signers) z = rests r shows

    go : (b : Bool) → eqb (event_answer r e increments) 0 ≡ b → Step r.plan shows r (pick b (move_of r e increments) r)
    go true z = kinds e (eqb-true _ _ z)
    go false z = rests r shows

-- a deliver that is accepted
delivered-step : (r : Run) (sender recipient round kind : ℕ) (increments : List ℕ) (shows : ℕ → ℕ → Type 0) → Valid r
    → Delivers r sender recipient round kind increments → Step r.plan shows r (effect r (Deliver sender recipient round kind) increments)
unfolding effect take_out hear_at become
delivered-step r sender recipient round kind increments shows v a =
    hears-step r v (without j r.flight) recipient round m.signers a.ends.to (all-at v.rules.flight j no_message a.found).signers
    (inl (some_at r.flight j no_message a.found (g.round, refl))) (λ Q x. all_without x j a.found)
    (λ P s. taken P (some-without r.flight j a.found s)) shows
  where
    j : ℕ
    j = index_of (names_of sender recipient round kind) r.flight

    m : Message
    m = get_or r.flight j no_message

    g : Agree (names_of sender recipient round kind) m
    g = named-agree (names_of sender recipient round kind) m (index_of-named (names_of sender recipient round kind) r.flight no_message a.found)

    taken : (P : Message → Type 0) → P m ⊎ Some P (without j r.flight)
        → Some P (without j r.flight) ⊎ ((x : Message) × P x × (x.recipient ≡ recipient) × (x.round ≡ round) × (x.signers ≡ m.signers))
    taken P (inl p) = inr (m, p, g.recipient, g.round, refl)
    taken P (inr s) = inl s

-- a faulty send that is accepted
sent-step : (r : Run) (sender recipient round signers : ℕ) (increments : List ℕ) (shows : ℕ → ℕ → Type 0) → Valid r
    → FaultySends r sender recipient round signers increments → Step r.plan shows r (effect r (Send sender recipient round signers) increments)
unfolding effect hear_at become
sent-step r sender recipient round signers increments shows v a =
    hears-step r v r.flight recipient round signers a.ends.to a.below (inr (λ w i h u. a.signed w i h u)) (λ Q x. x) (λ P s. inl s) shows

-- its second step
pub second-step : (r : Run) (e : Event) (increments : List ℕ) → Step r.plan (Shows r e increments) (middle r e increments) (step r e increments)
unfolding middle move_of step lands_at
second-step r e increments = go (eqb (event_answer r e increments) 0) refl
  where
    kinds : (f : Event) → e ≡ f → event_answer r e increments ≡ 0 → event_answer r f increments ≡ 0
        → Step r.plan (Shows r e increments) (move_of r f increments) (effect r f increments)
    kinds (Advance d) q y z =
        let a = accepted r (Advance d) increments z in
        let b = advances r increments d a.1 in
        signs-step r d increments a.0 b (Shows r e increments)
        (λ p h l.
        let t = lands-is r.plan (get_or increments p 0) (station_at r p) l in
        record { span = d; advance = q; accepted = y; sound = h; waiting = refl; below = t.0; reaches = t.1 })
    kinds (Deliver sender recipient round kind) q y z =
        let a = accepted r (Deliver sender recipient round kind) increments z in
        delivered-step r sender recipient round kind increments (Shows r e increments) a.0 (delivers r increments sender recipient round kind a.1)
    kinds (Send sender recipient round signers) q y z =
        let a = accepted r (Send sender recipient round signers) increments z in
        sent-step r sender recipient round signers increments (Shows r e increments) a.0 (faulty-sends r increments sender recipient round signers a.1)

    go : (b : Bool) → eqb (event_answer r e increments) 0 ≡ b
        → Step r.plan (Shows r e increments) (pick b (move_of r e increments) r) (pick b (effect r e increments) r)
    go true z = let y = eqb-true _ _ z in kinds e refl y y
    go false z = rests r (Shows r e increments)
