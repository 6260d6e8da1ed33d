-- What an accepted event does to the run, document 01, "Events": every station, the time and the flight afterwards. The
-- small steps of an event are followed one by one, and what it needs of the record and of its table is read off the answer 0.
use Prim.Native.Nat.{ℕ, zero, suc, ◌+◌, ◌*◌, ◌-◌, ◌<◌, ◌≤◌}
use Rattle.std.specs.Prelude.{Bool, ◌&&◌, not, ◌≡◌, ltb, eqb, length, get_or}
use Rattle.std.proofs.Math.Bool.{true, false}
use mathlib.Core.List.{List, [], ◌∷◌, ◌++◌, append_assoc, append-nil}
use Rattle.std.proofs.Math.Path.{refl, ap, sym}
use Rattle.std.proofs.Common.{ap₂, ◌∙◌, get_or-set_same}
use native.Mathlib.Omega.{arith}
use Rattle.std.proofs.Math.Decide.{dec_lt}
use Rattle.std.proofs.Math.ListN.{length-set}
use Rattle.std.proofs.Math.Seq.{get_or-set_other, set-get_or}
use borrow.Author.Tests.{ltb-true, ltb-false, eqb-true, eqb-false, ne_eqb, lt-ltb, le-ltb, eq-eqb}
use Rattle.clock.specs.Limits.{max_stations}
use Rattle.clock.specs.Pick.{pick}
use Rattle.clock.specs.Tests.{both}
use Rattle.mask.specs.Mask.{has, count, join, only, all, minus}
use Rattle.mask.proofs.Laws.{has-minus, has_all, has-only}
use Rattle.setup.specs.declared.Plan.{Plan}
use Rattle.setup.specs.Laws.{Planned}
use Rattle.station.specs.declared.Station.{Station}
use Rattle.station.specs.declared.Outcome.{Outcome}
use Rattle.station.specs.Station.{waits, mark_for, still, complete, start, settle, gather, hear, sign, move, lands, advance}
use Rattle.flight.specs.declared.Message.{Message}
use Rattle.flight.specs.declared.Names.{Names}
use Rattle.flight.specs.Message.{named, no_message, index_of, without, toward, sent_to, same_names, twins}
use Rattle.flight.specs.Message.{names_of as message_names}
use Rattle.flight.specs.Members.{All, no_member, all_append, all_of, all_map, all-sent_to, length_without, without_at}
use Rattle.flight.specs.Members.{Agree, named-agree, agree-named, differs, index_of-named}
use Rattle.flight.specs.Apart.{Apart, other-turn, twins-apart}
use Rattle.event.specs.declared.Event.{Event}
use Rattle.event.specs.declared.Event.TheVariants.{Advance, Deliver, Send}
use Rattle.model.specs.Run.{Run, sound, no_station, station_at, others, ready_of, relay_of, sends, become, sign_at, hear_at, moved_all, moves, lands_at, sign_to}
use Rattle.model.specs.Event.{names_of, take_out, effect, event_answer, step}
use Rattle.model.specs.Valid.{Valid}
use Rattle.model.specs.Allowed.{Delivers, FaultySends}
use Rattle.model.proofs.Allowed.{accepted, advances, delivers, faulty-sends}
use Rattle.model.specs.Moves.{advance_at, advance_sends, Signed, heard, heard_run, message_named}

-- ---- accepted and refused

-- a refused event leaves the run untouched
pub step-refused : (r : Run) (e : Event) (increments : List ℕ) → (event_answer r e increments ≡ 0 → ⊥)
    → step r e increments ≡ r
unfolding step
step-refused r e increments h = ap (λ (b : Bool). pick b (effect r e increments) r) (ne_eqb (event_answer r e increments) 0 h)

-- an accepted one has its effect
pub step-accepted : (r : Run) (e : Event) (increments : List ℕ) → event_answer r e increments ≡ 0
    → step r e increments ≡ effect r e increments
unfolding step
step-accepted r e increments h = ap (λ (b : Bool). pick b (effect r e increments) r) (eq-eqb (event_answer r e increments) 0 h)

-- ---- a station's step

-- a station that settles starts where it holds f + 1 signatures, and else waits on
pub settle-either : (P : Outcome → Type 0) (ready : Bool) (plan : Plan) (s : Station)
    → (plan.faults < count s.gathered → P (record { station = start plan s; ready = ready; relay = s.gathered }))
    → (count s.gathered ≤ plan.faults → P (record { station = s; ready = ready; relay = 0 }))
    → P (settle ready plan s)
unfolding settle complete
settle-either P ready plan s starts stays = go (ltb plan.faults (count s.gathered)) refl
  where
    go : (b : Bool) → ltb plan.faults (count s.gathered) ≡ b
        → P (pick b (record { station = start plan s; ready = ready; relay = s.gathered })
        (record { station = s; ready = ready; relay = 0 }))
    go true e = starts (ltb-true _ _ e)
    go false e = stays (ltb-false _ _ e)

-- one that hears settles where the round is the one it waits for, and else does nothing
pub hear-either : (P : Outcome → Type 0) (plan : Plan) (round signers : ℕ) (s : Station)
    → (round ≡ waits s → P (settle false plan (gather signers s))) → P (still s) → P (hear plan round signers s)
unfolding hear
hear-either P plan round signers s hears stays = go (eqb round (waits s)) refl
  where
    go : (b : Bool) → eqb round (waits s) ≡ b → P (pick b (settle false plan (gather signers s)) (still s))
    go true e = hears (eqb-true _ _ e)
    go false e = stays

-- one that advances signs where it lands, and else goes on
pub advance-either : (P : Outcome → Type 0) (plan : Plan) (i by : ℕ) (s : Station)
    → (lands plan by s ≡ true → P (sign plan i (move by s))) → P (still (move by s)) → P (advance plan i by s)
unfolding advance
advance-either P plan i by s signs stays = go (lands plan by s) refl
  where
    go : (b : Bool) → lands plan by s ≡ b → P (pick b (sign plan i (move by s)) (still (move by s)))
    go true e = signs e
    go false e = stays

-- one that lands comes up to its mark from below
pub lands-is : (plan : Plan) (by : ℕ) (s : Station) → lands plan by s ≡ true
    → (s.reading.0 < mark_for plan s) × (s.reading.0 + by ≡ mark_for plan s)
unfolding lands
lands-is plan by s e =
    let t = both (ltb s.reading.0 (mark_for plan s)) (eqb (s.reading.0 + by) (mark_for plan s)) e in
    (ltb-true _ _ t.0, eqb-true _ _ t.1)

-- ---- what it sends

-- the others of a planned line are its sound stations but i
pub others-are : (plan : Plan) (i j : ℕ) → Planned plan → i < plan.stations
    → has (others plan i) j ≡ (sound plan j && not (eqb i j))
unfolding others sound
others-are plan i j p h =
    let w : plan.stations ≤ 63 = omega (arith, p.stations.1) in
    has-minus (minus (all plan.stations) plan.faulty) (only i) j
    ∙ ap₂ (λ (a b : Bool). a && not b) (has-minus (all plan.stations) plan.faulty j) (has-only i j (omega arith))
    ∙ ap (λ (a : Bool). a && not (has plan.faulty j) && not (eqb i j)) (has_all plan.stations j w)

-- what holds of its ready and of its relay to each of the others, where it sends one, holds of all that it sends
pub all-sends : {P : Message → Type 0} (plan : Plan) (time i k : ℕ) (o : Outcome)
    → (o.ready ≡ true → (j : ℕ) → has (others plan i) j ≡ true → P (toward (ready_of time i k) j))
    → ((o.relay ≡ 0 → ⊥) → (j : ℕ) → has (others plan i) j ≡ true → P (toward (relay_of time i k o.relay) j))
    → All P (sends plan time i k o)
unfolding sends
all-sends {P} plan time i k o readies relays = all_append (ready o.ready refl) (relay (eqb o.relay 0) refl)
  where
    ready : (b : Bool) → o.ready ≡ b → All P (pick b (sent_to (ready_of time i k) max_stations (others plan i)) [])
    ready true e = all-sent_to (ready_of time i k) max_stations (others plan i) (λ j l u. readies e j u)
    ready false e = no_member

    relay : (b : Bool) → eqb o.relay 0 ≡ b
        → All P (pick b [] (sent_to (relay_of time i k o.relay) max_stations (others plan i)))
    relay true e = no_member
    relay false e =
        all-sent_to (relay_of time i k o.relay) max_stations (others plan i) (λ j l u. relays (eqb-false _ _ e) j u)

-- ---- advance

-- each clock has gone on by its increment
pub moved_at : (ss : List Station) (increments : List ℕ) (i : ℕ) → i < length ss → i < length increments
    → get_or (moved_all ss increments) i no_station ≡ move (get_or increments i 0) (get_or ss i no_station)
unfolding moved_all
moved_at [] increments i h l = absurd (omega arith)
moved_at (s ∷ ss) [] i h l = absurd (omega arith)
moved_at (s ∷ ss) (x ∷ xs) zero h l = refl
moved_at (s ∷ ss) (x ∷ xs) (suc i) h l = moved_at ss xs i (omega arith) (omega arith)

-- and there are as many stations
pub moved_length : (ss : List Station) (increments : List ℕ) → length (moved_all ss increments) ≡ length ss
unfolding moved_all
moved_length [] increments = refl
moved_length (s ∷ ss) [] = refl
moved_length (s ∷ ss) (x ∷ xs) = ap suc (moved_length ss xs)

module _ (r : Run) (d : ℕ) (increments : List ℕ) (all : length increments ≡ length r.stations) where
  -- before any has signed
  signed-none : Signed r d increments 0 (moves d increments r)
  unfolding moves advance_sends
  signed-none = record {
    plan = refl;
    time = refl;
    stations = moved_length r.stations increments;
    done = λ i h. absurd (omega arith);
    next = λ i l h. moved_at r.stations increments i h (omega arith);
    flight = sym (append-nil r.flight);
  }

  module _ (k : ℕ) (h : k < length r.stations) (after : Run) (s : Signed r d increments k after) where
    -- station k has done what an advance has it do
    signed-become : (w : ℕ) (o : Outcome) → w ≡ waits (station_at r k) → o ≡ advance_at r increments k
        → Signed r d increments (suc k) (become k w o after)
    unfolding become advance_sends
    signed-become w o ew eo = record {
      plan = s.plan;
      time = s.time;
      stations = length-set after.stations k o.station ∙ s.stations;
      done = λ i l. elim (dec_lt i k) [
        | yes b ↦ get_or-set_other after.stations k i o.station no_station (λ q. omega arith) ∙ s.done i b
        | no b ↦
            let q : i ≡ k = omega arith in
            rw (q, ← eo) (get_or-set_same after.stations k o.station no_station (omega (arith, s.stations)))
      ];
      next = λ i l b. get_or-set_other after.stations k i o.station no_station (λ q. omega arith) ∙ s.next i (omega arith) b;
      flight =
          let p = s.plan in
          let t = s.time in
          let f = s.flight in
          rw (p, t, f, ew, eo) (append_assoc r.flight (advance_sends r d increments k) _);
    }

    -- station k lands and signs
    signed-lands : lands_at r increments k ≡ true → Signed r d increments (suc k) (sign_at k after)
    unfolding lands_at sign_at advance move
    signed-lands e =
        let here = s.next k (omega arith) h in
        let p = s.plan in
        signed-become (waits (station_at after k)) (sign after.plan k (station_at after k)) (rw here refl) (rw (p, here, e) refl)

    -- station k does not land
    signed-goes : lands_at r increments k ≡ false → Signed r d increments (suc k) after
    unfolding lands_at advance_sends advance still sends
    signed-goes e = record {
      plan = s.plan;
      time = s.time;
      stations = s.stations;
      done = λ i l. elim (dec_lt i k) [
        | yes b ↦ s.done i b
        | no b ↦ let q : i ≡ k = omega arith in rw (q, e) (s.next k (omega arith) h)
      ];
      next = λ i l b. s.next i (omega arith) b;
      flight = rw (e, append-nil (advance_sends r d increments k)) s.flight;
    }

  -- the first k have signed where they landed
  pub signed-to : (k : ℕ) → k ≤ length r.stations → Signed r d increments k (sign_to k r increments (moves d increments r))
  unfolding sign_to
  signed-to zero h = signed-none
  signed-to (suc k) h = go (lands_at r increments k) refl (signed-to k (omega arith))
    where
      go : {after : Run} (b : Bool) → lands_at r increments k ≡ b → Signed r d increments k after
          → Signed r d increments (suc k) (pick b (sign_at k after) after)
      go true e s = signed-lands k (omega arith) _ s e
      go false e s = signed-goes k (omega arith) _ s e

-- a station that settles keeps its reading, or starts at k·P + A
reading-settle : (ready : Bool) (plan : Plan) (s : Station)
    → (settle ready plan s).station.reading.0
    ≡ pick (eqb (settle ready plan s).station.round s.round) s.reading.0 (mark_for plan s + plan.step)
unfolding start
reading-settle ready plan s =
    settle-either
    (λ o. o.station.reading.0 ≡ pick (eqb o.station.round s.round) s.reading.0 (mark_for plan s + plan.step)) ready plan s
    (λ e. rw (ne_eqb (waits s) s.round (λ q. omega arith)) refl) (λ e. rw (eq-eqb s.round s.round refl) refl)

-- and so does one that advances, but for its increment
reading-advance : (plan : Plan) (i by : ℕ) (s : Station)
    → (advance plan i by s).station.reading.0
    ≡ pick (eqb (advance plan i by s).station.round s.round) (s.reading.0 + by) (mark_for plan s + plan.step)
unfolding sign move still
reading-advance plan i by s =
    advance-either
    (λ o. o.station.reading.0 ≡ pick (eqb o.station.round s.round) (s.reading.0 + by) (mark_for plan s + plan.step)) plan i by s
    (λ e. reading-settle true plan _) (rw (eq-eqb s.round s.round refl) refl)

module _ (r : Run) (d : ℕ) (increments : List ℕ) (h : event_answer r (Advance d) increments ≡ 0) where
  -- all have signed where they landed
  advanced : Signed r d increments r.plan.stations (step r (Advance d) increments)
  unfolding effect
  advanced =
      let a = accepted r (Advance d) increments h in
      let long = a.0.rules.long in
      let w = (advances r increments d a.1).long in
      rw (step-accepted r (Advance d) increments h) (signed-to r d increments (omega arith) r.plan.stations (omega arith))

  -- time moves by d
  pub advance-time : (step r (Advance d) increments).time ≡ r.time + d
  advance-time = advanced.time

  -- which is later
  pub advance-later : r.time < (step r (Advance d) increments).time
  advance-later = omega (arith, advance-time, (advances r increments d (accepted r (Advance d) increments h).1).span.0)

  -- station i afterwards: its clock has gone on, and it has signed where that brought it up to the mark
  pub advance-station : (i : ℕ) → i < r.plan.stations
      → station_at (step r (Advance d) increments) i ≡ (advance_at r increments i).station
  advance-station = advanced.done

  -- its reading moves by its increment or, where it starts in that event, to k·P + A
  pub advance-reading : (i : ℕ) → i < r.plan.stations
      → (station_at (step r (Advance d) increments) i).reading.0
      ≡ pick (eqb (station_at (step r (Advance d) increments) i).round (station_at r i).round)
      ((station_at r i).reading.0 + get_or increments i 0)
      (mark_for r.plan (station_at r i) + r.plan.step)
  advance-reading i l = rw (advance-station i l) (reading-advance r.plan i (get_or increments i 0) (station_at r i))

  -- one that does not land on its mark goes on
  pub advance-goes : (i : ℕ) → i < r.plan.stations → lands_at r increments i ≡ false
      → station_at (step r (Advance d) increments) i ≡ move (get_or increments i 0) (station_at r i)
  unfolding lands_at advance still
  advance-goes i l e = rw (advance-station i l, e) refl

  -- one that lands signs the waited round and counts its own signature
  pub advance-signs : (i : ℕ) → i < r.plan.stations → lands_at r increments i ≡ true
      → count (join (station_at r i).gathered (only i)) ≤ r.plan.faults
      → station_at (step r (Advance d) increments) i
      ≡ record {
        round = (station_at r i).round;
        reading = record { 0 = (station_at r i).reading.0 + get_or increments i 0 };
        signed = waits (station_at r i);
        gathered = join (station_at r i).gathered (only i);
      }
  unfolding lands_at advance sign move settle complete
  advance-signs i l e f =
      rw (advance-station i l, e, le-ltb r.plan.faults (count (join (station_at r i).gathered (only i))) f) refl

  -- and where that completes f + 1 it starts that round in the same event
  pub advance-starts : (i : ℕ) → i < r.plan.stations → lands_at r increments i ≡ true
      → r.plan.faults < count (join (station_at r i).gathered (only i))
      → station_at (step r (Advance d) increments) i
      ≡ record {
        round = waits (station_at r i);
        reading = record { 0 = mark_for r.plan (station_at r i) + r.plan.step };
        signed = waits (station_at r i);
        gathered = 0;
      }
  unfolding lands_at advance sign move settle complete start
  advance-starts i l e f =
      rw (advance-station i l, e, lt-ltb r.plan.faults (count (join (station_at r i).gathered (only i))) f) refl

  -- there are as many stations as before, under the same plan
  pub advance-plan : ((step r (Advance d) increments).plan ≡ r.plan)
      × (length (step r (Advance d) increments).stations ≡ length r.stations)
  advance-plan = (advanced.plan, advanced.stations)

  -- and behind the flight stands what the stations sent
  pub advance-flight : (step r (Advance d) increments).flight ≡ r.flight ++ advance_sends r d increments r.plan.stations
  advance-flight = advanced.flight

-- ---- hearing

-- f + 1 distinct signatures of the waited round start it: its round is k, its reading k·P + A, its gathering empty
pub hear-starts : (plan : Plan) (round signers : ℕ) (s : Station) → round ≡ waits s
    → plan.faults < count (join s.gathered signers)
    → (hear plan round signers s).station ≡ start plan s
unfolding hear settle complete gather start
hear-starts plan round signers s e h =
    rw (eq-eqb round (waits s) e, lt-ltb plan.faults (count (join s.gathered signers)) h) refl

-- fewer are only gathered
pub hear-gathers : (plan : Plan) (round signers : ℕ) (s : Station) → round ≡ waits s
    → count (join s.gathered signers) ≤ plan.faults
    → (hear plan round signers s).station ≡ gather signers s
unfolding hear settle complete gather
hear-gathers plan round signers s e h =
    rw (eq-eqb round (waits s) e, le-ltb plan.faults (count (join s.gathered signers)) h) refl

-- and those of any other round are ignored
pub hear-ignores : (plan : Plan) (round signers : ℕ) (s : Station) → (round ≡ waits s → ⊥) → hear plan round signers s ≡ still s
unfolding hear
hear-ignores plan round signers s h = rw (ne_eqb round (waits s) h) refl

-- ---- deliver

-- a message that differs in a name from one with these names does not have them
other-names : (x : Names) (a b : Message) → named x a ≡ true → same_names a b ≡ false → named x b ≡ false
other-names x a b e f = differs x b same
  where
    same : Agree x b → ⊥
    same g =
        let m = named-agree x a e in
        let t = agree-named (message_names a) b (record {
          sender = g.sender ∙ sym m.sender;
          recipient = g.recipient ∙ sym m.recipient;
          round = g.round ∙ sym m.round;
          kind = g.kind ∙ sym m.kind;
        }) in
        let z : ◌≡◌ {A = ℕ} 0 1 = cc in
        omega arith

-- the first message with these names taken out of a flight without twins, none that is left has them
named-gone : (x : Names) (ms : List Message) (i : ℕ) → i ≡ index_of x ms → i < length ms → twins ms ≡ false
    → All (λ m. named x m ≡ false) (without i ms)
unfolding Apart
named-gone x ms i first h e = all_of (without i ms) no_message (λ j l. left j (omega (arith, length_without i ms)))
  where
    here : named x (get_or ms i no_message) ≡ true
    here = rw first (index_of-named x ms no_message (omega arith))

    unlike : (p : ℕ) → p < length ms → (p ≡ i → ⊥) → named x (get_or ms p no_message) ≡ false
    unlike p l ne = other-names x (get_or ms i no_message) (get_or ms p no_message) here (elim (dec_lt i p) [
      | yes b ↦ twins-apart ms e i p b l
      | no b ↦ other-turn _ _ (twins-apart ms e p i (omega (arith, ne)) h)
    ])

    left : (j : ℕ) → j < length ms - 1 → named x (get_or (without i ms) j no_message) ≡ false
    left j l = rw (without_at i ms j no_message l h) (go (eqb j i) refl)
      where
        go : (b : Bool) → eqb j i ≡ b → named x (pick b (get_or ms (length ms - 1) no_message) (get_or ms j no_message)) ≡ false
        go true q = unlike (length ms - 1) (omega arith) (λ z. omega (arith, eqb-true j i q))
        go false q = unlike j (omega arith) (eqb-false j i q)

module _ (r : Run) (sender recipient round kind : ℕ) (increments : List ℕ)
    (h : event_answer r (Deliver sender recipient round kind) increments ≡ 0) where
  -- it met a valid record
  valid : Valid r
  valid = (accepted r (Deliver sender recipient round kind) increments h).0

  -- and its table refuses nothing
  pub delivered : Delivers r sender recipient round kind increments
  delivered = delivers r increments sender recipient round kind (accepted r (Deliver sender recipient round kind) increments h).1

  -- it leaves the flight, and its recipient hears it
  pub deliver-is : step r (Deliver sender recipient round kind) increments
      ≡ heard_run r (without (index_of (names_of sender recipient round kind) r.flight) r.flight) recipient round
      (message_named r sender recipient round kind).signers
  unfolding effect take_out hear_at become
  deliver-is = step-accepted r (Deliver sender recipient round kind) increments h

  -- its recipient is in the table
  deliver-end : recipient < length r.stations
  deliver-end = omega (arith, delivered.ends.to.line, valid.rules.long)

  -- its recipient afterwards
  pub deliver-station : station_at (step r (Deliver sender recipient round kind) increments) recipient
      ≡ (heard r recipient round (message_named r sender recipient round kind).signers).station
  deliver-station = rw deliver-is (get_or-set_same r.stations recipient _ no_station deliver-end)

  -- every other station is as it was
  pub deliver-other : (i : ℕ) → (i ≡ recipient → ⊥)
      → station_at (step r (Deliver sender recipient round kind) increments) i ≡ station_at r i
  deliver-other i ne =
      let o = heard r recipient round (message_named r sender recipient round kind).signers in
      rw deliver-is (get_or-set_other r.stations recipient i o.station no_station ne)

  -- no message in flight has its names any more
  pub deliver-gone : All (λ m. named (names_of sender recipient round kind) m ≡ false)
      (step r (Deliver sender recipient round kind) increments).flight
  deliver-gone =
      rw deliver-is
      (all_append (named-gone (names_of sender recipient round kind) r.flight _ refl delivered.found valid.rules.single)
      (all_map (λ m e. differs (names_of sender recipient round kind) m (λ g. delivered.ends.apart (sym g.sender ∙ e)))
      (all-sends r.plan r.time recipient _ _ (λ e j u. refl) (λ e j u. refl))))

  -- with f + 1 distinct signatures of the waited round its recipient starts that round in the same event
  pub deliver-starts : round ≡ waits (station_at r recipient)
      → r.plan.faults < count (join (station_at r recipient).gathered (message_named r sender recipient round kind).signers)
      → station_at (step r (Deliver sender recipient round kind) increments) recipient ≡ start r.plan (station_at r recipient)
  deliver-starts e l = deliver-station ∙ hear-starts r.plan round _ (station_at r recipient) e l

  -- with fewer it only gathers
  pub deliver-gathers : round ≡ waits (station_at r recipient)
      → count (join (station_at r recipient).gathered (message_named r sender recipient round kind).signers) ≤ r.plan.faults
      → station_at (step r (Deliver sender recipient round kind) increments) recipient
      ≡ gather (message_named r sender recipient round kind).signers (station_at r recipient)
  deliver-gathers e l = deliver-station ∙ hear-gathers r.plan round _ (station_at r recipient) e l

  -- a message of any other round is ignored
  pub deliver-ignored : (round ≡ waits (station_at r recipient) → ⊥)
      → station_at (step r (Deliver sender recipient round kind) increments) recipient ≡ station_at r recipient
  unfolding still
  deliver-ignored ne =
      deliver-station ∙ ap (λ (o : Outcome). o.station) (hear-ignores r.plan round _ (station_at r recipient) ne)

-- ---- faulty send

module _ (r : Run) (sender recipient round signers : ℕ) (increments : List ℕ)
    (h : event_answer r (Send sender recipient round signers) increments ≡ 0) where
  -- its table refuses nothing
  pub faulty-sent : FaultySends r sender recipient round signers increments
  faulty-sent = faulty-sends r increments sender recipient round signers (accepted r (Send sender recipient round signers) increments h).1

  -- its recipient hears it at once
  pub send-is : step r (Send sender recipient round signers) increments ≡ heard_run r r.flight recipient round signers
  unfolding effect hear_at become
  send-is = step-accepted r (Send sender recipient round signers) increments h

  -- its recipient is in the table
  send-end : recipient < length r.stations
  send-end = omega (arith, faulty-sent.ends.to.line, (accepted r (Send sender recipient round signers) increments h).0.rules.long)

  -- its recipient afterwards
  pub send-station : station_at (step r (Send sender recipient round signers) increments) recipient ≡ (heard r recipient round signers).station
  send-station = rw send-is (get_or-set_same r.stations recipient _ no_station send-end)

  -- every other station is as it was
  pub send-other : (i : ℕ) → (i ≡ recipient → ⊥) → station_at (step r (Send sender recipient round signers) increments) i ≡ station_at r i
  send-other i ne = rw send-is (get_or-set_other r.stations recipient i (heard r recipient round signers).station no_station ne)

  -- with f + 1 distinct signatures of the waited round its recipient starts that round in the same event
  pub send-starts : round ≡ waits (station_at r recipient) → r.plan.faults < count (join (station_at r recipient).gathered signers)
      → station_at (step r (Send sender recipient round signers) increments) recipient ≡ start r.plan (station_at r recipient)
  send-starts e l = send-station ∙ hear-starts r.plan round signers (station_at r recipient) e l

  -- with fewer it only gathers
  pub send-gathers : round ≡ waits (station_at r recipient) → count (join (station_at r recipient).gathered signers) ≤ r.plan.faults
      → station_at (step r (Send sender recipient round signers) increments) recipient ≡ gather signers (station_at r recipient)
  send-gathers e l = send-station ∙ hear-gathers r.plan round signers (station_at r recipient) e l

  -- one of any other round changes nothing
  pub send-ignored : (round ≡ waits (station_at r recipient) → ⊥) → step r (Send sender recipient round signers) increments ≡ r
  unfolding still sends
  send-ignored ne =
      rw (send-is, hear-ignores r.plan round signers (station_at r recipient) ne)
      (λ i. record {
        plan = r.plan;
        time = r.time;
        stations = set-get_or r.stations recipient no_station i;
        flight = append-nil r.flight i;
      })

-- ---- a start

-- a start's round is the waited one and its reading k·P + A, where k is that round
pub start-shows : (plan : Plan) (s : Station)
    → ((start plan s).round ≡ waits s) × ((start plan s).reading.0 ≡ waits s * plan.period + plan.step)
unfolding start
start-shows plan s = (refl, refl)
