-- Every history leaves the record of its run valid, and the number in flight is the messages sent to sound stations less the
-- messages delivered, both counted from that history: it tells of each event its answer and the stations before and after it,
-- and nothing of the flight. Each event keeps the record valid and the count right, so every history does.
use Prim.Native.Nat.{ℕ, zero, suc, ◌+◌, ◌*◌, ◌<◌, ◌≤◌}
use Rattle.std.specs.Prelude.{Bool, true, false, not, List, [], ◌∷◌, ◌++◌, ◌≡◌, eqb, length, get_or}
use Rattle.std.proofs.Math.Path.{refl}
use Rattle.std.proofs.Common.{ap, sym, ◌∙◌, eqb-true, ne_eqb, eq-eqb}
use native.Mathlib.Omega.{arith}
use Rattle.std.proofs.Math.Decide.{dec_lt}
use Rattle.std.proofs.Math.ListN.{length-append}
use Rattle.std.proofs.lemmas.Bool.{eqb-false}
use Rattle.clock.specs.Limits.{max_stations}
use Rattle.clock.specs.Pick.{pick}
use Rattle.mask.specs.Mask.{one, count}
use Rattle.mask.proofs.Laws.{count_none}
use Rattle.setup.specs.declared.Plan.{Plan}
use Rattle.setup.specs.Setup.{setup_answer}
use Rattle.station.specs.declared.Station.{Station}
use Rattle.station.specs.declared.Outcome.{Outcome}
use Rattle.station.specs.Station.{waits, still, start, settle, gather, hear, sign, move, lands, advance}
use Rattle.flight.specs.declared.Message.{Message}
use Rattle.flight.specs.Message.{sent_to, index_of, without}
use Rattle.flight.specs.Members.{length_without, length-sent_to}
use Rattle.event.specs.declared.Event.{Event}
use Rattle.event.specs.declared.Event.TheVariants.{Advance, Deliver, Send}
use Rattle.model.specs.Run.{Run, station_at, fresh, others, ready_of, relay_of, sends, lands_at}
use Rattle.model.specs.Record.{bad_record}
use Rattle.model.specs.Event.{names_of, event_answer, step}
use Rattle.model.specs.Valid.{Ruled, Between, nobody}
use Rattle.model.proofs.Valid.{fresh-valid}
use Rattle.model.specs.Allowed.{Advances}
use Rattle.model.proofs.Allowed.{accepted, advances}
use Rattle.model.proofs.ValidSteps.{landed-sound, step-valid}
use Rattle.model.specs.Moves.{heard, heard_sends, message_named, advance_at, advance_sends}
use Rattle.model.proofs.Moves.{settle-either, hear-either, advance-either, lands-is, step-refused}
use Rattle.model.proofs.Moves.{advance-station, advance-flight, delivered, deliver-is, deliver-station, deliver-other, faulty-sent, send-is, send-station, send-other}
use Rattle.model.specs.History.{Entry, played, others_of, told, sum_to, sent_from, sent_at, sent_between, taken, sent_in, delivered_in, seen}

-- ---- histories

-- a second and a thousandth event are treated as the first is
pub played-on : (r : Run) (es : List Entry) (e : Entry) → played r (es ++ (e ∷ [])) ≡ step (played r es) e.event e.increments
unfolding played
played-on r [] e = refl
played-on r (a ∷ es) e = played-on (step r a.event a.increments) es e

-- ---- every history keeps the record valid

-- from any valid run
pub played-valid : (r : Run) (es : List Entry) → bad_record r ≡ false → bad_record (played r es) ≡ false
unfolding played
played-valid r [] v = v
played-valid r (e ∷ es) v =
    played-valid (step r e.event e.increments) es (step-valid r e.event e.increments v)

-- and from a fresh one of an accepted setup
pub run-valid : (plan : Plan) (first : List ℕ) (es : List Entry) → setup_answer plan first ≡ 0
    → bad_record (played (fresh plan first) es) ≡ false
run-valid plan first es e = played-valid (fresh plan first) es (fresh-valid plan first e)

-- ---- what was sent and delivered

-- what the stations sent between two runs
abbrev sent_by : Run → Run → ℕ
sent_by before after = sent_between before.plan before.stations after.stations

-- ---- sums

-- a sum depends on nothing but what is summed
sum_same : (k : ℕ) (f g : ℕ → ℕ) → ((i : ℕ) → i < k → f i ≡ g i) → sum_to k f ≡ sum_to k g
unfolding sum_to
sum_same zero f g e = refl
sum_same (suc k) f g e = omega (arith, sum_same k f g (λ i h. e i (omega arith)), e k (omega arith))

-- nothing summed
sum-none : (k : ℕ) (f : ℕ → ℕ) → ((i : ℕ) → i < k → f i ≡ 0) → sum_to k f ≡ 0
unfolding sum_to
sum-none zero f e = refl
sum-none (suc k) f e = omega (arith, sum-none k f (λ i h. e i (omega arith)), e k (omega arith))

-- only one number counts
sum_one : (k : ℕ) (f : ℕ → ℕ) (p : ℕ) → p < k → ((i : ℕ) → (i ≡ p → ⊥) → f i ≡ 0) → sum_to k f ≡ f p
unfolding sum_to
sum_one zero f p h e = absurd (omega arith)
sum_one (suc k) f p h e = elim (dec_lt p k) [
  | yes b ↦ omega (arith, sum_one k f p b e, e k (λ q. omega arith))
  | no b ↦ let q : p ≡ k = omega arith in rw q (omega (arith, sum-none k f (λ i l. e i (λ z. omega arith))))
]

-- ---- a station tells the others exactly what changed

-- its outcome has a ready where its last signed round changed and a relay where its round did
record Tells (s : Station) (o : Outcome) : Type 0 where
  ready : o.ready ≡ not (eqb s.signed o.station.signed)
  relay : eqb o.relay 0 ≡ eqb s.round o.station.round

-- so it sends as many messages as the change tells
length-sends : (plan : Plan) (time i k : ℕ) (s : Station) (o : Outcome) → Tells s o
    → length (sends plan time i k o) ≡ sent_from plan i s o.station
unfolding sends told
length-sends plan time i k s o t =
    let a = t.ready in
    let b = t.relay in
    rw (a, b, length-append)
    (go (length-sent_to (ready_of time i k) max_stations (others plan i)) (length-sent_to (relay_of time i k o.relay) max_stations (others plan i))
    (not (eqb s.signed o.station.signed)) (eqb s.round o.station.round))
  where
    readies : List Message
    readies = sent_to (ready_of time i k) max_stations (others plan i)

    relays : List Message
    relays = sent_to (relay_of time i k o.relay) max_stations (others plan i)

    go : length readies ≡ others_of plan i → length relays ≡ others_of plan i
        → (x y : Bool) → length (pick x readies []) + length (pick y [] relays) ≡ others_of plan i * (one x + one (not y))
    go a b true true = omega arith
    go a b true false = omega arith
    go a b false true = omega arith
    go a b false false = omega arith

-- a station that does nothing tells nothing
told_none : (s : Station) → told s s ≡ 0
unfolding told
told_none s = rw (eq-eqb s.signed s.signed refl, eq-eqb s.round s.round refl) refl

-- a station that settles as g, from a state of the same round, relays where its round changed: what starts a round is not empty
settle-tells : (ready : Bool) (plan : Plan) (s g : Station) → g.round ≡ s.round → ready ≡ not (eqb s.signed g.signed)
    → Tells s (settle ready plan g)
unfolding start
settle-tells ready plan s g round signed =
    settle-either (Tells s) ready plan g
    (λ l. record {
      ready = signed;
      relay = ne_eqb g.gathered 0 (λ z. omega (arith, l, ap count z, count_none))
          ∙ sym (ne_eqb s.round (waits g) (λ z. omega arith));
    })
    (λ l. record { ready = signed; relay = sym (eq-eqb s.round g.round (sym round)) })

-- one that does nothing
still-tells : (s t : Station) → t.round ≡ s.round → t.signed ≡ s.signed → Tells s (still t)
unfolding still
still-tells s t round signed = record {
  ready = rw (eq-eqb s.signed t.signed (sym signed)) refl;
  relay = sym (eq-eqb s.round t.round (sym round));
}

-- one that hears
hear-tells : (plan : Plan) (round signers : ℕ) (s : Station) → Tells s (hear plan round signers s)
unfolding gather
hear-tells plan round signers s =
    hear-either (Tells s) plan round signers s
    (λ q. settle-tells false plan s (gather signers s) refl (rw (eq-eqb s.signed s.signed refl) refl)) (still-tells s s refl refl)

-- one that advances, where it has not signed the round it lands on
advance-tells : (plan : Plan) (i by : ℕ) (s : Station) → (lands plan by s ≡ true → s.signed ≡ waits s → ⊥)
    → Tells s (advance plan i by s)
unfolding sign move
advance-tells plan i by s new =
    advance-either (Tells s) plan i by s (λ e. settle-tells true plan s _ refl (rw (ne_eqb s.signed (waits s) (new e)) refl))
    (still-tells s (move by s) refl refl)

-- ---- each event keeps the count

module _ (r : Run) (d : ℕ) (increments : List ℕ) (v : Between nobody r) (a : Advances r d increments) where
  -- a station that lands on a mark has not signed its round
  lands-new : (i : ℕ) → i < r.plan.stations → lands r.plan (get_or increments i 0) (station_at r i) ≡ true
      → (station_at r i).signed ≡ waits (station_at r i) → ⊥
  unfolding lands_at
  lands-new i h e q =
      let s : Ruled r.plan (station_at r i) = v.stations i (record { line = h; unmarked = landed-sound r d increments v a i h e }) in
      omega (arith, s.before (lands-is r.plan (get_or increments i 0) (station_at r i) e).0)

  -- what the first k stations send in an advance
  length-advance : (k : ℕ) → k ≤ r.plan.stations
      → length (advance_sends r d increments k)
      ≡ sum_to k (λ i. sent_from r.plan i (station_at r i) (advance_at r increments i).station)
  unfolding advance_sends sum_to
  length-advance zero h = refl
  length-advance (suc k) h =
      let t = advance-tells r.plan k (get_or increments k 0) (station_at r k) (lands-new k (omega arith)) in
      rw length-append
      (omega (
        arith,
        length-advance k (omega arith),
        length-sends r.plan (r.time + d) k (waits (station_at r k)) (station_at r k) (advance_at r increments k) t,
      ))

-- an accepted advance adds what the stations sent
count-advance : (r : Run) (d : ℕ) (increments : List ℕ) → event_answer r (Advance d) increments ≡ 0
    → length (step r (Advance d) increments).flight ≡ length r.flight + sent_by r (step r (Advance d) increments)
unfolding sent_between
count-advance r d increments h =
    let a = accepted r (Advance d) increments h in
    let sent = length-advance r d increments a.0.rules (advances r increments d a.1) r.plan.stations (omega arith) in
    let same = sum_same r.plan.stations _ (sent_at r.plan r.stations (step r (Advance d) increments).stations) changed in
    rw (advance-flight r d increments h, length-append) (omega (arith, sent, same))
  where
    changed : (i : ℕ) → i < r.plan.stations
        → sent_from r.plan i (station_at r i) (advance_at r increments i).station ≡ sent_at r.plan r.stations (step r (Advance d) increments).stations i
    changed i b = rw (advance-station r d increments h i b) refl

-- only the recipient has heard, so only it has sent
count-heard : (r after : Run) (recipient round signers : ℕ) → recipient < r.plan.stations
    → station_at after recipient ≡ (heard r recipient round signers).station
    → ((i : ℕ) → (i ≡ recipient → ⊥) → station_at after i ≡ station_at r i)
    → length (heard_sends r recipient round signers) ≡ sent_by r after
unfolding sent_between
count-heard r after recipient round signers h here rest =
    length-sends r.plan r.time recipient _ (station_at r recipient) (heard r recipient round signers)
    (hear-tells r.plan round signers (station_at r recipient))
    ∙ ap (sent_from r.plan recipient (station_at r recipient)) (sym here)
    ∙ sym (sum_one r.plan.stations (sent_at r.plan r.stations after.stations) recipient h others-none)
  where
    others-none : (i : ℕ) → (i ≡ recipient → ⊥) → sent_at r.plan r.stations after.stations i ≡ 0
    others-none i ne = rw (rest i ne, told_none (station_at r i)) (omega arith)

-- an accepted deliver takes one message and adds what its recipient sent
count-deliver : (r : Run) (sender recipient round kind : ℕ) (increments : List ℕ)
    → event_answer r (Deliver sender recipient round kind) increments ≡ 0
    → length (step r (Deliver sender recipient round kind) increments).flight + 1
    ≡ length r.flight + sent_by r (step r (Deliver sender recipient round kind) increments)
count-deliver r sender recipient round kind increments h =
    omega (arith, flight, sent, length_without at r.flight, (delivered r sender recipient round kind increments h).found)
  where
    at : ℕ
    at = index_of (names_of sender recipient round kind) r.flight

    signers : ℕ
    signers = (message_named r sender recipient round kind).signers

    after : Run
    after = step r (Deliver sender recipient round kind) increments

    flight : length after.flight ≡ length (without at r.flight) + length (heard_sends r recipient round signers)
    flight = rw (deliver-is r sender recipient round kind increments h, length-append) refl

    sent : length (heard_sends r recipient round signers) ≡ sent_by r after
    sent =
        count-heard r after recipient round signers (delivered r sender recipient round kind increments h).ends.to.line
        (deliver-station r sender recipient round kind increments h) (deliver-other r sender recipient round kind increments h)

-- an accepted faulty send adds what its recipient sent
count-send : (r : Run) (sender recipient round signers : ℕ) (increments : List ℕ)
    → event_answer r (Send sender recipient round signers) increments ≡ 0
    → length (step r (Send sender recipient round signers) increments).flight
    ≡ length r.flight + sent_by r (step r (Send sender recipient round signers) increments)
count-send r sender recipient round signers increments h = omega (arith, flight, sent)
  where
    after : Run
    after = step r (Send sender recipient round signers) increments

    flight : length after.flight ≡ length r.flight + length (heard_sends r recipient round signers)
    flight = rw (send-is r sender recipient round signers increments h, length-append) refl

    sent : length (heard_sends r recipient round signers) ≡ sent_by r after
    sent =
        count-heard r after recipient round signers (faulty-sent r sender recipient round signers increments h).ends.to.line
        (send-station r sender recipient round signers increments h) (send-other r sender recipient round signers increments h)

-- so each accepted event keeps the count
count-accepted : (r : Run) (e : Event) (increments : List ℕ) → event_answer r e increments ≡ 0
    → length (step r e increments).flight + taken e ≡ length r.flight + sent_by r (step r e increments)
unfolding taken
count-accepted r (Advance d) increments h = omega (arith, count-advance r d increments h)
count-accepted r (Deliver sender recipient round kind) increments h = count-deliver r sender recipient round kind increments h
count-accepted r (Send sender recipient round signers) increments h =
    omega (arith, count-send r sender recipient round signers increments h)

-- a run that is left untouched sends nothing
sent-none : (r : Run) → sent_by r r ≡ 0
unfolding sent_between
sent-none r = sum-none r.plan.stations (sent_at r.plan r.stations r.stations) (λ i h. rw (told_none (station_at r i)) (omega arith))

-- what is in flight after an event and what it delivered are what was in flight before it and what it sent
count-step : (r : Run) (e : Event) (increments : List ℕ)
    → length (step r e increments).flight + pick (eqb (event_answer r e increments) 0) (taken e) 0
    ≡ length r.flight + sent_by r (step r e increments)
count-step r e increments = go (eqb (event_answer r e increments) 0) refl
  where
    go : (b : Bool) → eqb (event_answer r e increments) 0 ≡ b
        → length (step r e increments).flight + pick b (taken e) 0 ≡ length r.flight + sent_by r (step r e increments)
    go true h = count-accepted r e increments (eqb-true _ _ h)
    go false h = rw (step-refused r e increments (eqb-false _ _ h)) (omega (arith, sent-none r))

-- ---- every history keeps the count

-- from any run
pub count-played : (r : Run) (es : List Entry)
    → length (played r es).flight + delivered_in (seen r es) ≡ length r.flight + sent_in (seen r es)
unfolding played delivered_in sent_in seen
count-played r [] = refl
count-played r (e ∷ es) =
    omega (arith, count-step r e.event e.increments, count-played (step r e.event e.increments) es)

-- and from a fresh one: the number in flight equals messages sent to sound stations less messages delivered
pub history-count : (plan : Plan) (first : List ℕ) (es : List Entry)
    → length (played (fresh plan first) es).flight + delivered_in (seen (fresh plan first) es) ≡ sent_in (seen (fresh plan first) es)
unfolding fresh
history-count plan first es = omega (arith, count-played (fresh plan first) es)
