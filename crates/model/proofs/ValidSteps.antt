-- Each event leaves a valid record valid. A station's small step keeps its own rules and says what it sends; what it sends has
-- names that no message in flight has, and the others' rules are not touched. Hearing is one such step, and an advance is a
-- move after which the stations that landed are yet to sign, and one such step for each of them in order.
use Prim.Native.Nat.{ℕ, zero, suc, ◌+◌, ◌*◌, ◌^◌, ◌<◌, ◌≤◌}
use Rattle.std.specs.Prelude.{Bool, ◌&&◌, not, ltb, leb, length}
use Rattle.std.proofs.Math.Bool.{true, false}
use mathlib.Core.List.{List, [], ◌++◌}
use Rattle.std.proofs.Math.Path.{◌≡◌, refl, sym}
use Rattle.std.proofs.Common.{ap, ◌∙◌, get_or-set_same, get_or-set_other}
use Rattle.std.proofs.Math.Decide.{dec_lt, dec_le}
use Rattle.std.proofs.Math.Nat.{mul-le-mul}
use native.Mathlib.Omega.{arith}
use Rattle.std.proofs.Math.Dec.{eqb}
use Rattle.std.proofs.Math.ListN.{get_or, set, length-set}
use Rattle.std.proofs.Math.Pow.{pow_pos}
use borrow.Author.Tests.{eqb-true, eqb-false, not-true, lt-ltb, le-leb, lt-leb}
use Rattle.clock.specs.Limits.{max_stations, max_round, max_reading, max_period}
use Rattle.clock.specs.Pick.{pick}
use Rattle.clock.specs.Tests.{both}
use Rattle.mask.specs.Mask.{has, join, only}
use Rattle.mask.proofs.Laws.{count_none, join-lt, only-some, only-lt}
use Rattle.setup.specs.declared.Plan.{Plan}
use Rattle.setup.specs.Laws.{Planned}
use Rattle.station.specs.declared.Station.{Station}
use Rattle.station.specs.declared.Outcome.{Outcome}
use Rattle.station.specs.Station.{waits, mark_for, still, start, settle, gather, hear, sign, move, lands}
use Rattle.flight.specs.declared.Message.{Message}
use Rattle.flight.specs.Message.{names_of, same_names, no_message, toward, sent_to, twins}
use Rattle.flight.specs.Members.{All, no_member, all_append, all_map, all-at, all-sent_to, all_without, Agree, differs}
use Rattle.flight.specs.Apart.{twins-append, twins-sent_to, twins-without}
use Rattle.event.specs.declared.Event.{Event}
use Rattle.event.specs.declared.Event.TheVariants.{Advance, Deliver, Send}
use Rattle.model.specs.Run.{Run, sound, no_station, station_at, others, ready_of, relay_of, sends, become, sign_at, hear_at, moved_all, moves, lands_at, sign_to}
use Rattle.model.specs.Record.{bad_record}
use Rattle.model.specs.Event.{take_out, deliver_at, effect, step_answer, event_answer, step}
use Rattle.model.specs.Valid.{Sound, Ruled, Due, OnItsWay, Between, nobody, Valid}
use Rattle.model.proofs.Valid.{sound-is, is-valid}
use Rattle.model.specs.Allowed.{Advances}
use Rattle.model.proofs.Allowed.{second-fails, accepted, advances, delivers, faulty-sends}
use Rattle.model.proofs.Moves.{settle-either, hear-either, lands-is, others-are, all-sends, moved_at, moved_length, signed-to}

-- ---- a station's step

-- what a station's step keeps and says: it keeps the rules, its round and last signed round do not fall; where it sends its
-- ready it had not signed that round and now has, and where it relays it is in that round
pub record Does (plan : Plan) (s : Station) (o : Outcome) : Type 0 where
  pub rules : Ruled plan o.station
  pub signed : s.signed ≤ o.station.signed
  pub round : s.round ≤ o.station.round
  pub ready : o.ready ≡ true → (s.signed < waits s) × (waits s ≤ o.station.signed)
  pub relay : (o.relay ≡ 0 → ⊥) → (waits s ≤ o.station.round) × (o.relay < 2 ^ plan.stations)

module _ (plan : Plan) (p : Planned plan) where
  -- a start keeps the rules: A is less than P, so the reading is below the next mark
  pub start-ruled : (t : Station) → waits t ≤ max_round → t.signed ≤ waits t → Ruled plan (start plan t)
  unfolding start
  start-ruled t r s =
      let m : mark_for plan t ≤ max_round * max_period = mul-le-mul {n₂ = max_round} {m₂ = max_period} r p.limits.period.1 in
      record {
        round = r;
        reading = omega (arith, p.limits.step.1);
        signed = omega arith;
        past = λ l. absurd (omega (arith, p.gap.0));
        before = λ l. omega arith;
        gathered = pow_pos plan.stations;
        few = omega (arith, count_none);
      }

  -- a station that has gathered and now starts or waits on
  module _ (s t : Station) (ready : Bool) (same : t.round ≡ s.round) (grows : s.signed ≤ t.signed)
      (r : waits t ≤ max_round) (reading : t.reading.0 ≤ max_reading)
      (past : mark_for plan t ≤ t.reading.0 → t.signed ≡ waits t) (before : t.reading.0 < mark_for plan t → t.signed < waits t)
      (gathered : t.gathered < 2 ^ plan.stations)
      (own : ready ≡ true → (s.signed < waits s) × (waits s ≤ t.signed)) where
    -- it has signed no round after the one it waits for
    most : t.signed ≤ waits t
    most = elim (dec_le (mark_for plan t) t.reading.0) [
      | yes h ↦ omega (arith, past h)
      | no h ↦ omega (arith, before (omega arith))
    ]

    -- either keeps the rules
    pub settle-does : Does plan s (settle ready plan t)
    unfolding start
    settle-does =
        settle-either (Does plan s) ready plan t
        (λ e. record {
          rules = start-ruled t r most;
          signed = grows;
          round = omega arith;
          ready = own;
          relay = λ h. (omega arith, gathered);
        })
        (λ e. record {
          rules = record {
            round = omega arith;
            reading = reading;
            signed = omega (arith, most);
            past = past;
            before = before;
            gathered = gathered;
            few = e;
          };
          signed = grows;
          round = omega arith;
          ready = own;
          relay = λ h. absurd (h refl);
        })

  -- hearing
  pub hear-does : (s : Station) (round signers : ℕ) → Ruled plan s → round ≤ max_round → signers < 2 ^ plan.stations
      → Does plan s (hear plan round signers s)
  unfolding gather still
  hear-does s round signers h l g =
      hear-either (Does plan s) plan round signers s
      (λ q.
      settle-does s (gather signers s) false refl (omega arith) (omega arith) h.reading h.past h.before
      (join-lt plan.stations s.gathered signers h.gathered g) (λ f. let z : ◌≡◌ {A = ℕ} 0 1 = cc in absurd (omega arith)))
      (record {
        rules = h;
        signed = omega arith;
        round = omega arith;
        ready = λ f. let z : ◌≡◌ {A = ℕ} 0 1 = cc in absurd (omega arith);
        relay = λ f. absurd (f refl);
      })

  -- signing at the mark
  pub sign-does : (s : Station) (i : ℕ) → Due plan s → i < plan.stations → Does plan s (sign plan i s)
  unfolding sign
  sign-does s i h l =
      settle-does s (record { round = s.round; reading = s.reading; signed = waits s; gathered = join s.gathered (only i) }) true
      refl (omega (arith, h.unsigned)) h.round h.reading (λ q. refl) (λ q. absurd (omega (arith, h.at)))
      (join-lt plan.stations s.gathered (only i) h.gathered (only-lt i plan.stations l)) (λ q. (h.unsigned, omega arith))

-- ---- what it sends

-- each of the others is a sound station, and another
pub others-sound : (plan : Plan) → Planned plan → (i j : ℕ) → i < plan.stations → has (others plan i) j ≡ true
    → Sound plan j × (i ≡ j → ⊥)
others-sound plan p i j l e =
    let b = both (sound plan j) (not (eqb i j)) (sym (others-are plan i j p l) ∙ e) in
    (sound-is plan j b.0, eqb-false i j (not-true _ b.1))

-- a message that station i, as it was before its step, sends of the round it waited for: where it is a ready, it had not
-- signed that round
pub record New (plan : Plan) (time : ℕ) (stations : List Station) (i : ℕ) (s : Station) (m : Message) : Type 0 where
  pub way : OnItsWay plan time stations m
  pub sender : m.sender ≡ i
  pub round : m.round ≡ waits s
  pub unsigned : m.kind ≡ 0 → s.signed < waits s

module _ (plan : Plan) (p : Planned plan) (time : ℕ) (stations : List Station) (long : length stations ≡ plan.stations)
    (i : ℕ) (h : Sound plan i) (o : Outcome) (d : Does plan (get_or stations i no_station) o) where
  -- every message that it sends keeps the rules of the stations after its step
  pub sends-new : All (New plan time (set stations i o.station) i (get_or stations i no_station))
      (sends plan time i (waits (get_or stations i no_station)) o)
  sends-new =
      all-sends plan time i (waits s) o
      (λ e j u.
      let g = d.ready e in
      let t = others-sound plan p i j h.line u in
      record {
        way = record {
          round = (omega arith, omega (arith, g.1, d.rules.signed));
          kind = omega arith;
          signed = only-some i (omega (arith, h.line, p.stations.1));
          signers = only-lt i plan.stations h.line;
          sender = h;
          recipient = t.0;
          apart = t.1;
          sent = omega arith;
          ready = λ q. rw stands g.1;
          relay = λ q. absurd (q refl);
        };
        sender = refl;
        round = refl;
        unsigned = λ q. g.0;
      })
      (λ z j u.
      let g = d.relay z in
      let t = others-sound plan p i j h.line u in
      record {
        way = record {
          round = (omega arith, omega (arith, g.0, d.rules.round));
          kind = omega arith;
          signed = z;
          signers = g.1;
          sender = h;
          recipient = t.0;
          apart = t.1;
          sent = omega arith;
          ready = λ q. absurd (omega arith);
          relay = λ q. rw stands g.0;
        };
        sender = refl;
        round = refl;
        unsigned = λ q. absurd (omega arith);
      })
    where
      s : Station
      s = get_or stations i no_station

      stands : get_or (set stations i o.station) i no_station ≡ o.station
      stands = get_or-set_same stations i o.station no_station (omega (arith, h.line))

-- no two of them agree in all four names
pub sends-single : (plan : Plan) (time i k : ℕ) (o : Outcome) → twins (sends plan time i k o) ≡ false
unfolding sends twins
sends-single plan time i k o = go o.ready (eqb o.relay 0)
  where
    readies : List Message
    readies = sent_to (ready_of time i k) max_stations (others plan i)

    relays : List Message
    relays = sent_to (relay_of time i k o.relay) max_stations (others plan i)

    apart : All (λ a. All (λ b. same_names a b ≡ false) relays) readies
    apart =
        all-sent_to (ready_of time i k) max_stations (others plan i)
        (λ j l u.
        all-sent_to (relay_of time i k o.relay) max_stations (others plan i)
        (λ x y z. differs (names_of (toward (ready_of time i k) j)) (toward (relay_of time i k o.relay) x) (λ g. omega (arith, g.kind))))

    go : (a b : Bool) → twins (pick a readies [] ++ pick b [] relays) ≡ false
    go true true = twins-append [] (twins-sent_to (ready_of time i k) max_stations (others plan i)) refl (all_map (λ m x. no_member) apart)
    go true false =
        twins-append relays (twins-sent_to (ready_of time i k) max_stations (others plan i))
        (twins-sent_to (relay_of time i k o.relay) max_stations (others plan i)) apart
    go false true = refl
    go false false = twins-sent_to (relay_of time i k o.relay) max_stations (others plan i)

-- ---- one station's step in the run

-- a message on its way stays within the rules while time goes on and no sound station's round or last signed round falls
pub way_on : (plan : Plan) (time later : ℕ) (before after : List Station) → time ≤ later
    → ((i : ℕ) → Sound plan i → ((get_or before i no_station).signed ≤ (get_or after i no_station).signed)
    × ((get_or before i no_station).round ≤ (get_or after i no_station).round))
    → (m : Message) → OnItsWay plan time before m → OnItsWay plan later after m
way_on plan time later before after l grows m w =
    let g = grows m.sender w.sender in
    record {
      round = w.round;
      kind = w.kind;
      signed = w.signed;
      signers = w.signers;
      sender = w.sender;
      recipient = w.recipient;
      apart = w.apart;
      sent = omega (arith, w.sent);
      ready = λ q. omega (arith, w.ready q, g.0);
      relay = λ q. omega (arith, w.relay q, g.1);
    }

-- a message that station i sends now has names that no message in flight has
new-names : (plan : Plan) (time : ℕ) (stations after : List Station) (i : ℕ) (m b : Message) → OnItsWay plan time stations m
    → New plan time after i (get_or stations i no_station) b → same_names m b ≡ false
new-names plan time stations after i m b w n = differs (names_of m) b (λ g. clash g (eqb b.kind 0) refl)
  where
    clash : Agree (names_of m) b → (t : Bool) → eqb b.kind 0 ≡ t → ⊥
    clash g true e =
        let q : m.sender ≡ i = sym g.sender ∙ n.sender in
        let z = eqb-true b.kind 0 e in
        let f : m.round ≤ (get_or stations m.sender no_station).signed = w.ready (sym g.kind ∙ z) in
        omega (arith, rw q at f, n.unsigned z, n.round, g.round)
    clash g false e =
        let q : m.sender ≡ i = sym g.sender ∙ n.sender in
        let f : m.round ≤ (get_or stations m.sender no_station).round = w.relay (λ z. eqb-false b.kind 0 e (g.kind ∙ z)) in
        omega (arith, rw q at f, n.round, g.round)

module _ (due left : ℕ → Bool) (r : Run) (v : Between due r) (i : ℕ) (h : Sound r.plan i) (o : Outcome)
    (d : Does r.plan (station_at r i) o) (done : left i ≡ false) (rest : (j : ℕ) → (j ≡ i → ⊥) → left j ≡ due j) where
  -- a sound station's step keeps the rules; it is not among those left that are yet to sign, and the others stay as they were
  pub become-between : Between left (become i (waits (station_at r i)) o r)
  unfolding become
  become-between = record {
    answer = v.answer;
    plan = v.plan;
    long = length-set r.stations i o.station ∙ v.long;
    time = v.time;
    stations = λ j l. each j l (eqb j i) refl;
    faulty = λ j l u. kept j u (eqb j i) refl ∙ v.faulty j l u;
    flight = all_append
        (all_map (way_on r.plan r.time r.time r.stations after (omega arith) (λ j l. grows j (eqb j i) refl)) v.flight)
        (all_map (λ m n. n.way) news);
    single = twins-append sent v.single (sends-single r.plan r.time i (waits (station_at r i)) o)
        (all_map (λ m w. all_map (λ b n. new-names r.plan r.time r.stations after i m b w n) news) v.flight);
  }
    where
      after : List Station
      after = set r.stations i o.station

      sent : List Message
      sent = sends r.plan r.time i (waits (station_at r i)) o

      news : All (New r.plan r.time after i (station_at r i)) sent
      news = sends-new r.plan v.plan r.time r.stations v.long i h o d

      same : get_or after i no_station ≡ o.station
      same = get_or-set_same r.stations i o.station no_station (omega (arith, v.long, h.line))

      other : (j : ℕ) → eqb j i ≡ false → get_or after j no_station ≡ station_at r j
      other j e = get_or-set_other r.stations i j o.station no_station (eqb-false j i e)

      each : (j : ℕ) → Sound r.plan j → (b : Bool) → eqb j i ≡ b
          → pick (left j) (Due r.plan (get_or after j no_station)) (Ruled r.plan (get_or after j no_station))
      each j l true e = let q = eqb-true j i e in rw (q, done, same) d.rules
      each j l false e = let k = rest j (eqb-false j i e) in let t = other j e in rw (k, t) (v.stations j l)

      kept : (j : ℕ) → has r.plan.faulty j ≡ true → (b : Bool) → eqb j i ≡ b → get_or after j no_station ≡ station_at r j
      kept j u true e =
          let q = eqb-true j i e in
          let f = h.unmarked in
          let t = rw q at u in
          let z : ◌≡◌ {A = ℕ} 0 1 = cc in
          absurd (omega arith)
      kept j u false e = other j e

      grows : (j : ℕ) → (b : Bool) → eqb j i ≡ b
          → ((station_at r j).signed ≤ (get_or after j no_station).signed) × ((station_at r j).round ≤ (get_or after j no_station).round)
      grows j true e = let q = eqb-true j i e in rw (q, same) (d.signed, d.round)
      grows j false e = let t = other j e in rw t (omega arith, omega arith)

-- ---- hearing

-- a sound station's hearing keeps the rules
pub hear-between : (r : Run) → Between nobody r → (i round signers : ℕ) → Sound r.plan i → round ≤ max_round
    → signers < 2 ^ r.plan.stations → Between nobody (hear_at i round signers r)
unfolding hear_at
hear-between r v i round signers h l g =
    become-between nobody nobody r v i h (hear r.plan round signers (station_at r i))
    (hear-does r.plan v.plan (station_at r i) round signers (v.stations i h) l g) refl (λ j n. refl)

-- so does a message's leaving the flight
pub out-between : (r : Run) → Between nobody r → (i : ℕ) → i < length r.flight → Between nobody (take_out i r)
unfolding take_out
out-between r v i h = record {
  answer = v.answer;
  plan = v.plan;
  long = v.long;
  time = v.time;
  stations = v.stations;
  faulty = v.faulty;
  flight = all_without v.flight i h;
  single = twins-without i r.flight h v.single;
}

-- and a delivery
pub deliver-between : (r : Run) → Between nobody r → (i recipient round : ℕ) → i < length r.flight → Sound r.plan recipient
    → round ≤ max_round → Between nobody (deliver_at i recipient round r)
unfolding take_out
deliver-between r v i recipient round h s l =
    hear-between (take_out i r) (out-between r v i h) recipient round (get_or r.flight i no_message).signers s l
    (all-at v.flight i no_message h).signers

-- ---- advancing

-- a station that comes up to its mark is due to sign, and any other keeps the rules
pub move-rules : (plan : Plan) (by : ℕ) (s : Station) → Ruled plan s → s.reading.0 + by ≤ max_reading
    → (s.round ≡ max_round → s.reading.0 + by < mark_for plan s)
    → (s.reading.0 < mark_for plan s → s.reading.0 + by ≤ mark_for plan s)
    → pick (lands plan by s) (Due plan (move by s)) (Ruled plan (move by s))
unfolding lands move
move-rules plan by s h most last mark = go (lands plan by s) refl
  where
    go : (b : Bool) → lands plan by s ≡ b → pick b (Due plan (move by s)) (Ruled plan (move by s))
    go true e =
        let t = lands-is plan by s e in
        let at = t.1 in
        record {
          round = elim (dec_lt s.round max_round) [
            | yes l ↦ omega arith
            | no l ↦ absurd (omega (arith, last (omega (arith, h.round))))
          ];
          reading = most;
          at = at;
          unsigned = h.before t.0;
          gathered = h.gathered;
        }
    go false e = elim (dec_lt s.reading.0 (mark_for plan s)) [
      | yes l ↦
          let ne = eqb-false (s.reading.0 + by) (mark_for plan s)
          (second-fails (ltb s.reading.0 (mark_for plan s)) (eqb (s.reading.0 + by) (mark_for plan s)) e (lt-ltb _ _ l)) in
          record {
            round = h.round;
            reading = most;
            signed = h.signed;
            past = λ q. absurd (ne (omega (arith, mark l)));
            before = λ q. h.before l;
            gathered = h.gathered;
            few = h.few;
          }
      | no l ↦ record {
        round = h.round;
        reading = most;
        signed = h.signed;
        past = λ q. h.past (omega arith);
        before = λ q. absurd (omega arith);
        gathered = h.gathered;
        few = h.few;
      }
    ]

module _ (r : Run) (d : ℕ) (increments : List ℕ) (v : Between nobody r) (a : Advances r d increments) where
  -- after the move those that landed are yet to sign
  pub moves-between : Between (lands_at r increments) (moves d increments r)
  unfolding moves lands_at move
  moves-between = record {
    answer = v.answer;
    plan = v.plan;
    long = moved_length r.stations increments ∙ v.long;
    time = a.time;
    stations = λ i h.
        let e = at i h.line in
        rw e (move-rules r.plan (get_or increments i 0) (station_at r i) (v.stations i h) (a.reading i h.line) (a.last i h.line)
        (a.mark i h.line));
    faulty = λ i h u.
        let s = v.faulty i h u in
        let x = a.faulty i h u in
        at i h ∙ rw (s, x) refl;
    flight = all_map
        (way_on r.plan r.time (r.time + d) r.stations (moved_all r.stations increments) (omega arith)
        (λ i h. let e = at i h.line in rw e (omega arith, omega arith)))
        v.flight;
    single = v.single;
  }
    where
      at : (i : ℕ) → i < r.plan.stations → get_or (moved_all r.stations increments) i no_station ≡ move (get_or increments i 0) (station_at r i)
      at i h = moved_at r.stations increments i (omega (arith, v.long)) (omega (arith, a.long))

-- the rules with other names for those that are yet to sign
pub between-same : (due left : ℕ → Bool) (r : Run) → Between due r → ((i : ℕ) → i < r.plan.stations → left i ≡ due i) → Between left r
between-same due left r v same = record {
  answer = v.answer;
  plan = v.plan;
  long = v.long;
  time = v.time;
  stations = λ i h. let e = same i h.line in rw e (v.stations i h);
  faulty = v.faulty;
  flight = v.flight;
  single = v.single;
}

-- those from k on that landed
unfoldable pub landed_from : Run → List ℕ → ℕ → ℕ → Bool
landed_from r increments k i = leb k i && lands_at r increments i

-- k's turn leaves the others among them as they were
landed-other : (r : Run) (increments : List ℕ) (k i : ℕ) → (i ≡ k → ⊥) → landed_from r increments (suc k) i ≡ landed_from r increments k i
unfolding landed_from
landed-other r increments k i h = elim (dec_lt k i) [
  | yes l ↦
      let a = le-leb (suc k) i (omega arith) in
      let b = le-leb k i (omega arith) in
      rw (a, b) refl
  | no l ↦
      let u : i < k = elim (dec_lt i k) [ yes m ↦ m | no m ↦ absurd (h (omega arith)) ] in
      let a = lt-leb (suc k) i (omega arith) in
      let b = lt-leb k i u in
      rw (a, b) refl
]

-- stations before k are not among them
landed-before : (r : Run) (increments : List ℕ) (k i : ℕ) → i < k → landed_from r increments k i ≡ false
unfolding landed_from
landed-before r increments k i h = let e = lt-leb k i h in rw e refl

-- from k on, whoever landed is
landed-here : (r : Run) (increments : List ℕ) (k i : ℕ) → k ≤ i → landed_from r increments k i ≡ lands_at r increments i
unfolding landed_from
landed-here r increments k i h = let e = le-leb k i h in rw e refl

module _ (r : Run) (d : ℕ) (increments : List ℕ) (v : Between nobody r) (a : Advances r d increments) where
  -- no faulty station lands: its reading and its increment are zero, and its mark is not
  pub landed-sound : (k : ℕ) → k < r.plan.stations → lands_at r increments k ≡ true → has r.plan.faulty k ≡ false
  unfolding lands_at
  landed-sound k h e = go (has r.plan.faulty k) refl
    where
      go : (b : Bool) → has r.plan.faulty k ≡ b → b ≡ false
      go true u =
          let s = v.faulty k h u in
          let x = a.faulty k h u in
          let m = (lands-is r.plan (get_or increments k 0) (station_at r k) e).1 in
          let z : 0 + 0 ≡ (0 + 1) * r.plan.period = rw (s, x) at m in
          absurd (omega (arith, v.plan.limits.period.0))
      go false u = refl

  -- the turns of the first k leave the plan
  turns-plan : (k : ℕ) → k ≤ r.plan.stations → (sign_to k r increments (moves d increments r)).plan ≡ r.plan
  turns-plan k h = (signed-to r d increments (omega (arith, a.long, v.long)) k (omega (arith, v.long))).plan

  -- after them, those from k on that landed are yet to sign
  pub signs-between : (k : ℕ) → k ≤ r.plan.stations
      → Between (landed_from r increments k) (sign_to k r increments (moves d increments r))
  unfolding sign_to sign_at
  signs-between zero h =
      between-same (lands_at r increments) (landed_from r increments 0) (moves d increments r) (moves-between r d increments v a)
      (λ i l. landed-here r increments 0 i (omega arith))
  signs-between (suc k) h =
      go (sign_to k r increments (moves d increments r)) (turns-plan k (omega arith)) (signs-between k (omega arith))
      (lands_at r increments k) refl
    where
      go : (now : Run) → now.plan ≡ r.plan → Between (landed_from r increments k) now → (b : Bool) → lands_at r increments k ≡ b
          → Between (landed_from r increments (suc k)) (pick b (sign_at k now) now)
      go now p w true e =
          let s : Sound now.plan k = rw p (record { line = omega arith; unmarked = landed-sound k (omega arith) e }) in
          let l : landed_from r increments k k ≡ true = landed-here r increments k k (omega arith) ∙ e in
          let t : pick (landed_from r increments k k) (Due now.plan (station_at now k)) (Ruled now.plan (station_at now k)) =
          w.stations k s in
          become-between (landed_from r increments k) (landed_from r increments (suc k)) now w k s
          (sign now.plan k (station_at now k)) (sign-does now.plan w.plan (station_at now k) k (rw l at t) s.line)
          (landed-before r increments (suc k) k (omega arith)) (λ i n. landed-other r increments k i n)
      go now p w false e =
          between-same (landed_from r increments k) (landed_from r increments (suc k)) now w (λ i l. each i (eqb i k) refl)
        where
          each : (i : ℕ) (b : Bool) → eqb i k ≡ b → landed_from r increments (suc k) i ≡ landed_from r increments k i
          each i true q =
              let s = eqb-true i k q in
              rw s (landed-before r increments (suc k) k (omega arith) ∙ sym (landed-here r increments k k (omega arith) ∙ e))
          each i false q = landed-other r increments k i (eqb-false i k q)

  -- after all turns none is
  pub advance-between : Between nobody (sign_to r.plan.stations r increments (moves d increments r))
  advance-between =
      let p = turns-plan r.plan.stations (omega arith) in
      between-same (landed_from r increments r.plan.stations) nobody (sign_to r.plan.stations r increments (moves d increments r))
      (signs-between r.plan.stations (omega arith))
      (λ i h. sym (landed-before r increments r.plan.stations i (omega (arith, h, ap (λ (x : Plan). x.stations) p))))

-- ---- events

-- what an accepted event makes of a valid record is valid
pub effect-valid : (r : Run) (e : Event) (increments : List ℕ) → Valid r → step_answer r e increments ≡ 0 → Valid (effect r e increments)
unfolding effect
effect-valid r (Advance d) increments v z =
    let a = advances r increments d z in
    record { rules = advance-between r d increments v.rules a; few = a.room }
effect-valid r (Deliver sender recipient round kind) increments v z =
    let a = delivers r increments sender recipient round kind z in
    record {
      rules = deliver-between r v.rules _ recipient round a.found a.ends.to a.ends.rounds.1;
      few = a.room;
    }
effect-valid r (Send sender recipient round signers) increments v z =
    let a = faulty-sends r increments sender recipient round signers z in
    record {
      rules = hear-between r v.rules recipient round signers a.ends.to a.ends.rounds.1 a.below;
      few = a.room;
    }

-- every event leaves a valid record valid
pub step-valid : (r : Run) (e : Event) (increments : List ℕ) → bad_record r ≡ false → bad_record (step r e increments) ≡ false
unfolding step
step-valid r e increments v = go (eqb (event_answer r e increments) 0) refl
  where
    go : (b : Bool) → eqb (event_answer r e increments) 0 ≡ b → bad_record (pick b (effect r e increments) r) ≡ false
    go true z =
        let a = accepted r e increments (eqb-true _ _ z) in
        is-valid (effect r e increments) (effect-valid r e increments a.0 a.1)
    go false z = v

-- an accepted event keeps the plan
pub effect-plan : (r : Run) (e : Event) (increments : List ℕ) → Valid r → step_answer r e increments ≡ 0 → (effect r e increments).plan ≡ r.plan
unfolding effect hear_at become take_out
effect-plan r (Advance d) increments v z =
    let a = advances r increments d z in
    (signed-to r d increments (omega (arith, a.long, v.rules.long)) r.plan.stations (omega (arith, v.rules.long))).plan
effect-plan r (Deliver sender recipient round kind) increments v z = refl
effect-plan r (Send sender recipient round signers) increments v z = refl

-- and so does every event
pub step-plan : (r : Run) (e : Event) (increments : List ℕ) → (step r e increments).plan ≡ r.plan
unfolding step
step-plan r e increments = go (eqb (event_answer r e increments) 0) refl
  where
    go : (b : Bool) → eqb (event_answer r e increments) 0 ≡ b → (pick b (effect r e increments) r).plan ≡ r.plan
    go true z = let a = accepted r e increments (eqb-true _ _ z) in effect-plan r e increments a.0 a.1
    go false z = refl
