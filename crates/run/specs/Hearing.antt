-- Deliver and faulty send as the code plays them: a station takes its new place and what it sends follows the messages that
-- stand. That is the event's effect, and each table of refusals is met test by test.
use Prim.Native.Nat.{ℕ, zero, suc, ◌+◌, ◌*◌, ◌-◌, ◌^◌, ◌<◌, ◌≤◌}
use Rattle.std.specs.Prelude.{Result, Ok, Err, Bool, true, false, ◌&&◌, ◌≡◌, ltb, eqb, set}
use Rattle.std.proofs.Math.Bool.{not}
use mathlib.Core.List.{List, [], ◌++◌}
use Rattle.std.proofs.Math.Path.{refl, sym}
use Rattle.std.proofs.Common.{ap, ◌∙◌, add-one, length-set, get_or-set_same}
use Rattle.std.proofs.Math.Decide.{dec_lt}
use native.Mathlib.Omega.{arith}
use Rattle.std.proofs.Math.ListN.{length, get_or, length-append}
use Rattle.std.proofs.Math.Seq.{get_or-set_other}
use Rattle.std.proofs.lemmas.List.{set-get_or}
use borrow.Author.Tests.{lt-ltb, le-ltb, le-leb, eq-eqb, ne_eqb}
use Rattle.clock.specs.Limits.{max_flight}
use Rattle.refusal.specs.declared.Refusal.{Refusal}
use Rattle.refusal.specs.Refusal.{number}
use Rattle.clock.specs.Pick.{pick, refuse}
use Rattle.clock.specs.declared.Moment.{Moment}
use Rattle.mask.specs.Mask.{has}
use Rattle.setup.specs.declared.Plan.{Plan}
use Rattle.station.specs.declared.Station.{Station}
use Rattle.station.specs.declared.Outcome.{Outcome}
use Rattle.station.specs.Station.{waits, still, hear}
use Rattle.station.specs.Limits.{small, is-small}
use Rattle.flight.specs.declared.Message.{Message}
use Rattle.flight.specs.declared.Names.{Names}
use Rattle.flight.specs.Message.{Answer, decode, message_at, coded, holds, no_message, index_of, near_or, without, after, answer, can_take}
use Rattle.flight.proofs.Places.{near-is}
use Rattle.flight.specs.Members.{length_without, index_of-most}
use Rattle.flight.proofs.Coding.{length-decode, length-coded, decode-at, laid-start, laid-without, laid-decode, laid-over}
use Rattle.flight.proofs.Keys.{take-allowed}
use Rattle.event.specs.declared.Event.{Event}
use Rattle.event.specs.declared.Event.TheVariants.{Advance, Deliver, Send}
use Rattle.event.specs.Event.{bad_deliver, bad_send, barred, hearer}
use Rattle.line.specs.declared.Line.{Line}
use Rattle.line.specs.Run.{Run, sound, no_station, station_at, sends, become, hear_at}
use Rattle.line.specs.Record.{some_station}
use Rattle.line.specs.Event.{take_out, effect, unsigned_at, unsigned, full, event_rules}
use Rattle.line.proofs.Order.{sixteen, deliver-last, seventeen, eighteen, send-last}
use Rattle.line.specs.Held.{first_of, run_of}
use Rattle.line.specs.HeldLaws.{first-length, place-some}
use Rattle.line.specs.Moves.{heard, heard_run}
use Rattle.run.specs.declared.Heard as code
use Rattle.run.specs.Play.{Played, placed_to, holding, comes-yes, ruled, ruled_words, stepped, stepped_words, deliver_of, step-comes, deliver-any, send-any}
use Rattle.run.specs.Limits.{Held, Settled, held-count, held-settled, station-small, table-station, deliver-recipient, send-recipient}
use Rattle.run.specs.Sends.{sent_by, length-sends}

-- what an event comes to at the station that hears it: 0, or the number that refuses it, the station then, and how many messages
-- there are
pub record Heard : Type 0 where
  pub answer : ℕ
  pub station : Station
  pub count : ℕ

-- refused, station and messages are as they were
abbrev pub as_heard : Station → ℕ → Result code.Heard Refusal → Heard
as_heard s count (Ok h) = record { answer = 0; station = h.station; count = h.count }
as_heard s count (Err r) = record { answer = number r; station = s; count = count }

-- ---- one station in its new place

-- the record after station i has done this, `count` messages standing before
abbrev pub became : Line → ℕ → ℕ → Outcome → Line
became l count i o = record {
  plan = l.plan;
  time = l.time;
  length = l.length;
  stations = set l.stations i o.station;
  count = count + sent_by l.plan i o;
}

-- what it sends
abbrev pub sends_at : Line → ℕ → Outcome → List Message
sends_at l i o = sends l.plan l.time.0 i (waits (station_at (run_of l []) i)) o

-- the answer then
abbrev pub placed : Line → ℕ → ℕ → Outcome → Played
placed l count i o = record { answer = 0; line = became l count i o }

-- the record with station i in its new place, and so many messages
abbrev pub seated : Line → ℕ → Station → ℕ → Line
seated l i s count = record { plan = l.plan; time = l.time; length = l.length; stations = set l.stations i s; count = count }

-- what an event comes to, the station that hears it in its new place
abbrev pub seats : Line → ℕ → Heard → Played
seats l i h = record { answer = h.answer; line = seated l i h.station h.count }

-- as the code comes to it: the station's round is read off the record
pub take-placed : (l : Line) (words : List ℕ) (n i : ℕ) (o : Outcome) (s : Station) (after : ℕ) (w : List ℕ) → s ≡ station_at (run_of l []) i
    → after ≡ n + sent_by l.plan i o → w ≡ coded words (decode n words ++ sends l.plan l.time.0 i (s.round + 1) o)
    → (seats l i (record { answer = 0; station = o.station; count = after }) ≡ placed l n i o)
    × (w ≡ coded words (decode n words ++ sends_at l i o))
take-placed l words n i o s after w e f g = (
  λ j. seats l i (record { answer = 0; station = o.station; count = f j }),
  g ∙ rw e refl,
)

-- the record with this plan, time, table and number of messages
abbrev pub line_with : Plan → Moment → ℕ → ℕ → List Station → Line
line_with plan time count long table = record { plan = plan; time = time; length = long; stations = table; count = count }

-- it is a valid one in which station i is s
pub record Lies (plan : Plan) (time : Moment) (count i : ℕ) (s : Station) (words : List ℕ) (long : ℕ) (table : List Station) : Type 0 where
  pub held : Held (line_with plan time count long table) words
  pub low : i < plan.stations
  pub here : s ≡ station_at (run_of (line_with plan time count long table) []) i

-- there is one
pub record Stands (plan : Plan) (time : Moment) (count i : ℕ) (s : Station) (words : List ℕ) : Type 0 where
  pub long : ℕ
  pub table : List Station
  pub lies : Lies plan time count i s words long table

-- in each of them the event comes to this: at station i, and the words then
pub record Does (plan : Plan) (time : Moment) (count i : ℕ) (s : Station) (words : List ℕ) (e : Event) (h : Heard) (w : List ℕ) : Type 0 where
  pub each : (long : ℕ) (table : List Station) → Lies plan time count i s words long table
      → (seats (line_with plan time count long table) i h ≡ ruled (line_with plan time count long table) words e [])
      × (w ≡ ruled_words (line_with plan time count long table) words e [])

-- the last signed rounds of its stations
pub record Noted (l : Line) (signed : List ℕ) : Type 0 where
  pub each : (j : ℕ) → j < l.plan.stations → get_or signed j 0 ≡ (station_at (run_of l []) j).signed

-- in each that has these
pub record DoesBy (signed : List ℕ) (plan : Plan) (time : Moment) (count i : ℕ) (s : Station) (words : List ℕ) (e : Event) (h : Heard)
    (w : List ℕ) : Type 0 where
  pub each : (long : ℕ) (table : List Station) → Lies plan time count i s words long table
      → Noted (line_with plan time count long table) signed
      → (seats (line_with plan time count long table) i h ≡ ruled (line_with plan time count long table) words e [])
      × (w ≡ ruled_words (line_with plan time count long table) words e [])

-- the first k of them noted
unfoldable pub signed_to : Line → List ℕ → ℕ → List ℕ
signed_to l signed zero = signed
signed_to l signed (suc k) = set (signed_to l signed k) k (station_at (run_of l []) k).signed

-- the recipient of a message; n for an advance
unfoldable pub recipient_or : ℕ → Event → ℕ
recipient_or n (Advance d) = n
recipient_or n (Deliver sender recipient round kind) = recipient
recipient_or n (Send sender recipient round signers) = recipient

-- what the code makes of a station that hears
pub heard-is : (l : Line) (i round signers : ℕ) (s : Station) (o : Outcome) → Settled l → i < l.plan.stations → s ≡ station_at (run_of l []) i
    → o ≡ pick (small l.plan s) (hear l.plan round signers s) (still s) → o ≡ heard (run_of l []) i round signers
unfolding run_of
heard-is l i round signers s o h k e f = f ∙ rw (e, is-small l.plan (station_at (run_of l []) i) (h.small i k)) refl

-- where nothing is heard, the station's place is as it was
pub seats-same : (l : Line) (i : ℕ) (s : Station) (number : ℕ) → i < l.plan.stations → s ≡ station_at (run_of l []) i
    → seats l i (record { answer = number; station = s; count = l.count }) ≡ record { answer = number; line = l }
seats-same l i s number k e =
    let same : set l.stations i s ≡ l.stations =
    ap (set l.stations i) (e ∙ sym (table-station l i k)) ∙ set-get_or l.stations i no_station in
    λ j. record {
      answer = number;
      line = record { plan = l.plan; time = l.time; length = l.length; stations = same j; count = l.count };
    }

module _ {plan : Plan} {time : Moment} {count i : ℕ} {s : Station} {words : List ℕ} {long : ℕ} {table : List Station}
    (h : Lies plan time count i s words long table) where
  -- what the code makes of a station that hears
  pub lies-heard : (round signers : ℕ) (o : Outcome) → o ≡ pick (small plan s) (hear plan round signers s) (still s)
      → o ≡ heard (run_of (line_with plan time count long table) []) i round signers
  lies-heard round signers o f =
      heard-is (line_with plan time count long table) i round signers s o (held-settled h.held) h.low h.here f

  -- the numbers that the code reckons with
  pub lies-limits : (i < 12) × (s.round + 1 < 2 ^ 55) × (time.0 < 2 ^ 64) × (count ≤ max_flight) × (length words ≡ 3 * max_flight)
  lies-limits =
      let l : Line = line_with plan time count long table in
      let limits = held-settled h.held in
      let small-round = station-small limits i h.low h.here in (
        omega (arith, limits.few, h.low),
        omega (arith, small-round),
        omega (arith, limits.time),
        held-count h.held,
        h.held.room,
      )

-- looking first where the message was noted finds no other, since no two messages agree
pub stands-found : {plan : Plan} {time : Moment} {count i : ℕ} {s : Station} {words : List ℕ} → Stands plan time count i s words
    → (near : ℕ) (x : Names) {at : ℕ} → at ≡ pick (holds count words) (near_or near x (decode count words)) count
    → at ≡ pick (holds count words) (index_of x (decode count words)) count
unfolding run_of
stands-found {words = words} st near x e = e ∙ rw (near-is near x _ st.lies.held.valid.rules.single) refl

-- whether station i, as it stands, is a sound signer whose last signed round is another
abbrev pub unsigned_in : Plan → ℕ → ℕ → ℕ → ℕ → Bool
unsigned_in plan signed round signers i = has signers i && (sound plan i && not (eqb signed round))

unfoldable pub unsigned_by : Plan → List ℕ → ℕ → ℕ → ℕ → Bool
unsigned_by plan signed round signers i = unsigned_in plan (get_or signed i 0) round signers i

pub unsigned-one : (plan : Plan) (signed : List ℕ) (round signers i : ℕ)
    → unsigned_in plan (get_or signed i 0) round signers i ≡ unsigned_by plan signed round signers i
unfolding unsigned_by
unsigned-one plan signed round signers i = refl

-- the rounds noted are as many as before
pub signed-length : (l : Line) (signed : List ℕ) (k : ℕ) → length (signed_to l signed k) ≡ length signed
unfolding signed_to
signed-length l signed zero = refl
signed-length l signed (suc k) = length-set (signed_to l signed k) k (station_at (run_of l []) k).signed ∙ signed-length l signed k

signed-at : (l : Line) (signed : List ℕ) (k j : ℕ) → j < k → k ≤ length signed → get_or (signed_to l signed k) j 0 ≡ (station_at (run_of l []) j).signed
unfolding signed_to
signed-at l signed zero j a b = absurd (omega arith)
signed-at l signed (suc k) j a b = elim (dec_lt j k) [
  | yes c ↦ get_or-set_other (signed_to l signed k) k j (station_at (run_of l []) k).signed 0 (λ e. omega arith) ∙ signed-at l signed k j c (omega arith)
  | no c ↦
      let e : j ≡ k = omega arith in
      rw e (get_or-set_same (signed_to l signed k) k (station_at (run_of l []) k).signed 0 (omega (arith, signed-length l signed k)))
]

-- all of them
pub noted-all : (l : Line) (signed : List ℕ) {w : List ℕ} → l.plan.stations ≤ length signed → w ≡ signed_to l signed l.plan.stations → Noted l w
noted-all l signed h e = rw e (record { each = λ j k. signed-at l signed l.plan.stations j k h })

pub signed-none : (l : Line) (signed : List ℕ) → signed ≡ signed_to l signed 0
unfolding signed_to
signed-none l signed = refl

-- one more
pub signed-next : (l : Line) (signed : List ℕ) (i : ℕ) {w : List ℕ} {s : Station} → w ≡ signed_to l signed i → s ≡ station_at (run_of l []) i
    → set w i s.signed ≡ signed_to l signed (i + 1)
unfolding signed_to
signed-next l signed i e f = rw (add-one i, e, f) refl

-- so it is where the last signed rounds are those of the record
pub unsigned_by_lem : (l : Line) (signed : List ℕ) (round signers : ℕ) → Noted l signed → (k : ℕ) → k ≤ l.plan.stations
    → some_station (unsigned_by l.plan signed round signers) k ≡ some_station (unsigned_at (run_of l []) round signers) k
unfolding some_station unsigned_by unsigned_at run_of
unsigned_by_lem l signed round signers n zero h = refl
unsigned_by_lem l signed round signers n (suc k) h = rw (unsigned_by_lem l signed round signers n k (omega arith), n.each k (omega arith)) refl

module _ (n : ℕ) (table : List Station) (i : ℕ) (s : Station) (h : i < n) where
  -- the first k in their places: station i anew once its turn has come
  placed-to : (k : ℕ) → k ≤ n → placed_to table (set (first_of n table) i s) k ≡ pick (ltb i k) (set table i s) table
  unfolding placed_to
  placed-to zero m = rw (le-ltb i 0 (omega arith)) refl
  placed-to (suc k) m = elim (dec_lt i k) [
    | yes b ↦
        let other : get_or (set (first_of n table) i s) k no_station ≡ get_or (set table i s) k no_station =
        get_or-set_other (first_of n table) i k s no_station (λ q. omega arith)
        ∙ sym (place-some n table k (omega arith))
        ∙ sym (get_or-set_other table i k s no_station (λ q. omega arith)) in
        rw (placed-to k (omega arith), lt-ltb i k b, lt-ltb i (suc k) (omega arith), other) (set-get_or (set table i s) k no_station)
    | no b ↦ elim (dec_lt k i) [
      | yes c ↦
          let other : get_or (set (first_of n table) i s) k no_station ≡ get_or table k no_station =
          get_or-set_other (first_of n table) i k s no_station (λ q. omega arith) ∙ sym (place-some n table k (omega arith)) in
          rw (placed-to k (omega arith), le-ltb i k (omega arith), le-ltb i (suc k) (omega arith), other) (set-get_or table k no_station)
      | no c ↦
          let q : k ≡ i = omega arith in
          let here : get_or (set (first_of n table) i s) k no_station ≡ s =
          rw q (get_or-set_same (first_of n table) i s no_station (omega (arith, first-length n table))) in
          rw (placed-to k (omega arith), le-ltb i k (omega arith), lt-ltb i (suc k) (omega arith), here, q) refl
    ]
  ]

  pub placed_one : placed_to table (set (first_of n table) i s) n ≡ set table i s
  placed_one = placed-to n (omega arith) ∙ rw (lt-ltb i n h) refl

module _ (l : Line) (words : List ℕ) (i round signers : ℕ) (o : Outcome) (e : o ≡ heard (run_of l []) i round signers) where
  -- the record that holds the run after station i has heard
  pub heard-holds : (ms : List Message) (n : ℕ) → i < l.plan.stations → n ≡ length ms
      → became l n i o ≡ holding l (heard_run (run_of l words) ms i round signers)
  unfolding holding run_of
  heard-holds ms n h m =
      let seats = placed_one l.plan.stations l.stations i o.station h in
      let many : n + sent_by l.plan i o ≡ length (ms ++ sends_at l i o) =
      omega (arith, length-append ms (sends_at l i o), length-sends l.plan l.time.0 i (waits (station_at (run_of l []) i)) o) in
      rw (← e) (λ j. record {
        plan = l.plan;
        time = l.time;
        length = l.length;
        stations = sym seats j;
        count = many j;
      })

  -- and its messages
  pub heard-words : (ms : List Message) → coded words (ms ++ sends_at l i o) ≡ coded words (heard_run (run_of l words) ms i round signers).flight
  unfolding run_of
  heard-words ms = rw (← e) refl

  -- more than 1,024 would be in flight
  pub heard-full : (ms : List Message) (n : ℕ) → n ≡ length ms
      → full (heard_run (run_of l words) ms i round signers) ≡ ltb max_flight (n + sent_by l.plan i o)
  unfolding full run_of
  heard-full ms n m =
      let many : length (ms ++ sends_at l i o) ≡ n + sent_by l.plan i o =
      omega (arith, length-append ms (sends_at l i o), length-sends l.plan l.time.0 i (waits (station_at (run_of l []) i)) o) in
      rw (← e, many) refl

-- ---- deliver

module _ (l : Line) (words : List ℕ) (h : Held l words) (x : Names) (at : ℕ)
    (e : at ≡ pick (holds l.count words) (index_of x (decode l.count words)) l.count) where
  room-held : holds l.count words ≡ true
  unfolding holds
  room-held = le-leb (3 * l.count) (length words) (omega (arith, h.room, held-count h))

  -- where the message with these names is
  found_at : at ≡ index_of x (decode l.count words)
  found_at = e ∙ rw room-held refl

  -- 16: there is none
  pub deliver-none : at ≡ l.count → event_rules (run_of l words) (deliver_of x) [] ≡ 16
  unfolding run_of
  deliver-none z =
      sixteen (run_of l words) x.sender x.recipient x.round x.kind []
      (eq-eqb _ _ (sym found_at ∙ z ∙ sym (length-decode l.count words)))

  module _ (ne : at ≡ l.count → ⊥) (m : Message) (em : m ≡ message_at words at) (o : Outcome)
      (eo : o ≡ heard (run_of l []) x.recipient x.round m.signers) (k : x.recipient < l.plan.stations) where
    -- the messages without it
    abbrev leaving : List Message
    leaving = without at (decode l.count words)

    pub found_below : at < l.count
    found_below =
        let most = index_of-most x (decode l.count words) in
        elim (dec_lt at l.count) [ yes b ↦ b | no b ↦ absurd (ne (omega (arith, found_at, length-decode l.count words))) ]

    length-leaving : l.count - 1 ≡ length leaving
    length-leaving = omega (arith, length_without at (decode l.count words), length-decode l.count words)

    -- what the deliver does
    deliver-effect : effect (run_of l words) (deliver_of x) [] ≡ heard_run (run_of l words) leaving x.recipient x.round m.signers
    unfolding effect take_out hear_at become run_of
    deliver-effect =
        let here : get_or (decode l.count words) at no_message ≡ m = decode-at l.count words at no_message found_below ∙ sym em in
        rw (← found_at, here) refl

    -- its table, but for 16
    deliver-rules : event_rules (run_of l words) (deliver_of x) [] ≡ refuse (ltb max_flight (l.count - 1 + sent_by l.plan x.recipient o)) 19 0
    unfolding run_of
    deliver-rules =
        let many = heard-full l words x.recipient x.round m.signers o eo leaving (l.count - 1) length-leaving in
        deliver-last (run_of l words) x.sender x.recipient x.round x.kind []
        (ne_eqb _ _ (λ z. ne (found_at ∙ z ∙ length-decode l.count words)))
        ∙ rw (deliver-effect, many) refl

    -- 19
    pub deliver-full : max_flight < l.count - 1 + sent_by l.plan x.recipient o → event_rules (run_of l words) (deliver_of x) [] ≡ 19
    deliver-full b = deliver-rules ∙ rw (lt-ltb max_flight _ b) refl

    module _ (few : l.count - 1 + sent_by l.plan x.recipient o ≤ max_flight) (left : Answer) (w : List ℕ)
        (el : left ≡ answer (can_take l.count words at) l.count leaving) (ew : w ≡ after (can_take l.count words at) words leaving) where
      taken : (left.count ≡ length leaving) × (w ≡ coded words leaving)
      taken =
          let can = take-allowed l.count words at room-held found_below in
          let made : left ≡ record { done = true; count = length leaving } = el ∙ rw can refl in
          (ap (λ (a : Answer). a.count) made, ew ∙ rw can refl)

      -- there is room for what its recipient sends
      pub deliver-room : 3 * (left.count + sent_by l.plan x.recipient o) ≤ length w
      deliver-room =
          let long : length w ≡ length words =
          ap length taken.1 ∙ length-coded words leaving (omega (arith, length-leaving, h.room, held-count h)) in
          omega (arith, length-leaving, taken.0, h.room)

      -- the run and the words after it
      pub deliver-comes : ((j : ℕ) → get_or words j 0 < 2 ^ 64) → (p : Played) (v : List ℕ) → p ≡ placed l left.count x.recipient o
          → v ≡ coded w (decode left.count w ++ sends_at l x.recipient o)
          → (p ≡ ruled l words (deliver_of x) []) × (v ≡ ruled_words l words (deliver_of x) [])
      deliver-comes fits p v ep ev =
          let laid = laid-without (laid-start l.count words room-held fits) at (omega (arith, found_below, length-decode l.count words)) in
          let stands : coded w (decode left.count w ++ sends_at l x.recipient o) ≡ coded words (leaving ++ sends_at l x.recipient o) =
          rw (taken.0, taken.1)
          (ap (λ (ms : List Message). coded (coded words leaving) (ms ++ sends_at l x.recipient o)) (laid-decode laid)
          ∙ laid-over laid (leaving ++ sends_at l x.recipient o) (omega (arith, length-append leaving (sends_at l x.recipient o)))) in
          let yes =
          comes-yes l words (effect (run_of l words) (deliver_of x) []) (event_rules (run_of l words) (deliver_of x) [])
          (became l left.count x.recipient o) v (deliver-rules ∙ rw (le-ltb max_flight _ few) refl)
          (heard-holds l words x.recipient x.round m.signers o eo leaving left.count k taken.0
          ∙ ap (holding l) (sym deliver-effect))
          (ev ∙ stands ∙ heard-words l words x.recipient x.round m.signers o eo leaving
          ∙ ap (λ (r : Run). coded words r.flight) (sym deliver-effect)) in
          (ep ∙ yes.0, yes.1)

-- ---- faulty send

module _ (l : Line) (words : List ℕ) (h : Held l words) (sender recipient round signers : ℕ) where
  -- 17
  pub send-sound : has l.plan.faulty sender ≡ false → event_rules (run_of l words) (Send sender recipient round signers) [] ≡ 17
  unfolding run_of
  send-sound e = seventeen (run_of l words) sender recipient round signers [] (ap not e)

  -- whether a needed signature was not made, as the code asks it
  pub unsigned_is : (s : Station) (some : Bool) → s ≡ station_at (run_of l []) recipient
      → some ≡ some_station (unsigned_at (run_of l []) round signers) l.plan.stations
      → (eqb round (s.round + 1) && some) ≡ unsigned (run_of l words) recipient round signers
  unfolding unsigned unsigned_at run_of
  unsigned_is s some e f = rw (e, f) refl

  module _ (e : has l.plan.faulty sender ≡ true) where
    -- 18
    pub send-unsigned : unsigned (run_of l words) recipient round signers ≡ true
        → event_rules (run_of l words) (Send sender recipient round signers) [] ≡ 18
    unfolding run_of
    send-unsigned u = eighteen (run_of l words) sender recipient round signers [] (ap not e) u

    module _ (u : unsigned (run_of l words) recipient round signers ≡ false) (o : Outcome)
        (eo : o ≡ heard (run_of l []) recipient round signers) where
      -- its table, but for 17 and 18
      send-rules : event_rules (run_of l words) (Send sender recipient round signers) []
          ≡ refuse (ltb max_flight (l.count + sent_by l.plan recipient o)) 19 0
      unfolding effect hear_at become run_of
      send-rules =
          let many = heard-full l words recipient round signers o eo (decode l.count words) l.count (sym (length-decode l.count words)) in
          send-last (run_of l words) sender recipient round signers [] (ap not e) u ∙ rw many refl

      -- 19
      pub send-full : max_flight < l.count + sent_by l.plan recipient o
          → event_rules (run_of l words) (Send sender recipient round signers) [] ≡ 19
      send-full b = send-rules ∙ rw (lt-ltb max_flight _ b) refl

      -- the run and the words after it
      pub send-comes : recipient < l.plan.stations → l.count + sent_by l.plan recipient o ≤ max_flight → (p : Played) (v : List ℕ)
          → p ≡ placed l l.count recipient o → v ≡ coded words (decode l.count words ++ sends_at l recipient o)
          → (p ≡ ruled l words (Send sender recipient round signers) [])
          × (v ≡ ruled_words l words (Send sender recipient round signers) [])
      unfolding effect hear_at become run_of
      send-comes k few p v ep ev =
          let yes =
          comes-yes l words (effect (run_of l words) (Send sender recipient round signers) [])
          (event_rules (run_of l words) (Send sender recipient round signers) []) (became l l.count recipient o) v
          (send-rules ∙ rw (le-ltb max_flight _ few) refl)
          (heard-holds l words recipient round signers o eo (decode l.count words) l.count k (sym (length-decode l.count words)))
          (ev ∙ heard-words l words recipient round signers o eo (decode l.count words)) in
          (ep ∙ yes.0, yes.1)

-- ---- an event and the station that hears it

-- where 11 does not bar it, it is the recipient
hears : (n faulty : ℕ) (e : Event) (increments : List ℕ) → barred n faulty e increments ≡ false → hearer n faulty e ≡ recipient_or n e
unfolding hearer barred recipient_or
hears n faulty (Advance d) increments z = refl
hears n faulty (Deliver sender recipient round kind) increments z = rw z refl
hears n faulty (Send sender recipient round signers) increments z = rw z refl

-- and an event that is heard is not barred
picked : (n i : ℕ) (b : Bool) → pick b n i < n → b ≡ false
picked n i true k = absurd (omega arith)
picked n i false k = refl

heard-not : (n faulty : ℕ) (e : Event) (increments : List ℕ) → hearer n faulty e < n → barred n faulty e increments ≡ false
unfolding hearer barred
heard-not n faulty (Advance d) increments k = absurd (omega arith)
heard-not n faulty (Deliver sender recipient round kind) increments k = picked n recipient (bad_deliver n faulty sender recipient round kind) k
heard-not n faulty (Send sender recipient round signers) increments k = picked n recipient (bad_send n faulty sender recipient round signers) k

-- what is heard of an event that 11 does not bar is what its step gives
pub hears-step : (l : Line) (words : List ℕ) (e : Event) (increments : List ℕ) → barred l.plan.stations l.plan.faulty e increments ≡ false
    → recipient_or l.plan.stations e < l.plan.stations → (p : Played) (w : List ℕ) → p ≡ ruled l words e [] → w ≡ ruled_words l words e []
    → (p ≡ stepped l words e increments) × (w ≡ stepped_words l words e increments)
unfolding recipient_or
hears-step l words (Advance d) increments b k p w ep ew = absurd (omega arith)
hears-step l words (Deliver sender recipient round kind) increments b k p w ep ew =
    let x : Names = record { sender = sender; recipient = recipient; round = round; kind = kind } in
    let any = deliver-any l words x increments in
    step-comes l words (deliver_of x) (deliver_of x) increments p w refl b (ep ∙ any.0) (ew ∙ any.1)
hears-step l words (Send sender recipient round signers) increments b k p w ep ew =
    let any = send-any l words sender recipient round signers increments in
    step-comes l words (Send sender recipient round signers) (Send sender recipient round signers) increments p w refl b (ep ∙ any.0) (ew ∙ any.1)

-- of a message it is the recipient
pub recipient-deliver : (n : ℕ) (e : Event) (x : Names) → e ≡ deliver_of x → recipient_or n e ≡ x.recipient
unfolding recipient_or
recipient-deliver n e x q = rw q refl

pub recipient-send : (n : ℕ) (e : Event) (sender recipient round signers : ℕ) → e ≡ Send sender recipient round signers → recipient_or n e ≡ recipient
unfolding recipient_or
recipient-send n e sender recipient round signers q = rw q refl

-- of an advance it is none
pub recipient-advance : (n : ℕ) (e : Event) (d : ℕ) → e ≡ Advance d → recipient_or n e < n → ⊥
unfolding recipient_or
recipient-advance n e d q k = let m : n < n = rw q at k in omega arith

-- a message that 11 does not bar is heard
module _ {l : Line} {words : List ℕ} (h : Held l words) (e : Event) (increments : List ℕ)
    (z : barred l.plan.stations l.plan.faulty e increments ≡ false)
    (m : l.plan.stations ≤ hearer l.plan.stations l.plan.faulty e) where
  pub never-deliver : (sender recipient round kind : ℕ) → e ≡ Deliver sender recipient round kind → ⊥
  never-deliver sender recipient round kind f =
      let here = hears l.plan.stations l.plan.faulty e increments z in
      let there = recipient-deliver l.plan.stations e (record { sender = sender; recipient = recipient; round = round; kind = kind }) f in
      omega (arith, here, there, m, deliver-recipient h e increments z sender recipient round kind f)

  pub never-send : (sender recipient round signers : ℕ) → e ≡ Send sender recipient round signers → ⊥
  never-send sender recipient round signers f =
      let here = hears l.plan.stations l.plan.faulty e increments z in
      let there = recipient-send l.plan.stations e sender recipient round signers f in
      omega (arith, here, there, m, send-recipient h e increments z sender recipient round signers f)

-- what a deliver or a send comes to, as the event that it is
module _ (signed : List ℕ) (plan : Plan) (time : Moment) (count : ℕ) (s : Station) (words : List ℕ) (e : Event) (h : Heard) (w : List ℕ) where
  pub hears-deliver : (x : Names) → e ≡ deliver_of x → Does plan time count x.recipient s words (deliver_of x) h w
      → DoesBy signed plan time count (recipient_or plan.stations e) s words e h w
  unfolding recipient_or
  hears-deliver x q d =
      let at : DoesBy signed plan time count x.recipient s words (deliver_of x) h w = record { each = λ long table lies noted. d.each long table lies } in
      rw q at

  pub hears-send : (sender recipient round signers : ℕ) → e ≡ Send sender recipient round signers
      → DoesBy signed plan time count recipient s words (Send sender recipient round signers) h w
      → DoesBy signed plan time count (recipient_or plan.stations e) s words e h w
  unfolding recipient_or
  hears-send sender recipient round signers q d = rw q d

module _ {l : Line} {words : List ℕ} (h : Held l words) (e : Event) (i : ℕ) (q : i ≡ hearer l.plan.stations l.plan.faulty e)
    (k : i < l.plan.stations) where
  not-barred : (increments : List ℕ) → barred l.plan.stations l.plan.faulty e increments ≡ false
  not-barred increments = heard-not l.plan.stations l.plan.faulty e increments (omega (arith, q, k))

  -- the one that hears it
  heard-by : i ≡ recipient_or l.plan.stations e
  heard-by = q ∙ hears l.plan.stations l.plan.faulty e [] (not-barred [])

  line-lies : Lies l.plan l.time l.count (recipient_or l.plan.stations e) (get_or l.stations i no_station) words l.length l.stations
  line-lies = record {
    held = h;
    low = omega (arith, heard-by, k);
    here = table-station l i k ∙ ap (station_at (run_of l [])) heard-by;
  }

  pub line-stands : Stands l.plan l.time l.count (recipient_or l.plan.stations e) (get_or l.stations i no_station) words
  line-stands = record { long = l.length; table = l.stations; lies = line-lies }

  -- the event's step is what it comes to there
  pub line-heard : (increments signed : List ℕ) → Noted l signed → (r : Heard) (w : List ℕ)
      → DoesBy signed l.plan l.time l.count (recipient_or l.plan.stations e) (get_or l.stations i no_station) words e r w
      → (seats l i r ≡ stepped l words e increments) × (w ≡ stepped_words l words e increments)
  line-heard increments signed n r w d =
      let does = d.each l.length l.stations line-lies n in
      hears-step l words e increments (not-barred increments) (omega (arith, heard-by, k)) (seats l i r) w
      (ap (λ (j : ℕ). seats l j r) heard-by ∙ does.0) does.1
