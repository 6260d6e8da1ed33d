-- An advance as the code plays it: what the increments meet, and the stations and the number of messages after each station's
-- turn. Together the turns are the event's effect.
use Prim.Native.Nat.{ℕ, zero, suc, ◌+◌, ◌*◌, ◌^◌, ◌<◌, ◌≤◌}
use Rattle.std.specs.Prelude.{Bool, ◌&&◌, ◌||◌, ◌≡◌, ltb, eqb, get_or, set}
use Rattle.std.proofs.Math.Bool.{true, false, not}
use mathlib.Core.List.{List, [], ◌++◌, append_assoc, append-nil}
use Rattle.std.proofs.Math.Path.{refl, ap, sym}
use Rattle.std.proofs.Common.{subst, ◌∙◌, add-one}
use native.Mathlib.Omega.{arith}
use Rattle.std.proofs.Math.Decide.{dec_lt}
use Rattle.std.proofs.Math.Dec.{leb}
use borrow.Author.Tests.{le-leb}
use Rattle.std.proofs.Math.ListN.{length, length-append}
use Rattle.clock.specs.Limits.{max_time, max_flight}
use Rattle.clock.specs.Drift.{in_drift, in_drift-is}
use Rattle.clock.specs.Pick.{pick, refuse}
use Rattle.clock.specs.Tests.{neither}
use Rattle.clock.specs.Time.{later}
use Rattle.setup.specs.declared.Plan.{Plan}
use Rattle.station.specs.declared.Station.{Station}
use Rattle.station.specs.declared.Outcome.{Outcome}
use Rattle.station.specs.Station.{waits, still, passes, advance}
use Rattle.station.specs.Limits.{steady, is-steady}
use Rattle.station.specs.Record.{exceeds, move_answer}
use Rattle.flight.specs.declared.Message.{Message}
use Rattle.flight.specs.Message.{decode, coded, holds, overdue}
use Rattle.flight.proofs.Coding.{length-decode, Laid, laid-start, laid-decode, laid-length, laid_more}
use Rattle.event.specs.declared.Event.TheVariants.{Advance}
use Rattle.line.specs.declared.Line.{Line}
use Rattle.line.specs.Run.{sound, station_at, sends}
use Rattle.line.specs.Record.{some_station}
use Rattle.line.specs.Event.{effect, exceeds_at, drifts_at, passes_at, full, event_rules}
use Rattle.line.proofs.Order.{twelve}
use Rattle.line.specs.Held.{run_of}
use Rattle.line.specs.HeldLaws.{first-length}
use Rattle.line.specs.Moves.{advance_at, advance_sends, Signed}
use Rattle.line.proofs.Moves.{signed-to}
use Rattle.run.specs.declared.Meets.{Meets}
use Rattle.run.specs.declared.Turns.{Turns}
use Rattle.run.specs.Play.{placed_to, holding, comes-yes, ruled, ruled_words}
use Rattle.run.specs.Limits.{Held, Going, held-count, station-small, going-steady}
use Rattle.run.specs.Sends.{sent_by, sent-few, Room, length-sends, codable-sends}

-- ---- what the increments meet

-- station i would pass its mark, and does not exceed a limit
unfoldable pub blocked_at : Line → List ℕ → ℕ → Bool
blocked_at l increments i = not (exceeds_at (run_of l []) increments i) && passes_at (run_of l []) increments i

abbrev pub meets_at : Line → ℕ → List ℕ → ℕ → Meets
meets_at l d increments i = record {
  exceeds = exceeds_at (run_of l []) increments i;
  drifts = drifts_at (run_of l []) d increments i;
  passes = blocked_at l increments i;
}

-- as the code asks it of a station and its increment
abbrev pub meets_in : Plan → ℕ → ℕ → ℕ → Station → Meets
meets_in plan d by i s = record {
  exceeds = eqb (pick (steady plan by s) (move_answer plan by s) 12) 12;
  drifts = sound plan i && not (in_drift plan.drift d by);
  passes = eqb (pick (steady plan by s) (move_answer plan by s) 12) 14;
}

-- some of the first k stations
abbrev pub meets_to : Line → ℕ → List ℕ → ℕ → Meets
meets_to l d increments k = record {
  exceeds = some_station (exceeds_at (run_of l []) increments) k;
  drifts = some_station (drifts_at (run_of l []) d increments) k;
  passes = some_station (blocked_at l increments) k;
}

-- ---- the turns of the first k stations

-- each station in its place
unfoldable pub stations_to : Line → List ℕ → ℕ → List Station
stations_to l increments zero = l.stations
stations_to l increments (suc k) = set (stations_to l increments k) k (advance_at (run_of l []) increments k).station

-- how many messages they send
unfoldable pub sent_to : Line → List ℕ → ℕ → ℕ
sent_to l increments zero = 0
sent_to l increments (suc k) = sent_to l increments k + sent_by l.plan k (advance_at (run_of l []) increments k)

abbrev pub turns_to : Line → List ℕ → ℕ → Turns
turns_to l increments k = record { stations = stations_to l increments k; sent = sent_to l increments k }

-- ---- laws

-- the number that refuses an increment says which of 12 and 14 it meets
pub meets-number : (e p : Bool) (number : ℕ) → number ≡ refuse e 12 (refuse p 14 0)
    → (eqb number 12 ≡ e) × (eqb number 14 ≡ (not e && p))
meets-number true p number h = rw h (refl, refl)
meets-number false true number h = rw h (refl, refl)
meets-number false false number h = rw h (refl, refl)

module _ (l : Line) (d : ℕ) (increments : List ℕ) (g : Going l d increments) (i : ℕ) (h : i < l.plan.stations) (s : Station)
    (e : s ≡ station_at (run_of l []) i) where
  -- what the code makes of a station that advances
  pub goes-is : (o : Outcome) → o ≡ pick (steady l.plan (get_or increments i 0) s) (advance l.plan i (get_or increments i 0) s) (still s)
      → o ≡ advance_at (run_of l []) increments i
  unfolding run_of
  goes-is o f = f ∙ rw (e, is-steady l.plan (get_or increments i 0) (station_at (run_of l []) i) (going-steady g i h)) refl

  -- and what it finds that its increment meets
  pub meets-is : (m : Meets) → m ≡ meets_in l.plan d (get_or increments i 0) i s → m ≡ meets_at l d increments i
  unfolding move_answer exceeds_at drifts_at passes_at blocked_at run_of
  meets-is m f =
      let steady-i = is-steady l.plan (get_or increments i 0) (station_at (run_of l []) i) (going-steady g i h) in
      let number_is : pick (steady l.plan (get_or increments i 0) s) (move_answer l.plan (get_or increments i 0) s) 12
      ≡ move_answer l.plan (get_or increments i 0) (station_at (run_of l []) i) =
      rw (e, steady-i) refl in
      let n =
      meets-number (exceeds l.plan (get_or increments i 0) (station_at (run_of l []) i)) (passes l.plan (get_or increments i 0) (station_at (run_of l []) i))
      _ number_is in
      let rule = in_drift-is l.plan.drift d (get_or increments i 0) g.settled.plan.limits.drift g.span (g.most i h) in
      f ∙ (λ j. record { exceeds = n.0 j; drifts = sound l.plan i && not (rule j); passes = n.1 j })

module _ (l : Line) (increments : List ℕ) where
  -- where none exceeds a limit, one is blocked where one passes its mark
  pub blocked-some : (k : ℕ) → some_station (exceeds_at (run_of l []) increments) k ≡ false
      → some_station (blocked_at l increments) k ≡ some_station (passes_at (run_of l []) increments) k
  unfolding some_station blocked_at
  blocked-some zero e = refl
  blocked-some (suc k) e =
      let n = neither (some_station (exceeds_at (run_of l []) increments) k) (exceeds_at (run_of l []) increments k) e in
      rw (blocked-some k n.0, n.1) refl

  module _ (d : ℕ) where
    -- as many messages as were sent
    pub length-turns : (k : ℕ) → length (advance_sends (run_of l []) d increments k) ≡ sent_to l increments k
    unfolding advance_sends sent_to run_of
    length-turns zero = refl
    length-turns (suc k) =
        length-append (advance_sends (run_of l []) d increments k) _
        ∙ omega (
          arith,
          length-turns k,
          length-sends l.plan (l.time.0 + d) k (waits (station_at (run_of l []) k)) (advance_at (run_of l []) increments k),
        )

    -- whatever the words hold
    pub sends-any : (words : List ℕ) (k : ℕ) → advance_sends (run_of l words) d increments k ≡ advance_sends (run_of l []) d increments k
    unfolding advance_sends run_of
    sends-any words zero = refl
    sends-any words (suc k) =
        ap (λ (ms : List Message).
        ms ++ sends l.plan (l.time.0 + d) k (waits (station_at (run_of l []) k)) (advance_at (run_of l []) increments k)) (sends-any words k)

-- ---- one station's turn

-- at most 24 messages each
pub turns-few : (l : Line) (increments : List ℕ) (k : ℕ) → sent_to l increments k ≤ 24 * k
unfolding sent_to
turns-few l increments zero = omega arith
turns-few l increments (suc k) = omega (arith, turns-few l increments k, sent-few l.plan k (advance_at (run_of l []) increments k))

-- no more after fewer turns
pub turns-grow : (l : Line) (increments : List ℕ) (n k : ℕ) → k ≤ n → sent_to l increments k ≤ sent_to l increments n
unfolding sent_to
turns-grow l increments zero k h = let e : k ≡ 0 = omega arith in rw e (omega arith)
turns-grow l increments (suc n) k h = elim (dec_lt n k) [
  | yes b ↦ let e : k ≡ suc n = omega arith in rw e (omega arith)
  | no b ↦ omega (arith, turns-grow l increments n k (omega arith))
]

-- before the first
pub turns-start : (l : Line) (increments : List ℕ) → (l.stations ≡ stations_to l increments 0) × (0 ≡ sent_to l increments 0)
unfolding stations_to sent_to
turns-start l increments = (refl, refl)

pub turns-laid : (l : Line) (words : List ℕ) (d : ℕ) (increments : List ℕ) → Held l words → ((j : ℕ) → get_or words j 0 < 2 ^ 64)
    → (l.count ≡ l.count + sent_to l increments 0)
    × Laid words words (decode l.count words ++ advance_sends (run_of l []) d increments 0)
unfolding sent_to advance_sends holds
turns-laid l words d increments h fits = (
  omega arith,
  rw (append-nil (decode l.count words))
      (laid-start l.count words (le-leb (3 * l.count) (length words) (omega (arith, h.room, held-count h))) fits),
)

module _ (l : Line) (increments : List ℕ) (i : ℕ) (o : Outcome) (f : o ≡ advance_at (run_of l []) increments i) where
  -- the stations after it
  pub turn-stations : {before : List Station} → before ≡ stations_to l increments i → set before i o.station ≡ stations_to l increments (i + 1)
  unfolding stations_to
  turn-stations e = rw (add-one, e, f) refl

  -- the number of messages after it
  pub turn-sent : {n more : ℕ} → n ≡ sent_to l increments i → more ≡ sent_by l.plan i o → n + more ≡ sent_to l increments (i + 1)
  unfolding sent_to
  turn-sent e m = rw (add-one, e, m, f) refl

  module _ (d : ℕ) (g : Going l d increments) (h : i < l.plan.stations) (s : Station) (e : s ≡ station_at (run_of l []) i) (time : ℕ)
      (t : time ≡ later l.time.0 d) (words w : List ℕ) (room : length words ≡ 3 * max_flight)
      (most : l.count + sent_to l increments l.plan.stations ≤ max_flight) (n : ℕ) (c : n ≡ l.count + sent_to l increments i)
      (at : Laid words w (decode l.count words ++ advance_sends (run_of l []) d increments i)) where
    -- what it sends has room
    pub turn-room : Room w n l.plan time i (s.round + 1) o
    turn-room =
        let low = station-small g.settled i h e in
        let grows = turns-grow l increments l.plan.stations (i + 1) (omega arith) in
        let more = turn-sent refl refl in
        record {
          place = omega (arith, g.settled.few);
          low = omega arith;
          fits = omega (arith, g.settled.time, g.span);
          room = omega (arith, laid-length at);
        }

    -- and follows what stands
    pub turn-laid : o.relay < 2 ^ 64 → {after : List ℕ} → after ≡ coded w (decode n w ++ sends l.plan time i (s.round + 1) o)
        → Laid words after (decode l.count words ++ advance_sends (run_of l []) d increments (i + 1))
    unfolding advance_sends run_of holds
    turn-laid small {after} a =
        let exact : time ≡ l.time.0 + d = t ∙ omega (arith, g.settled.time, g.span) in
        let many : n ≡ length (decode l.count words ++ advance_sends (run_of l []) d increments i) =
        omega (
          arith,
          length-append (decode l.count words) (advance_sends (run_of l []) d increments i),
          length-decode l.count words,
          length-turns l increments d i,
        ) in
        let sent : List Message = sends l.plan time i (s.round + 1) o in
        let stands : after ≡ coded w ((decode l.count words ++ advance_sends (run_of l []) d increments i) ++ sent) =
        a ∙ rw many (ap (λ (ms : List Message). coded w (ms ++ sent)) (laid-decode at)) in
        let fits : 3 * length ((decode l.count words ++ advance_sends (run_of l []) d increments i) ++ sent) ≤ length words =
        omega (
          arith,
          length-append (decode l.count words ++ advance_sends (run_of l []) d increments i) sent,
          length-sends l.plan time i (s.round + 1) o,
          turn-room.room,
          laid-length at,
        ) in
        let laid = laid_more at sent (le-leb _ (length words) fits)
        (codable-sends l.plan time i (s.round + 1) o turn-room.place turn-room.low turn-room.fits small) in
        let next : (decode l.count words ++ advance_sends (run_of l []) d increments i) ++ sent
        ≡ decode l.count words ++ advance_sends (run_of l []) d increments (i + 1) =
        append_assoc (decode l.count words) (advance_sends (run_of l []) d increments i) sent ∙ rw (add-one i, exact, e, f) refl in
        rw stands
        (subst (λ ms. Laid words (coded w ((decode l.count words ++ advance_sends (run_of l []) d increments i) ++ sent)) ms) next laid)

-- ---- the event

-- the table as the code asks it: the time then, what the increments meet, whether a message is overdue, how many are sent
abbrev pub asked : Line → ℕ → Meets → Bool → ℕ → ℕ
asked l time m late sent =
    refuse (ltb max_time time || m.exceeds) 12
    (refuse m.drifts 13 (refuse m.passes 14 (refuse late 15 (refuse (ltb max_flight (l.count + sent)) 19 0))))

module _ (l : Line) (words : List ℕ) (d : ℕ) (increments : List ℕ) (h : Held l words) (g : Going l d increments) where
  -- every station has had its turn
  turned : Signed (run_of l words) d increments l.plan.stations (effect (run_of l words) (Advance d) increments)
  unfolding effect run_of
  turned =
      let long = first-length l.plan.stations l.stations in
      signed-to (run_of l words) d increments (omega (arith, g.long)) l.plan.stations (omega arith)

  -- and stands in its place
  turned-stations : (k : ℕ) → k ≤ l.plan.stations
      → stations_to l increments k ≡ placed_to l.stations (effect (run_of l words) (Advance d) increments).stations k
  unfolding stations_to placed_to run_of
  turned-stations zero b = refl
  turned-stations (suc k) b = rw (← turned-stations k (omega arith), turned.done k b) refl

  -- so many messages are in flight
  turned-count : l.count + sent_to l increments l.plan.stations ≡ length (effect (run_of l words) (Advance d) increments).flight
  unfolding run_of
  turned-count =
      let f : (effect (run_of l words) (Advance d) increments).flight
      ≡ decode l.count words ++ advance_sends (run_of l []) d increments l.plan.stations =
      turned.flight ∙ ap (λ (ms : List Message). decode l.count words ++ ms) (sends-any l increments d words l.plan.stations) in
      rw f (omega (
        arith,
        length-append (decode l.count words) (advance_sends (run_of l []) d increments l.plan.stations),
        length-decode l.count words,
        length-turns l increments d l.plan.stations,
      ))

  module _ (time : ℕ) (t : time ≡ later l.time.0 d) where
    exact : time ≡ l.time.0 + d
    exact = t ∙ omega (arith, g.settled.time, g.span)

    -- the table of an advance
    pub advance-rules : (m : Meets) (late : Bool) (sent : ℕ) → m ≡ meets_to l d increments l.plan.stations
        → late ≡ (holds l.count words && overdue time l.plan.bound (decode l.count words))
        → sent ≡ sent_to l increments l.plan.stations
        → event_rules (run_of l words) (Advance d) increments ≡ asked l time m late sent
    unfolding event_rules full holds exceeds_at drifts_at passes_at run_of
    advance-rules m late sent em el es =
        let room : leb (3 * l.count) (length words) ≡ true = le-leb (3 * l.count) (length words) (omega (arith, h.room, held-count h)) in
        let soon : late ≡ overdue (l.time.0 + d) l.plan.bound (decode l.count words) = el ∙ rw (room, exact) refl in
        rw (em, soon, es, exact)
        (go (ltb max_time (l.time.0 + d) || some_station (exceeds_at (run_of l []) increments) l.plan.stations) refl)
      where
        go : (over : Bool) → (ltb max_time (l.time.0 + d) || some_station (exceeds_at (run_of l []) increments) l.plan.stations) ≡ over
            → event_rules (run_of l words) (Advance d) increments
            ≡ asked l (l.time.0 + d) (meets_to l d increments l.plan.stations)
            (overdue (l.time.0 + d) l.plan.bound (decode l.count words)) (sent_to l increments l.plan.stations)
        go true e = twelve (run_of l words) d increments e ∙ rw e refl
        go false e =
            let n = neither (ltb max_time (l.time.0 + d)) (some_station (exceeds_at (run_of l []) increments) l.plan.stations) e in
            rw (← turned-count, blocked-some l increments l.plan.stations n.1) refl

    -- the run and the words after an advance that is accepted
    pub advance-comes : event_rules (run_of l words) (Advance d) increments ≡ 0 → (stations : List Station) (count : ℕ) (v : List ℕ)
        → stations ≡ stations_to l increments l.plan.stations → count ≡ l.count + sent_to l increments l.plan.stations
        → v ≡ coded words (decode l.count words ++ advance_sends (run_of l []) d increments l.plan.stations)
        → (record {
          answer = 0;
          line = record { plan = l.plan; time = record { 0 = time }; length = l.length; stations = stations; count = count };
        } ≡ ruled l words (Advance d) increments)
        × (v ≡ ruled_words l words (Advance d) increments)
    unfolding holding run_of
    advance-comes e stations count v es ec ev =
        let seats = es ∙ turned-stations l.plan.stations (omega arith) in
        let many = ec ∙ turned-count in
        let now = exact ∙ sym turned.time in
        comes-yes l words (effect (run_of l words) (Advance d) increments) (event_rules (run_of l words) (Advance d) increments)
        (record { plan = l.plan; time = record { 0 = time }; length = l.length; stations = stations; count = count }) v e
        (λ j. record { plan = l.plan; time = record { 0 = now j }; length = l.length; stations = seats j; count = many j })
        (ev ∙ ap (coded words)
        (ap (λ (ms : List Message). decode l.count words ++ ms) (sym (sends-any l increments d words l.plan.stations)) ∙ sym turned.flight))
