-- Deliver and faulty send as the code comes to them: what each of its tests answers is what the event comes to.
use Prim.Native.Nat.{ℕ, ◌+◌, ◌*◌, ◌-◌, ◌^◌, ◌<◌, ◌≤◌}
use Rattle.std.specs.Prelude.{Bool, true, false, ◌&&◌, ◌≡◌, eqb}
use mathlib.Core.List.{List, [], ◌++◌}
use Rattle.std.proofs.Math.Path.{refl, sym}
use Rattle.std.proofs.Common.{◌∙◌}
use native.Mathlib.Omega.{arith}
use Rattle.std.proofs.Math.ListN.{length, get_or}
use Rattle.clock.specs.Limits.{max_flight}
use Rattle.clock.specs.Pick.{pick}
use Rattle.clock.specs.declared.Moment.{Moment}
use Rattle.mask.specs.Mask.{has}
use Rattle.setup.specs.declared.Plan.{Plan}
use Rattle.station.specs.declared.Station.{Station}
use Rattle.station.specs.declared.Outcome.{Outcome}
use Rattle.station.specs.Station.{still, hear}
use Rattle.station.specs.Limits.{small}
use Rattle.flight.specs.declared.Message.{Message}
use Rattle.flight.specs.declared.Names.{Names}
use Rattle.flight.specs.Message.{Answer, decode, message_at, coded, holds, index_of, without, after, answer, can_take}
use Rattle.event.specs.declared.Event.{Event}
use Rattle.event.specs.declared.Event.TheVariants.{Send}
use Rattle.line.specs.declared.Line.{Line}
use Rattle.line.specs.Run.{sends}
use Rattle.line.specs.Record.{some_station}
use Rattle.line.specs.Event.{effect, unsigned, event_rules}
use Rattle.line.specs.Held.{run_of}
use Rattle.run.specs.Play.{comes-no, ruled, ruled_words, deliver_of}
use Rattle.run.specs.Sends.{sent_by}
use Rattle.run.specs.Hearing.{Does, DoesBy, Lies, Noted, Stands, deliver-comes, deliver-full, deliver-none, deliver-room, found_below, lies-heard, line_with, seats, seats-same, send-comes, send-full, send-sound, send-unsigned, take-placed, unsigned_by, unsigned_by_lem, unsigned_is}

module _ {plan : Plan} {time : Moment} {count i : ℕ} {s : Station} {words : List ℕ} {long : ℕ} {table : List Station}
    (h : Lies plan time count i s words long table) where
  -- a refused event
  pub lies-no : (e : Event) (number : ℕ) → event_rules (run_of (line_with plan time count long table) words) e [] ≡ number → (number ≡ 0 → ⊥)
      → (seats (line_with plan time count long table) i (record { answer = number; station = s; count = count })
      ≡ ruled (line_with plan time count long table) words e [])
      × (words ≡ ruled_words (line_with plan time count long table) words e [])
  lies-no e number q z =
      let l : Line = line_with plan time count long table in
      let no = comes-no l words (effect (run_of l words) e []) (event_rules (run_of l words) e []) number q z in
      (seats-same l i s number h.low h.here ∙ no.0, no.1)

-- ---- deliver

-- as the code comes to it
module _ (plan : Plan) (time : Moment) (count : ℕ) (s : Station) (words : List ℕ) (x : Names) (at : ℕ)
    (e : at ≡ pick (holds count words) (index_of x (decode count words)) count) where
  -- 16
  pub does-none : at ≡ count → Does plan time count x.recipient s words (deliver_of x) (record { answer = 16; station = s; count = count }) words
  does-none z = record {
    each = λ long table h.
        lies-no h (deliver_of x) 16 (deliver-none (line_with plan time count long table) words h.held x at e z) (λ q. omega arith);
  }

  module _ (ne : at ≡ count → ⊥) (m : Message) (em : m ≡ message_at words at) (o : Outcome)
      (eo : o ≡ pick (small plan s) (hear plan x.round m.signers s) (still s)) where
    pub does-below : Stands plan time count x.recipient s words → at < count
    does-below st =
        let h = st.lies in
        found_below (line_with plan time count st.long st.table) words h.held x at e ne m em o (lies-heard h x.round m.signers o eo) h.low

    -- 19
    pub does-full : max_flight < count - 1 + sent_by plan x.recipient o
        → Does plan time count x.recipient s words (deliver_of x) (record { answer = 19; station = s; count = count }) words
    does-full b = record {
      each = λ long table h.
          lies-no h (deliver_of x) 19
          (deliver-full (line_with plan time count long table) words h.held x at e ne m em o (lies-heard h x.round m.signers o eo) h.low b)
          (λ q. omega arith);
    }

    module _ (few : count - 1 + sent_by plan x.recipient o ≤ max_flight) (left : ℕ) (w : List ℕ)
        (el : left ≡ (answer (can_take count words at) count (without at (decode count words))).count)
        (ew : w ≡ after (can_take count words at) words (without at (decode count words))) where
      pub does-room : Stands plan time count x.recipient s words → 3 * (left + sent_by plan x.recipient o) ≤ length w
      does-room st =
          let h = st.lies in
          rw el
          (deliver-room (line_with plan time count st.long st.table) words h.held x at e ne m em o (lies-heard h x.round m.signers o eo)
          h.low few _ w refl ew)

      -- accepted
      pub does-comes : ((j : ℕ) → get_or words j 0 < 2 ^ 64) → (then : ℕ) (v : List ℕ) → then ≡ left + sent_by plan x.recipient o
          → v ≡ coded w (decode left w ++ sends plan time.0 x.recipient (s.round + 1) o)
          → Does plan time count x.recipient s words (deliver_of x) (record { answer = 0; station = o.station; count = then }) v
      does-comes fits then v et ev = record {
        each = λ long table h.
            let l : Line = line_with plan time count long table in
            let gone : Answer = answer (can_take count words at) count (without at (decode count words)) in
            let ev2 : v ≡ coded w (decode gone.count w ++ sends plan time.0 x.recipient (s.round + 1) o) = ev ∙ rw el refl in
            let et2 : then ≡ gone.count + sent_by plan x.recipient o = et ∙ rw el refl in
            let placed-is = take-placed l w gone.count x.recipient o s then v h.here et2 ev2 in
            deliver-comes l words h.held x at e ne m em o (lies-heard h x.round m.signers o eo) h.low few gone w refl ew fits _ v
            placed-is.0 placed-is.1;
      }

-- ---- faulty send

-- as the code comes to it
module _ (plan : Plan) (time : Moment) (count : ℕ) (s : Station) (signed words : List ℕ) (sender recipient round signers : ℕ) where
  -- 17
  pub does-sound : has plan.faulty sender ≡ false
      → DoesBy signed plan time count recipient s words (Send sender recipient round signers) (record { answer = 17; station = s; count = count }) words
  does-sound q = record {
    each = λ long table h n.
        lies-no h (Send sender recipient round signers) 17
        (send-sound (line_with plan time count long table) words h.held sender recipient round signers q) (λ z. omega arith);
  }

  module _ (q : has plan.faulty sender ≡ true) (late : Bool)
      (el : late ≡ (eqb round (s.round + 1) && some_station (unsigned_by plan signed round signers) plan.stations)) where
    late_is : {long : ℕ} {table : List Station} → Lies plan time count recipient s words long table → Noted (line_with plan time count long table) signed
        → late ≡ unsigned (run_of (line_with plan time count long table) words) recipient round signers
    late_is {long} {table} h n =
        let l : Line = line_with plan time count long table in
        el
        ∙ unsigned_is l words h.held sender recipient round signers s (some_station (unsigned_by plan signed round signers) plan.stations) h.here
        (unsigned_by_lem l signed round signers n plan.stations (omega arith))

    -- 18
    pub does-unsigned : late ≡ true
        → DoesBy signed plan time count recipient s words (Send sender recipient round signers) (record { answer = 18; station = s; count = count }) words
    does-unsigned u = record {
      each = λ long table h n.
          lies-no h (Send sender recipient round signers) 18
          (send-unsigned (line_with plan time count long table) words h.held sender recipient round signers q (sym (late_is h n) ∙ u)) (λ z. omega arith);
    }

    module _ (u : late ≡ false) (o : Outcome) (eo : o ≡ pick (small plan s) (hear plan round signers s) (still s)) where
      -- 19
      pub does-filled : max_flight < count + sent_by plan recipient o
          → DoesBy signed plan time count recipient s words (Send sender recipient round signers) (record { answer = 19; station = s; count = count }) words
      does-filled b = record {
        each = λ long table h n.
            lies-no h (Send sender recipient round signers) 19
            (send-full (line_with plan time count long table) words h.held sender recipient round signers q (sym (late_is h n) ∙ u) o
            (lies-heard h round signers o eo) b)
            (λ z. omega arith);
      }

      -- accepted
      pub does-sent : count + sent_by plan recipient o ≤ max_flight → (then : ℕ) (v : List ℕ) → then ≡ count + sent_by plan recipient o
          → v ≡ coded words (decode count words ++ sends plan time.0 recipient (s.round + 1) o)
          → DoesBy signed plan time count recipient s words (Send sender recipient round signers) (record { answer = 0; station = o.station; count = then }) v
      does-sent few then v et ev = record {
        each = λ long table h n.
            let l : Line = line_with plan time count long table in
            let placed-is = take-placed l words count recipient o s then v h.here et ev in
            send-comes l words h.held sender recipient round signers q (sym (late_is h n) ∙ u) o (lies-heard h round signers o eo) h.low few _ v
            placed-is.0 placed-is.1;
      }
