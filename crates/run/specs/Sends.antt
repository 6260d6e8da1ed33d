-- What a station sends, as the code sends it: its ready to a mask and its relay to a mask, an empty mask where there is none.
-- One send after the other is followed by what the words then hold.
use Rattle.std.specs.Prelude.{ℕ, zero, suc, ◌+◌, ◌*◌, ◌%◌, ◌^◌, ◌<◌, ◌≤◌, Bool, true, false, ◌&&◌, not, ◌≡◌, eqb, length, get_or}
use mathlib.Core.List.{List, [], ◌++◌, append_assoc, append-nil}
use Rattle.std.proofs.Math.Path.{refl, sym}
use Rattle.std.proofs.Common.{ap, ◌∙◌, length-append}
use native.Mathlib.Omega.{arith}
use borrow.Author.Tests.{eqb-true, not-true, le-leb}
use Rattle.clock.specs.Pick.{pick}
use Rattle.clock.specs.Tests.{both}
use Rattle.mask.specs.Mask.{count}
use Rattle.mask.proofs.Laws.{has-below, only-lt}
use Rattle.setup.specs.declared.Plan.{Plan}
use Rattle.station.specs.declared.Outcome.{Outcome}
use Rattle.flight.specs.declared.Message.{Message}
use Rattle.flight.specs.Message.{Answer, decode, coded, holds, Codable, sent_to, can_send, answer, after}
use Rattle.flight.proofs.Coding.{length-decode, coded-decode, decode-codable, Laid, laid-decode, laid-length, laid-over}
use Rattle.flight.specs.Members.{All, all_append}
use Rattle.flight.proofs.Sending.{count-sent, count-few, codable-sent, send-allowed}
use Rattle.line.specs.Run.{others, ready_of, relay_of, sends}

-- how many messages station i sends to the others when it has done this
unfoldable pub sent_by : Plan → ℕ → Outcome → ℕ
sent_by plan i o =
    pick o.ready (count (others plan i % 4_096)) 0 + pick (not (eqb o.relay 0)) (count (others plan i % 4_096)) 0

-- a part is at most the whole
pub part-most : (b : Bool) (many x : ℕ) → x ≡ pick b many 0 → x ≤ many
part-most true many x e = omega arith
part-most false many x e = omega arith

-- at most twelve each
pub sent-few : (plan : Plan) (i : ℕ) (o : Outcome) → sent_by plan i o ≤ 24
unfolding sent_by
sent-few plan i o =
    omega (
      arith,
      count-few (others plan i),
      part-most o.ready (count (others plan i % 4_096)) _ refl,
      part-most (not (eqb o.relay 0)) (count (others plan i % 4_096)) _ refl,
    )

-- none where it did neither
pub sent-quiet : (plan : Plan) (i : ℕ) (o : Outcome) → (not o.ready && eqb o.relay 0) ≡ true → 0 ≡ sent_by plan i o
unfolding sent_by
sent-quiet plan i o e =
    let b = both (not o.ready) (eqb o.relay 0) e in
    rw (not-true o.ready b.0, b.1) refl

-- words hold their names, and there is room for them behind `count` messages
pub record Room (words : List ℕ) (count : ℕ) (plan : Plan) (time i round : ℕ) (o : Outcome) : Type 0 where
  pub place : i < 12
  pub low : round < 2 ^ 55
  pub fits : time < 2 ^ 64
  pub room : 3 * (count + sent_by plan i o) ≤ length words

-- to no station nothing is sent
sent-none : (m : Message) (k : ℕ) → sent_to m k 0 ≡ []
unfolding sent_to
sent-none m zero = refl
sent-none m (suc k) = rw (has-below 0 0 k (omega arith) (omega arith), sent-none m k) refl

-- what is sent to a mask that a test chooses
sent-where : (m : Message) (b : Bool) (mask : ℕ) → sent_to m 12 (pick b mask 0) ≡ pick b (sent_to m 12 mask) []
sent-where m true mask = refl
sent-where m false mask = sent-none m 12

-- and how many that is
sent-many : (m : Message) (b : Bool) (mask : ℕ) → length (sent_to m 12 (pick b mask 0)) ≡ pick b (count (mask % 4_096)) 0
sent-many m true mask = sym (count-sent m mask)
sent-many m false mask = rw (sent-none m 12) refl

turned : {A : Type 0} (b : Bool) (x y : A) → pick (not b) x y ≡ pick b y x
turned true x y = refl
turned false x y = refl

module _ (plan : Plan) (time i k : ℕ) (o : Outcome) where
  -- its readies and its relays
  abbrev readies : List Message
  readies = sent_to (ready_of time i k) 12 (pick o.ready (others plan i) 0)

  abbrev relays : List Message
  relays = sent_to (relay_of time i k o.relay) 12 (pick (not (eqb o.relay 0)) (others plan i) 0)

  -- together they are what it sends
  pub sends-masks : readies ++ relays ≡ sends plan time i k o
  unfolding sends
  sends-masks =
      rw (
        sent-where (ready_of time i k) o.ready (others plan i),
        sent-where (relay_of time i k o.relay) (not (eqb o.relay 0)) (others plan i),
        turned (eqb o.relay 0) (sent_to (relay_of time i k o.relay) 12 (others plan i)) [],
      ) refl

  -- so many
  many-masks : length readies + length relays ≡ sent_by plan i o
  unfolding sent_by
  many-masks =
      rw (
        sent-many (ready_of time i k) o.ready (others plan i),
        sent-many (relay_of time i k o.relay) (not (eqb o.relay 0)) (others plan i),
      ) refl

  pub length-sends : length (sends plan time i k o) ≡ sent_by plan i o
  length-sends = rw (← sends-masks) (length-append readies relays ∙ many-masks)

  -- words hold each of them
  pub codable-sends : i < 12 → k < 2 ^ 55 → time < 2 ^ 64 → o.relay < 2 ^ 64 → All Codable (sends plan time i k o)
  codable-sends place low fits s =
      rw (← sends-masks)
      (all_append
      (codable-sent (ready_of time i k) (pick o.ready (others plan i) 0)
      (record { sender = omega (arith, place); round = low; kind = omega arith }) (omega (arith, only-lt i 12 place)) fits)
      (codable-sent (relay_of time i k o.relay) (pick (not (eqb o.relay 0)) (others plan i) 0)
      (record { sender = omega (arith, place); round = low; kind = omega arith }) s fits))

  -- where there is neither a ready nor a relay nothing is sent, and the words stay as they are
  pub sends_none : (words : List ℕ) (n : ℕ) → Room words n plan time i k o → (not o.ready && eqb o.relay 0) ≡ true
      → (n ≡ n + sent_by plan i o) × (words ≡ coded words (decode n words ++ sends plan time i k o))
  unfolding sent_by sends
  sends_none words n r e =
      let b = both (not o.ready) (eqb o.relay 0) e in
      let f = not-true o.ready b.0 in
      let g = eqb-true o.relay 0 b.1 in
      rw (f, g, append-nil (decode n words)) (omega arith, sym (coded-decode n words (omega (arith, r.room))))

  module _ (words : List ℕ) (n : ℕ) (r : Room words n plan time i k o) (fits : (j : ℕ) → get_or words j 0 < 2 ^ 64)
      (s : o.relay < 2 ^ 64) where
    -- what stands after its readies
    abbrev standing : List Message
    standing = decode n words ++ readies

    many : length standing ≡ n + length readies
    many = length-append (decode n words) readies ∙ omega (arith, length-decode n words)

    first-can : can_send n words (ready_of time i k) 12 (pick o.ready (others plan i) 0) ≡ true
    unfolding holds
    first-can =
        send-allowed n words (ready_of time i k) 12 (pick o.ready (others plan i) 0)
        (record { sender = omega (arith, r.place); round = r.low; kind = omega arith })
        (le-leb _ (length words) (omega (arith, r.room, many-masks)))

    laid : Laid words (coded words standing) standing
    laid = record {
      words = refl;
      room = omega (arith, many, r.room, many-masks);
      codable = all_append (decode-codable n words fits)
          (codable-sent (ready_of time i k) (pick o.ready (others plan i) 0)
          (record { sender = omega (arith, r.place); round = r.low; kind = omega arith })
          (omega (arith, only-lt i 12 r.place)) r.fits);
    }

    second-can : can_send (length standing) (coded words standing) (relay_of time i k o.relay) 12
        (pick (not (eqb o.relay 0)) (others plan i) 0) ≡ true
    unfolding holds
    second-can =
        send-allowed (length standing) (coded words standing) (relay_of time i k o.relay) 12
        (pick (not (eqb o.relay 0)) (others plan i) 0)
        (record { sender = omega (arith, r.place); round = r.low; kind = omega arith })
        (le-leb _ (length (coded words standing)) (omega (arith, many, r.room, many-masks, laid-length laid)))

    -- after both sends, so many messages stand
    second-count : length (decode (length standing) (coded words standing) ++ relays) ≡ n + sent_by plan i o
    second-count =
        length-append (decode (length standing) (coded words standing)) relays
        ∙ omega (arith, length-decode (length standing) (coded words standing), many, many-masks)

    -- and the words are those at first with all that was sent behind the others
    second-words : coded (coded words standing) (decode (length standing) (coded words standing) ++ relays)
        ≡ coded words (decode n words ++ sends plan time i k o)
    second-words =
        ap (λ (ms : List Message). coded (coded words standing) (ms ++ relays)) (laid-decode laid)
        ∙ laid-over laid (standing ++ relays) (omega (arith, length-append standing relays))
        ∙ ap (coded words) (append_assoc (decode n words) readies relays ∙ ap (λ (ms : List Message). decode n words ++ ms) sends-masks)

    -- the two sends as the code makes them
    pub both-sends : (ready : Message) (to more : ℕ) (a b : Answer) (w x : List ℕ) → to ≡ pick o.ready (others plan i) 0
        → more ≡ pick (not (eqb o.relay 0)) (others plan i) 0
        → a ≡ answer (can_send n words ready 12 to) n (decode n words ++ sent_to ready 12 to)
        → w ≡ after (can_send n words ready 12 to) words (decode n words ++ sent_to ready 12 to)
        → b ≡ answer (can_send a.count w (relay_of time i k o.relay) 12 more) a.count
        (decode a.count w ++ sent_to (relay_of time i k o.relay) 12 more)
        → x ≡ after (can_send a.count w (relay_of time i k o.relay) 12 more) w
        (decode a.count w ++ sent_to (relay_of time i k o.relay) 12 more)
        → ready ≡ ready_of time i k
        → (b.count ≡ n + sent_by plan i o) × (x ≡ coded words (decode n words ++ sends plan time i k o))
    both-sends ready to more a b w x et em ea ew eb ex er =
        let can = first-can in
        let fa : a ≡ record { done = true; count = length standing } = rw (er, et, can) at ea in
        let fw : w ≡ coded words standing = rw (er, et, can) at ew in
        let go = second-can in
        let fb : b ≡ record { done = true; count = length (decode (length standing) (coded words standing) ++ relays) } =
        rw (em, fa, fw, go) at eb in
        let fx : x ≡ coded (coded words standing) (decode (length standing) (coded words standing) ++ relays) = rw (em, fa, fw, go) at ex in
        (ap (λ (z : Answer). z.count) fb ∙ second-count, fx ∙ second-words)
