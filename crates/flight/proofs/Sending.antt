-- Laws of sending to many: how many are sent, that there is room for each, and what one station's turn adds to the words.
use Rattle.std.specs.Prelude.{Option, None, Some, unwrap_or, ℕ, zero, suc, ◌+◌, ◌*◌, ◌-◌, ◌/◌, ◌%◌, ◌^◌, ◌<◌, ◌≤◌, Bool, true, false, ◌&&◌, ◌≡◌, eqb, length}
use mathlib.Core.List.{List, [], ◌∷◌, ◌++◌, append_assoc, append-nil}
use Rattle.std.proofs.Math.Path.{refl, sym}
use Rattle.std.proofs.Common.{ap, ap₂, ◌∙◌, arith, add-one, length-append}
use Rattle.std.proofs.Math.Decide.{dec_lt}
use Rattle.std.proofs.Math.Pow.{field, mod-mod-pow}
use Rattle.clock.specs.Pick.{pick}
use Rattle.mask.specs.Mask.{has, count}
use Rattle.mask.proofs.Laws.{count-below, count_most, count_same}
use Rattle.flight.specs.declared.Message.{Message}
use Rattle.flight.specs.Message.{answer_of, packed, packs, key_of, names_of, decode, coded, stored, holds, Codable, toward, sent_to, can_send}
use Rattle.flight.specs.Members.{All, all-sent_to, length-sent_to}
use Rattle.flight.proofs.Coding.{length-decode, length-coded, coded-decode, stored-end}
use Rattle.flight.specs.Keys.{Packs}
use Rattle.flight.proofs.Keys.{true-packs, holds-true, holds-false}

-- ---- how many are sent

-- the stations below n of a mask are those of its lowest n bits
pub has-low : (mask n i : ℕ) → i < n → has (mask % 2 ^ n) i ≡ has mask i
unfolding has
has-low mask n i h = go (n - i - 1) (omega arith)
  where
    go : (j : ℕ) → n ≡ (j + 1) + i → eqb (mask % 2 ^ n / 2 ^ i % 2) 1 ≡ eqb (mask / 2 ^ i % 2) 1
    go j e =
        rw e (ap (λ (x : ℕ). eqb (x % 2) 1) (field mask (j + 1) i) ∙ ap (λ (x : ℕ). eqb x 1) (mod-mod-pow (mask / 2 ^ i) j 1))

-- a message goes to as many stations as the lowest twelve bits of the mask have
pub count-sent : (m : Message) (mask : ℕ) → count (mask % 4096) ≡ length (sent_to m 12 mask)
count-sent m mask =
    count-below (mask % 4096) 12 (omega arith) (omega arith)
    ∙ count_same 12 (has (mask % 4096)) (has mask) (λ i h. has-low mask 12 i h)
    ∙ sym (length-sent_to m 12 mask)

-- at most twelve
pub count-few : (mask : ℕ) → count (mask % 4096) ≤ 12
count-few mask =
    omega (arith, count-below (mask % 4096) 12 (omega arith) (omega arith), count_most 12 (has (mask % 4096)))

-- no more go to the stations below k than to those below n
pub sent-most : (m : Message) (mask n k : ℕ) → k ≤ n → length (sent_to m k mask) ≤ length (sent_to m n mask)
unfolding sent_to
sent-most m mask zero k h = let e : k ≡ 0 = omega arith in rw e (omega arith)
sent-most m mask (suc n) k h = go (dec_lt n k) (sent-most m mask n k)
  where
    go : Dec (n < k) → (k ≤ n → length (sent_to m k mask) ≤ length (sent_to m n mask)) → length (sent_to m k mask) ≤ length (sent_to m (suc n) mask)
    go (yes b) rest = let e : k ≡ suc n = omega arith in rw e (omega arith)
    go (no b) rest =
        let r = rest (omega arith) in
        omega (arith, length-append (sent_to m n mask) (pick (has mask n) (toward m n ∷ []) []))

-- ---- one station's turn

-- the number of messages after it
pub turn-count : (m : Message) (mask k : ℕ) → pick (has mask k) (length (sent_to m k mask) + 1) (length (sent_to m k mask)) ≡ length (sent_to m (suc k) mask)
unfolding sent_to
turn-count m mask k = go (has mask k) ∙ sym (length-append (sent_to m k mask) (pick (has mask k) (toward m k ∷ []) []))
  where
    go : (b : Bool) → pick b (length (sent_to m k mask) + 1) (length (sent_to m k mask)) ≡ length (sent_to m k mask) + length (pick b (toward m k ∷ []) [])
    go true = omega arith
    go false = omega arith

-- the first word of the message to station k is that of the message to station 0, and k
pub key-toward : (m : Message) (k : ℕ) → packed (names_of (toward m 0)) + k ≡ key_of (toward m k)
unfolding packed
key-toward m k = omega arith

-- and it fits a word
pub key_fits : (m : Message) (k : ℕ) → Packs m.sender m.round m.kind → k < 16 → packed (names_of (toward m 0)) + k < 2 ^ 64
unfolding packed
key_fits m k p h = let a = p.sender in let b = p.round in let d = p.kind in omega arith

module _ (l : List ℕ) (n : ℕ) (m : Message) (mask : ℕ) (fits : 3 * (n + length (sent_to m 12 mask)) ≤ length l) where
  -- the words so far are as many as at first
  pub turn-length : (k : ℕ) → k ≤ 12 → length (coded l (decode n l ++ sent_to m k mask)) ≡ length l
  turn-length k h =
      length-coded l (decode n l ++ sent_to m k mask)
      (omega (arith, length-append (decode n l) (sent_to m k mask), length-decode n l, sent-most m mask 12 k h))

  -- there is room for a station that is in the mask
  pub turn-room : (k : ℕ) → k < 12 → has mask k ≡ true → 3 * (n + length (sent_to m k mask)) + 2 < length l
  turn-room k h e =
      let s : length (sent_to m k mask) + 1 ≡ length (sent_to m (suc k) mask) =
      sym (ap (λ (b : Bool). pick b (length (sent_to m k mask) + 1) (length (sent_to m k mask))) e) ∙ turn-count m mask k in
      omega (arith, sent-most m mask 12 (suc k) h)

  -- the words after it
  pub turn-words : (k : ℕ) → k < 12
      → pick (has mask k)
      (stored (coded l (decode n l ++ sent_to m k mask)) (3 * (n + length (sent_to m k mask))) (packed (names_of (toward m 0)) + k) m.signers m.sent.0)
      (coded l (decode n l ++ sent_to m k mask))
      ≡ coded l (decode n l ++ sent_to m (suc k) mask)
  unfolding sent_to
  turn-words k h = go (has mask k) refl
    where
      ms : List Message
      ms = decode n l ++ sent_to m k mask

      len : length ms ≡ n + length (sent_to m k mask)
      len = length-append (decode n l) (sent_to m k mask) ∙ omega (arith, length-decode n l)

      go : (b : Bool) → has mask k ≡ b
          → pick b (stored (coded l ms) (3 * (n + length (sent_to m k mask))) (packed (names_of (toward m 0)) + k) m.signers m.sent.0) (coded l ms)
          ≡ coded l (decode n l ++ (sent_to m k mask ++ pick b (toward m k ∷ []) []))
      go true e =
          let r = turn-room k h e in
          ap₂ (λ (at key : ℕ). stored (coded l ms) (3 * at) key m.signers m.sent.0) (sym len) (key-toward m k)
          ∙ stored-end l ms (toward m k) (omega (arith, len))
          ∙ ap (coded l) (append_assoc (decode n l) (sent_to m k mask) (toward m k ∷ []))
      go false e = ap (λ (t : List Message). coded l (decode n l ++ t)) (sym (append-nil (sent_to m k mask)))

  -- before the first turn
  pub turn-start : l ≡ coded l (decode n l ++ sent_to m 0 mask)
  unfolding sent_to
  turn-start = sym (ap (coded l) (append-nil (decode n l)) ∙ coded-decode n l (omega arith))

  -- a turn from words, a number of messages, a first word and a test that are equal to these
  module _ (k : ℕ) (h : k < 12) {w : List ℕ} {at key : ℕ} {go : Bool} (ew : w ≡ coded l (decode n l ++ sent_to m k mask))
      (ea : at ≡ n + length (sent_to m k mask)) (ek : key ≡ packed (names_of (toward m 0))) (eg : go ≡ has mask k) where
    pub turn-fits : go ≡ true → 3 * at + 2 < length w
    turn-fits e =
        let r = turn-room k h (sym eg ∙ e) in
        omega (arith, ap length ew, turn-length k (omega arith))

    pub turn-number : pick go (at + 1) at ≡ n + length (sent_to m (k + 1) mask)
    turn-number = rw (add-one k, ← turn-count m mask k, eg, ea) (each (has mask k))
      where
        each : (b : Bool) → pick b (n + length (sent_to m k mask) + 1) (n + length (sent_to m k mask)) ≡ n + pick b (length (sent_to m k mask) + 1) (length (sent_to m k mask))
        each true = omega arith
        each false = refl

    pub turn-done : pick go (stored w (3 * at) (key + k) m.signers m.sent.0) w ≡ coded l (decode n l ++ sent_to m (k + 1) mask)
    turn-done = rw (add-one k, eg, ew, ea, ek) (turn-words k h)

-- ---- which message can be sent

pub send-unpackable : (n : ℕ) (l : List ℕ) (m : Message) (k mask : ℕ) → packs m.sender m.round m.kind ≡ false → can_send n l m k mask ≡ false
unfolding can_send
send-unpackable n l m k mask e = rw e refl

pub send-no-room : (n : ℕ) (l : List ℕ) (m : Message) (k mask : ℕ) → length l / 3 < n → can_send n l m k mask ≡ false
unfolding can_send
send-no-room n l m k mask h =
    let e = holds-false (n + length (sent_to m k mask)) l (omega arith) in
    rw e (go (packs m.sender m.round m.kind))
  where
    go : (b : Bool) → (b && false) ≡ false
    go true = refl
    go false = refl

pub send-too-many : (n : ℕ) (l : List ℕ) (m : Message) (mask many : ℕ) → packs m.sender m.round m.kind ≡ true → many ≡ count (mask % 4096)
    → length l / 3 < n + many → can_send n l m 12 mask ≡ false
unfolding can_send
send-too-many n l m mask many e c h =
    let r = holds-false (n + length (sent_to m 12 mask)) l (omega (arith, count-sent m mask)) in
    rw (e, r) refl

pub send-can : (n : ℕ) (l : List ℕ) (m : Message) (mask many : ℕ) → packs m.sender m.round m.kind ≡ true → many ≡ count (mask % 4096)
    → n + many ≤ length l / 3 → can_send n l m 12 mask ≡ true
unfolding can_send
send-can n l m mask many e c h =
    let r = holds-true (n + length (sent_to m 12 mask)) l (omega (arith, count-sent m mask)) in
    rw (e, r) refl

-- names that a word packs, and room for all
pub send-allowed : (n : ℕ) (l : List ℕ) (m : Message) (k mask : ℕ) → Packs m.sender m.round m.kind
    → holds (n + length (sent_to m k mask)) l ≡ true → can_send n l m k mask ≡ true
unfolding can_send
send-allowed n l m k mask p h = let e = true-packs p in rw (e, h) refl

-- ---- messages sent are such as words hold

pub codable-sent : (m : Message) (mask : ℕ) → Packs m.sender m.round m.kind → m.signers < 2 ^ 64 → m.sent.0 < 2 ^ 64
    → All Codable (sent_to m 12 mask)
codable-sent m mask p g f =
    all-sent_to m 12 mask
    (λ k h _. record { sender = p.sender; recipient = omega arith; round = p.round; kind = p.kind; signers = g; sent = f })

-- ---- answers

-- the number of messages then
pub count-answer_of : (n : ℕ) (r : Option ℕ) → (answer_of n r).count ≡ unwrap_or r n
count-answer_of n (Some k) = refl
count-answer_of n None = refl
