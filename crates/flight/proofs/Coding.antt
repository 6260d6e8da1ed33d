-- Laws of the coding: a decoded list by its length and places, what coding and decoding give back, and what a store of three
-- words does to the list. The words of a coded list are its own words and then the old ones, so each law is one of `++`.
use Rattle.std.specs.Prelude.{ℕ, zero, suc, ◌+◌, ◌*◌, ◌-◌, ◌/◌, ◌%◌, ◌^◌, ◌<◌, ◌≤◌, true, List, [], ◌∷◌, ◌++◌, ◌≡◌, refl, leb, get_or, take, drop, set}
use Rattle.std.proofs.Common.{append_assoc, ap₂, sym, ◌∙◌, arith, length-drop, length-set, take-append-drop, drop-drop, drop-cons, take_at, take-suc}
use Rattle.std.proofs.Math.Path.{ap}
use Rattle.std.proofs.Math.Decide.{dec_lt}
use Rattle.std.proofs.Math.Arith.{digits_div, digits_mod}
use Rattle.std.proofs.Math.ListN.{length, length-append, get_or-append}
use Rattle.std.proofs.Math.Seq.{drop-append-add, take-set-lt}
use Rattle.std.proofs.lemmas.List.{set-get_or, get_or_at, take-set-le}
use borrow.Author.Tests.{leb-true}
use Rattle.flight.specs.declared.Message.{Message}
use Rattle.flight.specs.Message.{packed, key_of, message_of, message_at, decode, words_of, coded, stored, holds, Codable, no_message, without}
use Rattle.flight.specs.Members.{All, no_member, also, all_append, all_without, length_without}

-- ---- one message

-- packing what was unpacked
pub key-of : (key signers sent : ℕ) → key_of (message_of key signers sent) ≡ key
unfolding packed message_of
key-of key signers sent = omega arith

-- quotients and remainders of a number whose digits are known
div_is : {x : ℕ} (q m r : ℕ) → x ≡ q * m + r → r < m → x / m ≡ q
div_is q m r e h = ap (λ (y : ℕ). y / m) e ∙ digits_div q h

mod-is : {x : ℕ} (q m r : ℕ) → x ≡ q * m + r → r < m → x % m ≡ r
mod-is q m r e h = ap (λ (y : ℕ). y % m) e ∙ digits_mod q h

-- the names of a number that packs them
pub record Unpacks (key s r o k : ℕ) : Type 0 where
  pub sender : key / 16 % 16 ≡ s
  pub recipient : key % 16 ≡ r
  pub round : key / 512 ≡ o
  pub kind : key / 256 % 2 ≡ k

pub unpacks : (s r o k : ℕ) → s < 16 → r < 16 → k < 2 → Unpacks (o * 512 + k * 256 + s * 16 + r) s r o k
unpacks s r o k hs hr hk =
    record {
      sender = mod-is (o * 2 + k) 16 s (div_is (o * 32 + k * 16 + s) 16 r (omega arith) hr ∙ omega arith) hs;
      recipient = mod-is (o * 32 + k * 16 + s) 16 r (omega arith) hr;
      round = div_is o 512 (k * 256 + s * 16 + r) (omega arith) (omega arith);
      kind = mod-is o 2 k (div_is (o * 2 + k) 256 (s * 16 + r) (omega arith) (omega arith)) hk;
    }

-- unpacking what was packed
pub message-of : (m : Message) → Codable m → message_of (key_of m) m.signers m.sent.0 ≡ m
unfolding packed message_of
message-of m h =
    let u = unpacks m.sender m.recipient m.round m.kind h.sender h.recipient h.kind in
    let s = u.sender in
    let r = u.recipient in
    let o = u.round in
    let k = u.kind in
    rw (s, r, o, k) refl

-- the message of three words that fit is one that three words hold
pub codable-of : (key signers sent : ℕ) → key < 2 ^ 64 → signers < 2 ^ 64 → sent < 2 ^ 64 → Codable (message_of key signers sent)
unfolding message_of
codable-of key signers sent h g f =
    record { sender = omega arith; recipient = omega arith; round = omega arith; kind = omega arith; signers = g; sent = f }

-- ---- a decoded list

pub length-decode : (n : ℕ) (l : List ℕ) → length (decode n l) ≡ n
unfolding decode
length-decode zero l = refl
length-decode (suc n) l = length-append (decode n l) (message_at l n ∷ []) ∙ omega (arith, length-decode n l)

-- its i-th message
pub decode-at : (n : ℕ) (l : List ℕ) (i : ℕ) (d : Message) → i < n → get_or (decode n l) i d ≡ message_at l i
unfolding decode
decode-at zero l i d h = absurd (omega arith)
decode-at (suc n) l i d h = go (dec_lt i n) (decode-at n l i d)
  where
    go : Dec (i < n) → (i < n → get_or (decode n l) i d ≡ message_at l i) → get_or (decode n l ++ (message_at l n ∷ [])) i d ≡ message_at l i
    go (yes b) rest = get_or-append (decode n l) (message_at l n ∷ []) d i (omega (arith, length-decode n l)) ∙ rest b
    go (no b) rest =
        let e : i ≡ n = omega arith in
        rw e (get_or_at (decode n l) (message_at l n) [] d n (length-decode n l))

-- all of its messages are such as three words hold
pub decode-codable : (n : ℕ) (l : List ℕ) → ((i : ℕ) → get_or l i 0 < 2 ^ 64) → All Codable (decode n l)
unfolding decode message_at
decode-codable zero l f = no_member
decode-codable (suc n) l f =
    all_append (decode-codable n l f) (also (codable-of _ _ _ (f (3 * n)) (f (3 * n + 1)) (f (3 * n + 2))) no_member)

-- the first message, and those of the other words
decode-first : (n : ℕ) (a b c : ℕ) (l : List ℕ) → decode (suc n) (a ∷ b ∷ c ∷ l) ≡ message_of a b c ∷ decode n l
unfolding decode message_at
decode-first zero a b c l = refl
decode-first (suc n) a b c l =
    let e : 3 * suc n ≡ suc (suc (suc (3 * n))) = omega arith in
    let f : 3 * suc n + 1 ≡ suc (suc (suc (3 * n + 1))) = omega arith in
    let g : 3 * suc n + 2 ≡ suc (suc (suc (3 * n + 2))) = omega arith in
    rw (f, g, e) (ap (λ (ms : List Message). ms ++ (message_at l n ∷ [])) (decode-first n a b c l))

-- ---- a coded list

pub length-words : (ms : List Message) → length (words_of ms) ≡ 3 * length ms
unfolding words_of
length-words [] = refl
length-words (m ∷ ms) = omega (arith, length-words ms)

words_append : (a b : List Message) → words_of (a ++ b) ≡ words_of a ++ words_of b
unfolding words_of
words_append [] b = refl
words_append (m ∷ a) b = ap (λ (t : List ℕ). key_of m ∷ m.signers ∷ m.sent.0 ∷ t) (words_append a b)

-- the words keep their number
pub length-coded : (l : List ℕ) (ms : List Message) → 3 * length ms ≤ length l → length (coded l ms) ≡ length l
unfolding coded
length-coded l ms h = simp (length-append, length-drop, length-words) (omega arith)

-- what is laid over no fewer messages is what is laid over the words below them
pub coded-over : (l : List ℕ) (a b : List Message) → length a ≤ length b → coded (coded l a) b ≡ coded l b
unfolding coded
coded-over l a b h = ap (λ (t : List ℕ). words_of b ++ t) (go (3 * (length b - length a)) (omega arith))
  where
    go : (k : ℕ) → 3 * length b ≡ 3 * length a + k → drop (3 * length b) (words_of a ++ drop (3 * length a) l) ≡ drop (3 * length b) l
    go k e =
        rw e (ap (λ (n : ℕ). drop (n + k) (words_of a ++ drop (3 * length a) l)) (sym (length-words a))
        ∙ drop-append-add (words_of a) (drop (3 * length a) l) k
        ∙ drop-drop k (3 * length a) l)

words-decode : (n : ℕ) (l : List ℕ) → 3 * n ≤ length l → words_of (decode n l) ≡ take (3 * n) l
unfolding decode words_of message_at message_of
words-decode zero l h = refl
words-decode (suc n) l h =
    let a : 3 * suc n ≡ suc (suc (suc (3 * n))) = omega arith in
    let b : 3 * n + 1 ≡ suc (3 * n) = omega arith in
    let c : 3 * n + 2 ≡ suc (suc (3 * n)) = omega arith in
    words_append (decode n l) (message_at l n ∷ [])
    ∙ ap₂ ◌++◌ (words-decode n l (omega arith)) (ap (λ (k : ℕ). k ∷ get_or l (3 * n + 1) 0 ∷ get_or l (3 * n + 2) 0 ∷ []) (key-of (get_or l (3 * n) 0) (get_or l (3 * n + 1) 0) (get_or l (3 * n + 2) 0)))
    ∙ rw (a, b, c) (sym (three (3 * n) (omega arith)))
  where
    three : (j : ℕ) → j + 2 < length l → take (suc (suc (suc j))) l ≡ take j l ++ (get_or l j 0 ∷ get_or l (suc j) 0 ∷ get_or l (suc (suc j)) 0 ∷ [])
    three j g =
        take-suc l (suc (suc j)) 0 (omega arith)
        ∙ ap (λ (t : List ℕ). t ++ (get_or l (suc (suc j)) 0 ∷ []))
        (take-suc l (suc j) 0 (omega arith) ∙ ap (λ (t : List ℕ). t ++ (get_or l (suc j) 0 ∷ [])) (take-suc l j 0 (omega arith)))
        ∙ simp append_assoc

-- coding what was decoded changes nothing
pub coded-decode : (n : ℕ) (l : List ℕ) → 3 * n ≤ length l → coded l (decode n l) ≡ l
unfolding coded
coded-decode n l h =
    ap₂ (λ (t : List ℕ) (k : ℕ). t ++ drop (3 * k) l) (words-decode n l h) (length-decode n l) ∙ take-append-drop (3 * n) l

decode-words : {ms : List Message} (t : List ℕ) → All Codable ms → decode (length ms) (words_of ms ++ t) ≡ ms
unfolding decode words_of
decode-words t no_member = refl
decode-words t (also {a = m} {l = ms} h x) =
    decode-first (length ms) (key_of m) m.signers m.sent.0 (words_of ms ++ t) ∙ ap₂ ◌∷◌ (message-of m h) (decode-words t x)

-- decoding what was coded gives it back
pub decode-coded : (l : List ℕ) {ms : List Message} → All Codable ms → decode (length ms) (coded l ms) ≡ ms
unfolding coded
decode-coded l {ms} x = decode-words (drop (3 * length ms) l) x

-- ---- a store of three words

stored-seam : (p : List ℕ) (x y z : ℕ) (q : List ℕ) (at a b c : ℕ) → length p ≡ at → stored (p ++ x ∷ y ∷ z ∷ q) at a b c ≡ p ++ a ∷ b ∷ c ∷ q
stored-seam [] x y z q at a b c e = rw (← e) refl
stored-seam (w ∷ p) x y z q zero a b c e = absurd (omega arith)
stored-seam (w ∷ p) x y z q (suc at) a b c e =
    let f : suc at + 1 ≡ suc (at + 1) = omega arith in
    let g : suc at + 2 ≡ suc (at + 2) = omega arith in
    rw (f, g) (ap (λ (t : List ℕ). w ∷ t) (stored-seam p x y z q at a b c (omega arith)))

drop-three : (l : List ℕ) (j : ℕ) → j + 2 < length l → drop j l ≡ get_or l j 0 ∷ get_or l (suc j) 0 ∷ get_or l (suc (suc j)) 0 ∷ drop (suc (suc (suc j))) l
drop-three l j h =
    drop-cons l j 0 (omega arith)
    ∙ ap (λ (t : List ℕ). get_or l j 0 ∷ t)
    (drop-cons l (suc j) 0 (omega arith) ∙ ap (λ (t : List ℕ). get_or l (suc j) 0 ∷ t) (drop-cons l (suc (suc j)) 0 (omega arith)))

-- just behind the end it adds a message
pub stored-end : (l : List ℕ) (ms : List Message) (m : Message) → 3 * length ms + 2 < length l
    → stored (coded l ms) (3 * length ms) (key_of m) m.signers m.sent.0 ≡ coded l (ms ++ (m ∷ []))
unfolding coded words_of
stored-end l ms m h =
    let n : ℕ = 3 * length ms in
    let e : 3 * length (ms ++ (m ∷ [])) ≡ suc (suc (suc (3 * length ms))) = omega (arith, length-append ms (m ∷ [])) in
    ap (λ (t : List ℕ). stored (words_of ms ++ t) n (key_of m) m.signers m.sent.0) (drop-three l n h)
    ∙ stored-seam (words_of ms) _ _ _ (drop (suc (suc (suc n))) l) n (key_of m) m.signers m.sent.0 (length-words ms)
    ∙ sym (ap₂ (λ (t : List ℕ) (k : ℕ). t ++ drop k l) (words_append ms (m ∷ [])) e ∙ append_assoc (words_of ms) _ _)

stored-words : (ms : List Message) (t : List ℕ) (i : ℕ) (m : Message) → i < length ms
    → stored (words_of ms ++ t) (3 * i) (key_of m) m.signers m.sent.0 ≡ words_of (set ms i m) ++ t
unfolding words_of
stored-words [] t i m h = absurd (omega arith)
stored-words (x ∷ ms) t zero m h = refl
stored-words (x ∷ ms) t (suc i) m h =
    let e : 3 * suc i ≡ suc (suc (suc (3 * i))) = omega arith in
    let f : 3 * suc i + 1 ≡ suc (suc (suc (3 * i + 1))) = omega arith in
    let g : 3 * suc i + 2 ≡ suc (suc (suc (3 * i + 2))) = omega arith in
    rw (f, g, e) (ap (λ (u : List ℕ). key_of x ∷ x.signers ∷ x.sent.0 ∷ u) (stored-words ms t i m (omega arith)))

-- within it puts a message in another's place
pub stored-within : (l : List ℕ) (ms : List Message) (i : ℕ) (m : Message) → i < length ms
    → stored (coded l ms) (3 * i) (key_of m) m.signers m.sent.0 ≡ coded l (set ms i m)
unfolding coded
stored-within l ms i m h =
    stored-words ms (drop (3 * length ms) l) i m h ∙ ap (λ (k : ℕ). words_of (set ms i m) ++ drop (3 * k) l) (sym (length-set ms i m))

last_stored : (l : List ℕ) (n i : ℕ) → 3 * suc n ≤ length l → i < suc n
    → stored l (3 * i) (get_or l (3 * n) 0) (get_or l (3 * n + 1) 0) (get_or l (3 * n + 2) 0) ≡ coded l (without i (decode (suc n) l))
unfolding without decode message_at message_of
last_stored l n i h b =
    let len : length (decode (suc n) l) - 1 ≡ n = omega (arith, length-decode (suc n) l) in
    let here : get_or (decode (suc n) l) n no_message ≡ message_at l n = decode-at (suc n) l n no_message (omega arith) in
    rw (len, here) (go (dec_lt i n))
  where
    m : Message
    m = message_at l n

    low : coded l (decode n l) ≡ l
    low = coded-decode n l (omega arith)

    front : take n (decode (suc n) l) ≡ decode n l
    front = take_at (decode n l) (m ∷ []) n (length-decode n l)

    same : stored l (3 * n) (get_or l (3 * n) 0) (get_or l (3 * n + 1) 0) (get_or l (3 * n + 2) 0) ≡ l
    same =
        ap (λ (t : List ℕ). set (set t (3 * n + 1) (get_or l (3 * n + 1) 0)) (3 * n + 2) (get_or l (3 * n + 2) 0)) (set-get_or l (3 * n) 0)
        ∙ ap (λ (t : List ℕ). set t (3 * n + 2) (get_or l (3 * n + 2) 0)) (set-get_or l (3 * n + 1) 0)
        ∙ set-get_or l (3 * n + 2) 0

    go : Dec (i < n) → stored l (3 * i) (get_or l (3 * n) 0) (get_or l (3 * n + 1) 0) (get_or l (3 * n + 2) 0) ≡ coded l (take n (set (decode (suc n) l) i m))
    go (yes g) =
        let key : get_or l (3 * n) 0 ≡ key_of m = sym (key-of (get_or l (3 * n) 0) (get_or l (3 * n + 1) 0) (get_or l (3 * n + 2) 0)) in
        ap₂ (λ (t : List ℕ) (k : ℕ). stored t (3 * i) k m.signers m.sent.0) (sym low) key
        ∙ stored-within l (decode n l) i m (omega (arith, length-decode n l))
        ∙ sym (ap (coded l) (take-set-lt n (decode (suc n) l) i m g ∙ ap (λ (ms : List Message). set ms i m) front))
    go (no g) =
        let e : i ≡ n = omega arith in
        rw e (same ∙ sym (ap (coded l) (take-set-le n (decode (suc n) l) n m (omega arith) ∙ front) ∙ low))

-- the last message put in the i-th place, all else as it was, is the i-th taken out
pub stored-out : (l : List ℕ) (n i : ℕ) → 3 * n ≤ length l → i < n
    → stored l (3 * i) (get_or l (3 * (n - 1)) 0) (get_or l (3 * (n - 1) + 1) 0) (get_or l (3 * (n - 1) + 2) 0) ≡ coded l (without i (decode n l))
stored-out l zero i h b = absurd (omega arith)
stored-out l (suc n) i h b = let e : suc n - 1 ≡ n = omega arith in rw e (last_stored l n i h b)

-- ---- one change after another

-- the words w are l with the messages laid over it, there is room for them, and words hold each of them exactly
pub record Laid (l w : List ℕ) (ms : List Message) : Type 0 where
  pub words : w ≡ coded l ms
  pub room : 3 * length ms ≤ length l
  pub codable : All Codable ms

-- any words are their own messages laid over them
pub laid-start : (n : ℕ) (l : List ℕ) → holds n l ≡ true → ((i : ℕ) → get_or l i 0 < 2 ^ 64) → Laid l l (decode n l)
unfolding holds
laid-start n l h f =
    let r : 3 * n ≤ length l = leb-true (3 * n) (length l) h in
    record { words = sym (coded-decode n l r); room = omega (arith, length-decode n l); codable = decode-codable n l f }

-- a new list laid over words
pub laid-anew : (l : List ℕ) (ms : List Message) → 3 * length ms ≤ length l → All Codable ms → Laid l (coded l ms) ms
laid-anew l ms h x = record { words = refl; room = h; codable = x }

module _ {l w : List ℕ} {ms : List Message} (at : Laid l w ms) where
  -- the words decode to the messages
  pub laid-decode : decode (length ms) w ≡ ms
  laid-decode = ap (decode (length ms)) at.words ∙ decode-coded l at.codable

  -- they are as many as they were
  pub laid-length : length w ≡ length l
  laid-length = ap length at.words ∙ length-coded l ms at.room

  -- and have room for as many messages
  pub laid-holds : (n : ℕ) → holds n w ≡ holds n l
  unfolding holds
  laid-holds n = ap (leb (3 * n)) laid-length

  -- what is laid over them is what is laid over the first words, where the new list is no shorter
  pub laid-over : (more : List Message) → length ms ≤ length more → coded w more ≡ coded l more
  laid-over more h = ap (λ (t : List ℕ). coded t more) at.words ∙ coded-over l ms more h

  -- one message taken out, over these words
  pub laid-without : (i : ℕ) → i < length ms → Laid w (coded w (without i ms)) (without i ms)
  laid-without i h =
      laid-anew w (without i ms) (omega (arith, at.room, laid-length, length_without i ms)) (all_without at.codable i h)

  -- messages added behind the end
  pub laid_more : (more : List Message) → holds (length (ms ++ more)) l ≡ true → All Codable more → Laid l (coded w (ms ++ more)) (ms ++ more)
  unfolding holds
  laid_more more h x =
      record {
        words = laid-over (ms ++ more) (omega (arith, length-append ms more));
        room = leb-true (3 * length (ms ++ more)) (length l) h;
        codable = all_append at.codable x;
      }
