-- Laws of the places noted: where no two messages agree in all four names a place noted changes no answer, whatever it is.
use Rattle.std.specs.Prelude.{ℕ, zero, suc, ◌+◌, ◌*◌, ◌-◌, ◌%◌, ◌^◌, ◌<◌, ◌≤◌, Bool, true, false, ◌&&◌, List, ◌≡◌, refl, ltb, length, get_or, set}
use Rattle.std.proofs.Common.{ap, sym, ◌∙◌, arith, length-set, ltb-true, lt-ltb, le-ltb}
use Rattle.clock.specs.Pick.{pick}
use Rattle.flight.specs.declared.Names.{Names}
use Rattle.flight.specs.declared.Message.{Message}
use Rattle.flight.specs.Message.{names_of, named, no_message, packable, unpacked, message_at, decode, index_of, near_or, places_to, twins}
use Rattle.flight.specs.Members.{Agree, named-agree, agree-named, differs, index_of-is, none-index_of, all-at}
use Rattle.flight.proofs.Coding.{length-decode, decode-at}
use Rattle.flight.specs.Apart.{Apart, twins-apart}
use Rattle.flight.proofs.Keys.{named-key, other_key, seek-unpackable}

-- ---- near or first

-- a place past the end
pub near-past : (near : ℕ) (x : Names) (ms : List Message) → length ms ≤ near → near_or near x ms ≡ index_of x ms
unfolding near_or
near-past near x ms h = let e = le-ltb near (length ms) h in rw e refl

-- a place whose message has the names
pub near-here : (near : ℕ) (x : Names) (ms : List Message) → near < length ms → named x (get_or ms near no_message) ≡ true → near_or near x ms ≡ near
unfolding near_or
near-here near x ms h here = let e = lt-ltb near (length ms) h in rw (e, here) refl

-- a place whose message has other names
pub near-other : (near : ℕ) (x : Names) (ms : List Message) → named x (get_or ms near no_message) ≡ false → near_or near x ms ≡ index_of x ms
unfolding near_or
near-other near x ms other = rw other (go (ltb near (length ms)))
  where
    go : (b : Bool) → pick (b && false) near (index_of x ms) ≡ index_of x ms
    go true = refl
    go false = refl

-- ---- no two agree

-- two messages that have the same names agree
agreed : {x : Names} {a b : Message} → Agree x a → Agree x b → Agree (names_of a) b
agreed g h =
    record {
      sender = h.sender ∙ sym g.sender;
      recipient = h.recipient ∙ sym g.recipient;
      round = h.round ∙ sym g.round;
      kind = h.kind ∙ sym g.kind;
    }

-- where the messages at any two places differ in a name, a near place with the names is the first one
pub near_apart : (near : ℕ) (x : Names) (ms : List Message) → Apart ms → near_or near x ms ≡ index_of x ms
unfolding near_or Apart
near_apart near x ms f = go (ltb near (length ms)) refl (named x (get_or ms near no_message)) refl
  where
    never : true ≡ false → ⊥
    never q = let z : ◌≡◌ {A = ℕ} 0 1 = ap (λ (b : Bool). pick b 0 1) q in omega arith

    lacks : named x (get_or ms near no_message) ≡ true → near < length ms → (j : ℕ) → j < near → named x (get_or ms j no_message) ≡ false
    lacks here h j b =
        differs x (get_or ms j no_message)
        (λ g.
        never (sym (agree-named (names_of (get_or ms j no_message)) (get_or ms near no_message)
        (agreed g (named-agree x (get_or ms near no_message) here))) ∙ f j near b h))

    go : (a : Bool) → ltb near (length ms) ≡ a → (b : Bool) → named x (get_or ms near no_message) ≡ b → pick (a && b) near (index_of x ms) ≡ index_of x ms
    go true l true here =
        let h = ltb-true near (length ms) l in
        sym (index_of-is x ms near no_message h (lacks here h) here)
    go true l false here = refl
    go false l true here = refl
    go false l false here = refl

-- no twins: whatever place is looked at first, the answer is the same
pub near-is : (near : ℕ) (x : Names) (ms : List Message) → twins ms ≡ false → near_or near x ms ≡ index_of x ms
near-is near x ms e = near_apart near x ms (twins-apart ms e)

-- ---- words

-- the message near by its first word
module _ (key n : ℕ) (l : List ℕ) (near : ℕ) where
  pub near-key : near < n → get_or l (3 * near) 0 ≡ key → near_or near (unpacked key) (decode n l) ≡ near
  unfolding message_at
  near-key h here =
      near-here near (unpacked key) (decode n l) (omega (arith, length-decode n l))
      (ap (named (unpacked key)) (decode-at n l near no_message h) ∙ named-key key _ _ _ here)

  pub near-other-key : near < n → (get_or l (3 * near) 0 ≡ key → ⊥) → near_or near (unpacked key) (decode n l) ≡ index_of (unpacked key) (decode n l)
  unfolding message_at
  near-other-key h other =
      near-other near (unpacked key) (decode n l)
      (ap (named (unpacked key)) (decode-at n l near no_message h) ∙ other_key key _ _ _ other)

-- names that no word packs are near no place
pub near-unpackable : (near : ℕ) (x : Names) (n : ℕ) (l : List ℕ) → ((i : ℕ) → get_or l i 0 < 2 ^ 64) → packable x ≡ false → near_or near x (decode n l) ≡ n
unfolding near_or
near-unpackable near x n l f e = go (ltb near (length (decode n l))) refl
  where
    none : index_of x (decode n l) ≡ n
    none = seek-unpackable x n l f e

    go : (a : Bool) → ltb near (length (decode n l)) ≡ a
        → pick (a && named x (get_or (decode n l) near no_message)) near (index_of x (decode n l)) ≡ n
    go true p =
        let other : named x (get_or (decode n l) near no_message) ≡ false =
        all-at (none-index_of x (decode n l) (omega (arith, none, length-decode n l))) near no_message (ltb-true near (length (decode n l)) p) in
        rw other none
    go false p = none

-- ---- notes

-- as many as before
pub length-places : (l : List ℕ) (from k : ℕ) (t : List ℕ) → length (places_to l from k t) ≡ length t
unfolding places_to
length-places l from zero t = refl
length-places l from (suc k) t = length-set (places_to l from k t) _ _ ∙ length-places l from k t

-- before the first turn of the loop
pub places-start : (l : List ℕ) (from : ℕ) (t : List ℕ) → t ≡ places_to l from (from - from) t
unfolding places_to
places-start l from t = let e : 0 ≡ from - from = omega arith in ap (λ (k : ℕ). places_to l from k t) e

-- a turn of the loop, from notes that are equal to those so far
pub places-turn : (l : List ℕ) (from i : ℕ) (t : List ℕ) {w : List ℕ} → from ≤ i → w ≡ places_to l from (i - from) t
    → set w (get_or l (3 * i) 0 % 512) i ≡ places_to l from (i + 1 - from) t
unfolding places_to
places-turn l from i t h e = rw e (go (i - from) (omega arith) (omega arith))
  where
    go : (k : ℕ) → i ≡ from + k → suc k ≡ i + 1 - from → set (places_to l from k t) (get_or l (3 * i) 0 % 512) i ≡ places_to l from (i + 1 - from) t
    go k p q =
        ap (λ (j : ℕ). set (places_to l from k t) (get_or l (3 * j) 0 % 512) j) p ∙ ap (λ (j : ℕ). places_to l from j t) q
