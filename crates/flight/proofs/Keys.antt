-- Laws of first words: which names a word packs, and that equal words are equal names, so that a search for names is a search
-- for one word.
use Rattle.std.specs.Prelude.{ℕ, ◌+◌, ◌*◌, ◌/◌, ◌^◌, ◌<◌, ◌≤◌, Bool, true, ◌&&◌, List, ◌≡◌, refl, ltb, length, get_or}
use Rattle.std.proofs.Math.Bool.{false}
use Rattle.std.proofs.Math.Path.{ap}
use Rattle.std.proofs.Common.{sym, ◌∙◌, arith, ltb-true, lt-ltb, le-ltb, le-leb}
use Rattle.std.proofs.Math.ListN.{get_or-eq_default}
use Rattle.std.proofs.lemmas.Bool.{lt-leb}
use Rattle.clock.specs.Pick.{pick}
use Rattle.clock.specs.Tests.{both}
use Rattle.flight.specs.declared.Names.{Names}
use Rattle.flight.specs.declared.Message.{Message}
use Rattle.flight.specs.Message.{named, packed, packs, packable, unpacked, message_of, message_at, decode, key_of, holds, Codable, no_message, index_of, can_take}
use Rattle.flight.specs.Keys.{Packs}
use Rattle.flight.specs.Members.{all_of, all_map, Agree, agree-named, differs, index_of-is, index_of-none}
use Rattle.flight.proofs.Coding.{unpacks, key-of, length-decode, decode-at, decode-codable}

-- ---- room

-- there is room for n messages where the words have n threes
pub holds-true : (n : ℕ) (l : List ℕ) → n ≤ length l / 3 → holds n l ≡ true
unfolding holds
holds-true n l h = le-leb (3 * n) (length l) (omega arith)

pub holds-false : (n : ℕ) (l : List ℕ) → length l / 3 < n → holds n l ≡ false
unfolding holds
holds-false n l h = lt-leb (3 * n) (length l) (omega arith)

-- past all words, each word of a message is 0
pub message-past : (l : List ℕ) (i : ℕ) → length l ≤ i → message_at l i ≡ message_of 0 0 0
unfolding message_at
message-past l i h =
    let a : get_or l (3 * i) 0 ≡ 0 = get_or-eq_default l 0 (omega arith) in
    let b : get_or l (3 * i + 1) 0 ≡ 0 = get_or-eq_default l 0 (omega arith) in
    let d : get_or l (3 * i + 2) 0 ≡ 0 = get_or-eq_default l 0 (omega arith) in
    rw (a, b, d) refl

-- ---- names that a word packs

pub packs-true : (s o k : ℕ) → packs s o k ≡ true → Packs s o k
unfolding packs
packs-true s o k e =
    let a = both (ltb s 16) _ e in
    let b = both (ltb o (2 ^ 55)) _ a.1 in
    record { sender = ltb-true s 16 a.0; round = ltb-true o (2 ^ 55) b.0; kind = ltb-true k 2 b.1 }

pub true-packs : {s o k : ℕ} → Packs s o k → packs s o k ≡ true
unfolding packs
true-packs {s} {o} {k} h =
    let a = lt-ltb s 16 h.sender in
    let b = lt-ltb o (2 ^ 55) h.round in
    let d = lt-ltb k 2 h.kind in
    rw (a, b, d) refl

pub packable-true : (x : Names) → packable x ≡ true → (x.recipient < 16) × Packs x.sender x.round x.kind
unfolding packable
packable-true x e = let a = both (ltb x.recipient 16) _ e in (ltb-true x.recipient 16 a.0, packs-true _ _ _ a.1)

pub true-packable : (x : Names) → x.recipient < 16 → Packs x.sender x.round x.kind → packable x ≡ true
unfolding packable
true-packable x h p = let a = lt-ltb x.recipient 16 h in let b = true-packs p in rw (a, b) refl

pub false-recipient : (x : Names) → 16 ≤ x.recipient → packable x ≡ false
unfolding packable
false-recipient x h = let e = le-ltb x.recipient 16 h in rw e refl

pub false-packs : (x : Names) → packs x.sender x.round x.kind ≡ false → packable x ≡ false
unfolding packable
false-packs x e = rw e (go (ltb x.recipient 16))
  where
    go : (b : Bool) → (b && false) ≡ false
    go true = refl
    go false = refl

-- unpacking what was packed
pub unpacked-packed : (x : Names) → packable x ≡ true → unpacked (packed x) ≡ x
unfolding packed message_of
unpacked-packed x e =
    let p = packable-true x e in
    let u = unpacks x.sender x.recipient x.round x.kind p.1.sender p.0 p.1.kind in
    let s = u.sender in
    let r = u.recipient in
    let o = u.round in
    let k = u.kind in
    rw (s, r, o, k) refl

-- ---- equal words are equal names

packed-same : (m : Message) (x : Names) → Agree x m → key_of m ≡ packed x
unfolding packed
packed-same m x g = let s = g.sender in let r = g.recipient in let o = g.round in let k = g.kind in omega arith

pub named-key : (key a b c : ℕ) → a ≡ key → named (unpacked key) (message_of a b c) ≡ true
unfolding message_of
named-key key a b c e = agree-named (unpacked key) (message_of a b c) (rw e (record { sender = refl; recipient = refl; round = refl; kind = refl }))

pub other_key : (key a b c : ℕ) → (a ≡ key → ⊥) → named (unpacked key) (message_of a b c) ≡ false
other_key key a b c h = differs (unpacked key) (message_of a b c) (λ g. h (sym (key-of a b c) ∙ same g ∙ key-of key 0 0))
  where
    same : Agree (unpacked key) (message_of a b c) → key_of (message_of a b c) ≡ packed (unpacked key)
    same g = packed-same (message_of a b c) (unpacked key) g

-- a search for a word is a search for its names
module _ (key n : ℕ) (l : List ℕ) where
  pub seek-at : (i : ℕ) → i < n → ((j : ℕ) → j < i → get_or l (3 * j) 0 ≡ key → ⊥) → get_or l (3 * i) 0 ≡ key
      → index_of (unpacked key) (decode n l) ≡ i
  unfolding message_at
  seek-at i h before here =
      index_of-is (unpacked key) (decode n l) i no_message (omega (arith, length-decode n l))
      (λ j b. ap (named (unpacked key)) (decode-at n l j no_message (omega arith)) ∙ other_key key _ _ _ (before j b))
      (ap (named (unpacked key)) (decode-at n l i no_message h) ∙ named-key key _ _ _ here)

  pub seek-none : ((j : ℕ) → j < n → get_or l (3 * j) 0 ≡ key → ⊥) → index_of (unpacked key) (decode n l) ≡ n
  unfolding message_at
  seek-none before =
      index_of-none (unpacked key) (all_of (decode n l) no_message (λ j b. lacks j (omega (arith, length-decode n l)))) ∙ length-decode n l
    where
      lacks : (j : ℕ) → j < n → named (unpacked key) (get_or (decode n l) j no_message) ≡ false
      lacks j b = ap (named (unpacked key)) (decode-at n l j no_message b) ∙ other_key key _ _ _ (before j b)

-- names that no word packs are found nowhere
pub seek-unpackable : (x : Names) (n : ℕ) (l : List ℕ) → ((i : ℕ) → get_or l i 0 < 2 ^ 64) → packable x ≡ false → index_of x (decode n l) ≡ n
seek-unpackable x n l f e = index_of-none x (all_map lacks (decode-codable n l f)) ∙ length-decode n l
  where
    never : packable x ≡ true → ⊥
    never t = let z : ◌≡◌ {A = ℕ} 0 1 = ap (λ (b : Bool). pick b 0 1) (sym t ∙ e) in omega arith

    lacks : (m : Message) → Codable m → named x m ≡ false
    lacks m h =
        differs x m
        (λ g.
        let hs = h.sender in
        let hr = h.recipient in
        let ho = h.round in
        let hk = h.kind in
        let gs = g.sender in
        let gr = g.recipient in
        let go = g.round in
        let gk = g.kind in
        never (true-packable x (omega arith) (record { sender = omega arith; round = omega arith; kind = omega arith })))

-- ---- which message can be taken out

pub take-no-room : (n : ℕ) (l : List ℕ) (i : ℕ) → length l / 3 < n → can_take n l i ≡ false
unfolding can_take
take-no-room n l i h = let e = holds-false n l h in rw e refl

pub take_past : (n : ℕ) (l : List ℕ) (i : ℕ) → n ≤ length l / 3 → n ≤ i → can_take n l i ≡ false
unfolding can_take
take_past n l i h b = let e = holds-true n l h in rw e (le-ltb i n b)

pub take-can : (n : ℕ) (l : List ℕ) (i : ℕ) → n ≤ length l / 3 → i < n → can_take n l i ≡ true
unfolding can_take
take-can n l i h b = let e = holds-true n l h in rw e (lt-ltb i n b)

-- room, and a place below the end
pub take-allowed : (n : ℕ) (l : List ℕ) (i : ℕ) → holds n l ≡ true → i < n → can_take n l i ≡ true
unfolding can_take
take-allowed n l i h b = rw h (lt-ltb i n b)
