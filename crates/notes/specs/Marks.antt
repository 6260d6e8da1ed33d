-- What a search for twins keeps: a mark for each first word passed, and that no two words passed are equal. A word whose place is
-- not marked is new; a word whose place is marked is looked for.
use Rattle.std.specs.Prelude.{ℕ, ◌+◌, ◌*◌, ◌%◌, ◌<◌, ◌≤◌, Bool, true, false, ◌&&◌, not, List, ◌≡◌, refl, ltb, eqb, length, get_or, set}
use Rattle.std.proofs.Common.{ap, sym, ◌∙◌, arith, get_or-set_same, get_or-set_other, ltb-true, ltb-false, lt-ltb, eqb-true}
use Rattle.std.proofs.Math.Decide.{dec_lt}
use Rattle.std.proofs.lemmas.Bool.{eqb-false}
use Rattle.clock.specs.Pick.{pick}
use Rattle.clock.specs.Tests.{both}
use Rattle.flight.specs.declared.Names.{Names}
use Rattle.flight.specs.declared.Message.{Message}
use Rattle.flight.specs.Message.{named, names_of, same_names, unpacked, message_of, message_at, decode, holds, no_message, index_of, near_or, twins}
use Rattle.flight.specs.Members.{all-at, none-index_of, index_of-named}
use Rattle.flight.proofs.Coding.{length-decode, decode-at}
use Rattle.flight.proofs.Keys.{holds-true, named-key, other_key}
use Rattle.flight.specs.Apart.{Apart, apart-twins, twins-at, same_turn}

-- the first word of the i-th message
abbrev pub first : List ℕ → ℕ → ℕ
first l i = get_or l (3 * i) 0

-- the place of each of the first i words is marked
pub Marked : ℕ → List ℕ → List ℕ → Type 0
Marked i l marks = (j : ℕ) → j < i → get_or marks (first l j % 1024) 0 ≡ 1

-- no two of the first i words are equal
pub Different : ℕ → List ℕ → Type 0
Different i l = (a b : ℕ) → a < b → b < i → first l a ≡ first l b → ⊥

-- the place is marked, and the word is found among the first i
abbrev pub stands : ℕ → List ℕ → ℕ → ℕ → Bool
stands i l key mark = not (eqb mark 0) && ltb (index_of (unpacked key) (decode i l)) i

never : true ≡ false → ⊥
never q = let z : ◌≡◌ {A = ℕ} 0 1 = ap (λ (b : Bool). pick b 0 1) q in omega arith

-- whatever place is looked at first, names are found where they stand
pub near-found : (near : ℕ) (x : Names) (ms : List Message) → ltb (near_or near x ms) (length ms) ≡ ltb (index_of x ms) (length ms)
unfolding near_or
near-found near x ms = go (ltb near (length ms)) refl (named x (get_or ms near no_message)) refl
  where
    found : near < length ms → named x (get_or ms near no_message) ≡ true → index_of x ms < length ms
    found h here = elim (dec_lt (index_of x ms) (length ms)) [
      | yes b ↦ b
      | no b ↦ absurd (never (sym here ∙ all-at (none-index_of x ms (omega arith)) near no_message h))
    ]

    go : (a : Bool) → ltb near (length ms) ≡ a → (b : Bool) → named x (get_or ms near no_message) ≡ b
        → ltb (pick (a && b) near (index_of x ms)) (length ms) ≡ ltb (index_of x ms) (length ms)
    go true l true here = l ∙ sym (lt-ltb (index_of x ms) (length ms) (found (ltb-true near (length ms) l) here))
    go true l false here = refl
    go false l true here = refl
    go false l false here = refl

-- what is found of a word, whatever place is looked at first
pub word-found : (i : ℕ) (l : List ℕ) (near key r : ℕ) (m : Message) → m ≡ message_of key 0 0 → 3 * i ≤ length l
    → r ≡ pick (holds i l) (near_or near (names_of m) (decode i l)) i → ltb r i ≡ ltb (index_of (unpacked key) (decode i l)) i
word-found i l near key r m same h e =
    let room = holds-true i l (omega arith) in
    let found : r ≡ near_or near (unpacked key) (decode i l) = e ∙ rw (room, same) refl in
    rw found (rw (length-decode i l) at (near-found near (unpacked key) (decode i l)))

pub marked-none : (l marks : List ℕ) → Marked 0 l marks
unfolding Marked
marked-none l marks j h = absurd (omega arith)

pub different-none : (l : List ℕ) → Different 0 l
unfolding Different
different-none l a b c h = absurd (omega arith)

-- one more word marked
pub marked_more : (i : ℕ) (l marks : List ℕ) → length marks ≡ 1024 → Marked i l marks → Marked (i + 1) l (set marks (first l i % 1024) 1)
unfolding Marked
marked_more i l marks e f j h = go (eqb (first l j % 1024) (first l i % 1024)) refl
  where
    old : (first l j % 1024 ≡ first l i % 1024 → ⊥) → get_or marks (first l j % 1024) 0 ≡ 1
    old q = go (dec_lt j i)
      where
        go : Dec (j < i) → get_or marks (first l j % 1024) 0 ≡ 1
        go (yes b) = f j b
        go (no b) = let s : j ≡ i = omega arith in absurd (q (ap (λ (k : ℕ). first l k % 1024) s))

    go : (b : Bool) → eqb (first l j % 1024) (first l i % 1024) ≡ b → get_or (set marks (first l i % 1024) 1) (first l j % 1024) 0 ≡ 1
    go true s = let q = eqb-true (first l j % 1024) (first l i % 1024) s in rw q (get_or-set_same marks (first l i % 1024) 1 0 (omega arith))
    go false s = let q = eqb-false (first l j % 1024) (first l i % 1024) s in get_or-set_other marks (first l i % 1024) (first l j % 1024) 1 0 q ∙ old q

-- a word that does not stand among the first i is none of them
pub new_word : (i : ℕ) (l marks : List ℕ) (key : ℕ) → Marked i l marks → stands i l key (get_or marks (key % 1024) 0) ≡ false
    → (j : ℕ) → j < i → first l j ≡ key → ⊥
unfolding Marked message_at
new_word i l marks key f e j h q =
    let mark : get_or marks (key % 1024) 0 ≡ 1 = ap (λ (k : ℕ). get_or marks (k % 1024) 0) (sym q) ∙ f j h in
    let past : ltb (index_of (unpacked key) (decode i l)) i ≡ false = ap (λ (x : ℕ). not (eqb x 0) && ltb (index_of (unpacked key) (decode i l)) i) (sym mark) ∙ e in
    let b : i ≤ index_of (unpacked key) (decode i l) = ltb-false (index_of (unpacked key) (decode i l)) i past in
    let none : named (unpacked key) (get_or (decode i l) j no_message) ≡ false =
    all-at (none-index_of (unpacked key) (decode i l) (omega (arith, length-decode i l))) j no_message (omega (arith, length-decode i l)) in
    never (sym (named-key key (first l j) (get_or l (3 * j + 1) 0) (get_or l (3 * j + 2) 0) q) ∙ sym (ap (named (unpacked key)) (decode-at i l j no_message h)) ∙ none)

-- one more word, different from all before
pub different-more : (i : ℕ) (l : List ℕ) → Different i l → ((j : ℕ) → j < i → first l j ≡ first l i → ⊥) → Different (i + 1) l
unfolding Different
different-more i l f new a b c h = go (dec_lt b i)
  where
    go : Dec (b < i) → first l a ≡ first l b → ⊥
    go (yes d) = f a b c d
    go (no d) = let s : b ≡ i = omega arith in rw s (new a (omega arith))

-- no two words equal: no twins
pub different-twins : (n : ℕ) (l : List ℕ) → Different n l → twins (decode n l) ≡ false
unfolding Different Apart message_at message_of
different-twins n l f =
    apart-twins (decode n l)
    (λ a b c h.
    let hb : b < n = omega (arith, length-decode n l) in
    let ea = decode-at n l a no_message (omega arith) in
    let eb = decode-at n l b no_message hb in
    rw (ea, eb) (other_key (first l a) (first l b) _ _ (λ q. f a b c hb (sym q))))

-- a word that stands among the first i has a twin
pub word-twins : (n i : ℕ) (l : List ℕ) (mark : ℕ) → i < n → stands i l (first l i) mark ≡ true → twins (decode n l) ≡ true
unfolding message_at message_of
word-twins n i l mark h e =
    let key : ℕ = first l i in
    let b = both (not (eqb mark 0)) (ltb (index_of (unpacked key) (decode i l)) i) e in
    let a : ℕ = index_of (unpacked key) (decode i l) in
    let lt : a < i = ltb-true a i b.1 in
    let has : named (unpacked key) (message_at l a) ≡ true =
    sym (ap (named (unpacked key)) (decode-at i l a no_message lt)) ∙ index_of-named (unpacked key) (decode i l) no_message (omega (arith, length-decode i l)) in
    let ea = decode-at n l a no_message (omega arith) in
    let eb = decode-at n l i no_message h in
    let same : same_names (get_or (decode n l) a no_message) (get_or (decode n l) i no_message) ≡ true =
    rw (ea, eb) (same_turn (message_at l i) (message_at l a) has) in
    twins-at (decode n l) a i lt (omega (arith, length-decode n l)) same
