-- Laws of twins: a list is without twins where the messages at any two places differ in a name, and it stays so where one is
-- taken out or where messages of new names are added.
use Rattle.std.specs.Prelude.{ℕ, zero, suc, ◌-◌, ◌<◌, Bool, true, false, ◌||◌, List, [], ◌∷◌, ◌++◌, ◌≡◌, refl, eqb, length, get_or}
use Rattle.std.proofs.Common.{ap, sym, ◌∙◌, arith, eqb-true}
use Rattle.clock.specs.Pick.{pick}
use Rattle.clock.specs.Tests.{neither}
use Rattle.mask.specs.Mask.{has}
use Rattle.flight.specs.declared.Message.{Message}
use Rattle.flight.specs.Message.{names_of, same_names, no_message, without, toward, sent_to, some_of, twins}
use Rattle.flight.specs.Members.{All, no_member, also, all-at, all_of, all_map, all-sent_to, some_at, some-none, none-some, some-append, Agree, named-agree, agree-named, differs, length_without, without_at}

-- two messages agree in their names whichever comes first
turn : (a b : Message) → Agree (names_of b) a → Agree (names_of a) b
turn a b g = record { sender = sym g.sender; recipient = sym g.recipient; round = sym g.round; kind = sym g.kind }

pub same_turn : (a b : Message) → same_names a b ≡ true → same_names b a ≡ true
same_turn a b e = agree-named (names_of b) a (turn b a (named-agree (names_of a) b e))

pub other-turn : (a b : Message) → same_names a b ≡ false → same_names b a ≡ false
other-turn a b e = differs (names_of b) a (λ g. never (sym (agree-named (names_of a) b (turn a b g)) ∙ e))
  where
    never : true ≡ false → ⊥
    never q = let z : ◌≡◌ {A = ℕ} 0 1 = ap (λ (b : Bool). pick b 0 1) q in omega arith

-- ---- from places to twins and back

-- the messages at any two places differ in a name
unfoldable pub Apart : List Message → Type 0
Apart ms = (i j : ℕ) → i < j → j < length ms → same_names (get_or ms i no_message) (get_or ms j no_message) ≡ false

-- no twins: apart
pub twins-apart : (ms : List Message) → twins ms ≡ false → Apart ms
unfolding twins Apart
twins-apart [] e i j b h = absurd (omega arith)
twins-apart (m ∷ ms) e zero zero b h = absurd (omega arith)
twins-apart (m ∷ ms) e zero (suc j) b h =
    all-at (none-some (same_names m) ms (neither (some_of (same_names m) ms) (twins ms) e).0) j no_message (omega arith)
twins-apart (m ∷ ms) e (suc i) zero b h = absurd (omega arith)
twins-apart (m ∷ ms) e (suc i) (suc j) b h =
    twins-apart ms (neither (some_of (same_names m) ms) (twins ms) e).1 i j (omega arith) (omega arith)

-- apart: no twins
pub apart-twins : (ms : List Message) → Apart ms → twins ms ≡ false
unfolding twins Apart
apart-twins [] f = refl
apart-twins (m ∷ ms) f =
    let a : some_of (same_names m) ms ≡ false = some-none (same_names m) (all_of ms no_message (λ j h. f 0 (suc j) (omega arith) (omega arith))) in
    rw a (apart-twins ms (λ i j b h. f (suc i) (suc j) (omega arith) (omega arith)))

-- two places with the same names are twins
pub twins-at : (ms : List Message) (i j : ℕ) → i < j → j < length ms → same_names (get_or ms i no_message) (get_or ms j no_message) ≡ true → twins ms ≡ true
unfolding twins
twins-at [] i j b h e = absurd (omega arith)
twins-at (m ∷ ms) zero zero b h e = absurd (omega arith)
twins-at (m ∷ ms) zero (suc j) b h e = let s = some_at (same_names m) ms j no_message (omega arith) e in rw s refl
twins-at (m ∷ ms) (suc i) zero b h e = absurd (omega arith)
twins-at (m ∷ ms) (suc i) (suc j) b h e = go (some_of (same_names m) ms) (twins-at ms i j (omega arith) (omega arith) e)
  where
    go : (t : Bool) → twins ms ≡ true → (t || twins ms) ≡ true
    go true q = refl
    go false q = q

-- ---- no twins stay no twins

-- where one message is taken out
pub twins-without : (i : ℕ) (ms : List Message) → i < length ms → twins ms ≡ false → twins (without i ms) ≡ false
unfolding Apart
twins-without i ms l e = apart-twins (without i ms) far
  where
    old : Apart ms
    old = twins-apart ms e

    -- the message that stands at j afterwards
    place : ℕ → ℕ
    place j = pick (eqb j i) (length ms - 1) j

    stands : (j : ℕ) → j < length ms - 1 → get_or (without i ms) j no_message ≡ get_or ms (place j) no_message
    stands j h = without_at i ms j no_message h l ∙ go (eqb j i)
      where
        go : (b : Bool) → pick b (get_or ms (length ms - 1) no_message) (get_or ms j no_message) ≡ get_or ms (pick b (length ms - 1) j) no_message
        go true = refl
        go false = refl

    far : Apart (without i ms)
    far a b c h =
        let k : b < length ms - 1 = omega (arith, length_without i ms) in
        rw (stands a (omega arith), stands b k) (go (eqb a i) refl (eqb b i) refl)
      where
        go : (p : Bool) → eqb a i ≡ p → (q : Bool) → eqb b i ≡ q
            → same_names (get_or ms (pick p (length ms - 1) a) no_message) (get_or ms (pick q (length ms - 1) b) no_message) ≡ false
        go true ea true eb = absurd (omega (arith, eqb-true a i ea, eqb-true b i eb))
        go true ea false eb = other-turn _ _ (old b (length ms - 1) (omega (arith, length_without i ms)) (omega (arith, length_without i ms)))
        go false ea true eb = old a (length ms - 1) (omega (arith, length_without i ms)) (omega (arith, length_without i ms))
        go false ea false eb = old a b c (omega (arith, length_without i ms))

-- where messages without twins are added whose names no message has
pub twins-append : (more : List Message) {ms : List Message} → twins ms ≡ false → twins more ≡ false
    → All (λ a. All (λ b. same_names a b ≡ false) more) ms → twins (ms ++ more) ≡ false
unfolding twins
twins-append more e f no_member = f
twins-append more e f (also {a = m} {l = ms} new x) =
    let o = neither (some_of (same_names m) ms) (twins ms) e in
    let a = o.0 in
    let b = some-none (same_names m) new in
    let s : some_of (same_names m) (ms ++ more) ≡ false = some-append (same_names m) ms more ∙ rw (a, b) refl in
    rw s (twins-append more o.1 f x)

-- a message to many stations has no twins
pub twins-sent_to : (m : Message) (n mask : ℕ) → twins (sent_to m n mask) ≡ false
unfolding sent_to twins some_of
twins-sent_to m zero mask = refl
twins-sent_to m (suc n) mask =
    twins-append (pick (has mask n) (toward m n ∷ []) []) (twins-sent_to m n mask) (one_only (has mask n))
    (all-sent_to m n mask (λ k h _. far k h (has mask n)))
  where
    one_only : (b : Bool) → twins (pick b (toward m n ∷ []) []) ≡ false
    one_only true = refl
    one_only false = refl

    far : (k : ℕ) → k < n → (b : Bool) → All (λ a. same_names (toward m k) a ≡ false) (pick b (toward m n ∷ []) [])
    far k h true = also (differs (names_of (toward m k)) (toward m n) (λ g. omega (arith, g.recipient))) no_member
    far k h false = no_member

-- the messages to many stations are new where the message to each of them is
pub new-sent_to : {ms : List Message} (m : Message) (n mask : ℕ) → All (λ a. (k : ℕ) → k < n → has mask k ≡ true → same_names a (toward m k) ≡ false) ms
    → All (λ a. All (λ b. same_names a b ≡ false) (sent_to m n mask)) ms
new-sent_to m n mask x = all_map (λ a f. all-sent_to m n mask f) x
