-- Laws of members: what every member of a list has, what some member has, and which is the first with given names. A member is
-- looked up by its place, so each law goes from the places of a list to the list and back.
use Prim.Native.Nat.{ℕ, zero, suc, ◌+◌, ◌-◌, ◌<◌, ◌≤◌}
use Rattle.std.specs.Prelude.{Bool, ◌||◌, ◌≡◌, eqb, length, get_or, take, set, replicate}
use Rattle.std.proofs.Math.Bool.{true, false}
use mathlib.Core.List.{List, [], ◌∷◌, ◌++◌}
use Rattle.std.proofs.Math.Path.{refl}
use Rattle.std.proofs.Common.{ap, ◌∙◌, arith, length-append, length-set, length-take, get_or-take, get_or-set_same, get_or-set_other, ltb-false, lt-ltb, le-ltb, eqb-true, eq-eqb}
use Rattle.std.proofs.lemmas.Bool.{eqb-false}
use Rattle.clock.specs.Pick.{pick}
use Rattle.clock.specs.Tests.{neither, both}
use Rattle.mask.specs.Mask.{has, count_to, one}
use Rattle.flight.specs.declared.Names.{Names}
use Rattle.flight.specs.declared.Message.{Message}
use Rattle.flight.specs.Message.{named, no_message, index_of, without, toward, sent_to, some_of, late, overdue}

-- ---- what every member has

-- every member has P
pub data All {A : Type 0} (P : A → Type 0) : List A → Type 0 where
  no_member : All P []
  also : {a : A} {l : List A} → P a → All P l → All P (a ∷ l)

module _ {A : Type 0} {P : A → Type 0} where
  -- of two lists
  pub all_append : {a b : List A} → All P a → All P b → All P (a ++ b)
  all_append no_member y = y
  all_append (also p x) y = also p (all_append x y)

  -- the member at a place
  pub all-at : {l : List A} → All P l → (i : ℕ) (d : A) → i < length l → P (get_or l i d)
  all-at no_member i d h = absurd (omega arith)
  all-at (also p x) zero d h = p
  all-at (also p x) (suc i) d h = all-at x i d (omega arith)

  -- from every place
  pub all_of : (l : List A) (d : A) → ((i : ℕ) → i < length l → P (get_or l i d)) → All P l
  all_of [] d f = no_member
  all_of (a ∷ l) d f = also (f 0 (omega arith)) (all_of l d (λ i h. f (suc i) (omega arith)))

  -- where everything has it
  pub all-each : ((a : A) → P a) → (l : List A) → All P l
  all-each f [] = no_member
  all-each f (a ∷ l) = also (f a) (all-each f l)

  -- of one member many times
  pub all_replicate : (n : ℕ) (a : A) → P a → All P (replicate n a)
  all_replicate zero a p = no_member
  all_replicate (suc n) a p = also p (all_replicate n a p)

  -- with one member put in anew
  pub all_set : {l : List A} → All P l → (i : ℕ) (a : A) → P a → All P (set l i a)
  all_set no_member i a q = no_member
  all_set (also p x) zero a q = also q x
  all_set (also p x) (suc i) a q = also p (all_set x i a q)

  -- of the first n
  pub all_take : (n : ℕ) {l : List A} → All P l → All P (take n l)
  all_take zero no_member = no_member
  all_take zero (also p x) = no_member
  all_take (suc n) no_member = no_member
  all_take (suc n) (also p x) = also p (all_take n x)

  -- of the first of two lists
  pub all_left : (a b : List A) → All P (a ++ b) → All P a
  all_left [] b x = no_member
  all_left (c ∷ a) b (also p x) = also p (all_left a b x)

  -- of the second of two lists
  pub all_right : (a b : List A) → All P (a ++ b) → All P b
  all_right [] b x = x
  all_right (c ∷ a) b (also p x) = all_right a b x

-- what each member has besides
pub all_map : {A : Type 0} {P Q : A → Type 0} {l : List A} → ((a : A) → P a → Q a) → All P l → All Q l
all_map f no_member = no_member
all_map f (also p x) = also (f _ p) (all_map f x)

-- ---- what some member has

module _ {A : Type 0} (p : A → Bool) where
  -- the member at a place has it
  pub some_at : (l : List A) (i : ℕ) (d : A) → i < length l → p (get_or l i d) ≡ true → some_of p l ≡ true
  unfolding some_of
  some_at [] i d h e = absurd (omega arith)
  some_at (a ∷ l) zero d h e = rw e refl
  some_at (a ∷ l) (suc i) d h e = go (p a) (some_at l i d (omega arith) e)
    where
      go : (b : Bool) → some_of p l ≡ true → (b || some_of p l) ≡ true
      go true x = refl
      go false x = x

  -- no member has it
  pub some-none : {l : List A} → All (λ a. p a ≡ false) l → some_of p l ≡ false
  unfolding some_of
  some-none no_member = refl
  some-none (also q x) = rw q (some-none x)

  -- where none has it, each member lacks it
  pub none-some : (l : List A) → some_of p l ≡ false → All (λ a. p a ≡ false) l
  unfolding some_of
  none-some [] e = no_member
  none-some (a ∷ l) e = let b = neither (p a) (some_of p l) e in also b.0 (none-some l b.1)

  -- in one list or the other
  pub some-append : (a b : List A) → some_of p (a ++ b) ≡ (some_of p a || some_of p b)
  unfolding some_of
  some-append [] b = refl
  some-append (c ∷ a) b = go (p c) (some-append a b)
    where
      go : (t : Bool) → some_of p (a ++ b) ≡ (some_of p a || some_of p b) → (t || some_of p (a ++ b)) ≡ ((t || some_of p a) || some_of p b)
      go true e = refl
      go false e = e

-- ---- overdue messages

-- no message is overdue: the time is at most its time sent and the wait
pub overdue-none : (time wait : ℕ) {ms : List Message} → All (λ m. time ≤ m.sent.0 + wait) ms → overdue time wait ms ≡ false
unfolding late
overdue-none time wait x = some-none (late time wait) (all_map (λ m h. le-ltb (m.sent.0 + wait) time h) x)

-- where none is overdue, the time is at most the time sent and the wait of each
pub none-overdue : (time wait : ℕ) (ms : List Message) → overdue time wait ms ≡ false → All (λ m. time ≤ m.sent.0 + wait) ms
unfolding late
none-overdue time wait ms e = all_map (λ m h. ltb-false (m.sent.0 + wait) time h) (none-some (late time wait) ms e)

-- before the longest wait is over none is overdue
pub overdue-early : (time wait : ℕ) (ms : List Message) → time < wait → overdue time wait ms ≡ false
overdue-early time wait ms h = overdue-none time wait (all-each (λ m. omega arith) ms)

-- the message at a place is overdue
pub overdue-at : (time wait : ℕ) (ms : List Message) (i : ℕ) (d : Message) → i < length ms → (get_or ms i d).sent.0 + wait < time → overdue time wait ms ≡ true
unfolding late
overdue-at time wait ms i d h e = some_at (late time wait) ms i d h (lt-ltb ((get_or ms i d).sent.0 + wait) time e)

-- ---- names

-- a message that has the names has each of them
pub record Agree (x : Names) (m : Message) : Type 0 where
  pub sender : m.sender ≡ x.sender
  pub recipient : m.recipient ≡ x.recipient
  pub round : m.round ≡ x.round
  pub kind : m.kind ≡ x.kind

pub named-agree : (x : Names) (m : Message) → named x m ≡ true → Agree x m
unfolding named
named-agree x m e =
    let a = both (eqb m.sender x.sender) _ e in
    let b = both (eqb m.recipient x.recipient) _ a.1 in
    let c = both (eqb m.round x.round) _ b.1 in
    record { sender = eqb-true _ _ a.0; recipient = eqb-true _ _ b.0; round = eqb-true _ _ c.0; kind = eqb-true _ _ c.1 }

pub agree-named : (x : Names) (m : Message) → Agree x m → named x m ≡ true
unfolding named
agree-named x m g =
    let a = eq-eqb _ _ g.sender in
    let b = eq-eqb _ _ g.recipient in
    let c = eq-eqb _ _ g.round in
    let d = eq-eqb _ _ g.kind in
    rw (a, b, c, d) refl

-- a message that differs in a name does not have the names
pub differs : (x : Names) (m : Message) → (Agree x m → ⊥) → named x m ≡ false
differs x m h = go (named x m) refl
  where
    go : (b : Bool) → named x m ≡ b → b ≡ false
    go true e = absurd (h (named-agree x m e))
    go false e = refl

-- ---- the first with given names

-- it is at most the number of messages
pub index_of-most : (x : Names) (ms : List Message) → index_of x ms ≤ length ms
unfolding index_of
index_of-most x [] = omega arith
index_of-most x (m ∷ ms) = go (named x m) (index_of-most x ms)
  where
    go : (b : Bool) → index_of x ms ≤ length ms → pick b 0 (suc (index_of x ms)) ≤ suc (length ms)
    go true h = omega arith
    go false h = omega arith

-- where it is a place, the message there has the names
pub index_of-named : (x : Names) (ms : List Message) (d : Message) → index_of x ms < length ms → named x (get_or ms (index_of x ms) d) ≡ true
unfolding index_of
index_of-named x [] d h = absurd (omega arith)
index_of-named x (m ∷ ms) d h = go (named x m) refl h (index_of-named x ms d)
  where
    go : (b : Bool) → named x m ≡ b → pick b 0 (suc (index_of x ms)) < suc (length ms)
        → (index_of x ms < length ms → named x (get_or ms (index_of x ms) d) ≡ true)
        → named x (get_or (m ∷ ms) (pick b 0 (suc (index_of x ms))) d) ≡ true
    go true e h rest = e
    go false e h rest = rest (omega arith)

-- a place whose message has the names, and before which none has them
pub index_of-is : (x : Names) (ms : List Message) (i : ℕ) (d : Message) → i < length ms
    → ((j : ℕ) → j < i → named x (get_or ms j d) ≡ false) → named x (get_or ms i d) ≡ true → index_of x ms ≡ i
unfolding index_of
index_of-is x [] i d h before here = absurd (omega arith)
index_of-is x (m ∷ ms) zero d h before here = rw here refl
index_of-is x (m ∷ ms) (suc i) d h before here =
    let e = before 0 (omega arith) in
    rw e (ap suc (index_of-is x ms i d (omega arith) (λ j l. before (suc j) (omega arith)) here))

-- no message has the names
pub index_of-none : (x : Names) {ms : List Message} → All (λ m. named x m ≡ false) ms → index_of x ms ≡ length ms
unfolding index_of
index_of-none x no_member = refl
index_of-none x (also p a) = rw p (ap suc (index_of-none x a))

-- where it is no place, no message has the names
pub none-index_of : (x : Names) (ms : List Message) → length ms ≤ index_of x ms → All (λ m. named x m ≡ false) ms
unfolding index_of
none-index_of x [] h = no_member
none-index_of x (m ∷ ms) h = go (named x m) refl h (none-index_of x ms)
  where
    go : (b : Bool) → named x m ≡ b → suc (length ms) ≤ pick b 0 (suc (index_of x ms))
        → (length ms ≤ index_of x ms → All (λ m. named x m ≡ false) ms) → All (λ m. named x m ≡ false) (m ∷ ms)
    go true e h rest = absurd (omega arith)
    go false e h rest = also e (rest (omega arith))

-- ---- one message taken out

-- one fewer
pub length_without : (i : ℕ) (ms : List Message) → length (without i ms) ≡ length ms - 1
unfolding without
length_without i ms = simp (length-take, length-set) (omega arith)

-- who stands where
pub without_at : (i : ℕ) (ms : List Message) (j : ℕ) (d : Message) → j < length ms - 1 → i < length ms
    → get_or (without i ms) j d ≡ pick (eqb j i) (get_or ms (length ms - 1) no_message) (get_or ms j d)
unfolding without
without_at i ms j d h l = get_or-take _ _ j d h ∙ go (eqb j i) refl
  where
    go : (b : Bool) → eqb j i ≡ b
        → get_or (set ms i (get_or ms (length ms - 1) no_message)) j d ≡ pick b (get_or ms (length ms - 1) no_message) (get_or ms j d)
    go true e = let q = eqb-true j i e in rw q (get_or-set_same ms i _ d l)
    go false e = get_or-set_other ms i j _ d (eqb-false j i e)

-- what every message has, every one that is left has
pub all_without : {P : Message → Type 0} {ms : List Message} → All P ms → (i : ℕ) → i < length ms → All P (without i ms)
unfolding without
all_without {P} {ms} x i h =
    let last : P (get_or ms (length ms - 1) no_message) = all-at x (length ms - 1) no_message (omega arith) in
    all_take (length ms - 1) (all_set x i (get_or ms (length ms - 1) no_message) last)

-- ---- a message sent to many

-- what the message to each station in the mask has, every one that is sent has
pub all-sent_to : {P : Message → Type 0} (m : Message) (n mask : ℕ) → ((k : ℕ) → k < n → has mask k ≡ true → P (toward m k)) → All P (sent_to m n mask)
unfolding sent_to
all-sent_to m zero mask f = no_member
all-sent_to {P} m (suc n) mask f =
    all_append (all-sent_to m n mask (λ k h. f k (omega arith))) (go (has mask n) refl)
  where
    go : (b : Bool) → has mask n ≡ b → All P (pick b (toward m n ∷ []) [])
    go true e = also (f n (omega arith) e) no_member
    go false e = no_member

-- as many as the mask has stations
pub length-sent_to : (m : Message) (n mask : ℕ) → length (sent_to m n mask) ≡ count_to n (has mask)
unfolding sent_to count_to
length-sent_to m zero mask = refl
length-sent_to m (suc n) mask = length-append (sent_to m n mask) _ ∙ go (has mask n) (length-sent_to m n mask)
  where
    go : (b : Bool) → length (sent_to m n mask) ≡ count_to n (has mask) → length (sent_to m n mask) + length (pick b (toward m n ∷ []) []) ≡ count_to n (has mask) + one b
    go true e = omega arith
    go false e = omega arith
