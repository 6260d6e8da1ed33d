-- What a search for overdue messages notes: for each pair of sender and recipient, the oldest time sent. Nothing noted is later
-- than a message of its pair, and nothing noted is older than all of them, so the notes tell whether one is overdue.
use Rattle.std.specs.Prelude.{ℕ, zero, suc, ◌+◌, ◌*◌, ◌-◌, ◌%◌, ◌^◌, ◌<◌, ◌≤◌, min, Bool, true, false, List, ◌≡◌, refl, ltb, eqb, length, get_or, set, replicate}
use Rattle.std.proofs.Common.{ap, sym, ◌∙◌, arith, length-set, get_or-set_same, get_or-set_other, lt-ltb, le-ltb, ltb-false, eqb-true}
use Rattle.std.proofs.Math.Decide.{dec_lt}
use Rattle.std.proofs.lemmas.Bool.{eqb-false}
use Rattle.clock.specs.Limits.{last}
use Rattle.flight.specs.declared.Message.{Message}
use Rattle.flight.specs.Message.{message_of, message_at, decode, no_message, some_of, overdue}
use Rattle.flight.specs.Members.{All, all_replicate, all-at, all_of, all_set, all_map, some_at, some-none, none-some, overdue-none, none-overdue}
use Rattle.flight.proofs.Coding.{length-decode, decode-at}

-- the notes t, with a message of this first word and this time sent noted: the older time stands at the pair's place
abbrev pub noting : List ℕ → ℕ → ℕ → List ℕ
noting t key sent = set t (key % 256) (min (get_or t (key % 256) 0) sent)

-- the notes t, with the first n messages of the words noted
unfoldable pub noted : ℕ → List ℕ → List ℕ → List ℕ
noted zero l t = t
noted (suc n) l t = noting (noted n l t) (get_or l (3 * n) 0) (get_or l (3 * n + 2) 0)

-- a time before the limit
unfoldable pub before : ℕ → ℕ → Bool
before limit sent = ltb sent limit

-- ---- laws

pub length-noted : (n : ℕ) (l t : List ℕ) → length (noted n l t) ≡ length t
unfolding noted
length-noted zero l t = refl
length-noted (suc n) l t = length-set (noted n l t) _ _ ∙ length-noted n l t

-- what is noted for a message's pair is no later than the message
pub noted-low : (n : ℕ) (l t : List ℕ) → length t ≡ 256 → (i : ℕ) → i < n → get_or (noted n l t) (get_or l (3 * i) 0 % 256) 0 ≤ get_or l (3 * i + 2) 0
unfolding noted
noted-low zero l t e i h = absurd (omega arith)
noted-low (suc n) l t e i h = go (dec_lt i n) (noted-low n l t e i)
  where
    u : List ℕ
    u = noted n l t

    a : ℕ
    a = get_or l (3 * n) 0 % 256

    b : ℕ
    b = get_or l (3 * i) 0 % 256

    inside : a < length u
    inside = omega (arith, length-noted n l t)

    at : (t : Bool) → eqb b a ≡ t → (i < n → get_or u b 0 ≤ get_or l (3 * i + 2) 0) → i < n → get_or (set u a (min (get_or u a 0) (get_or l (3 * n + 2) 0))) b 0 ≤ get_or l (3 * i + 2) 0
    at true s rest j =
        let q = eqb-true b a s in
        let r : get_or u a 0 ≤ get_or l (3 * i + 2) 0 = rw (← q) (rest j) in
        rw q (rw (get_or-set_same u a (min (get_or u a 0) (get_or l (3 * n + 2) 0)) 0 inside) (omega arith))
    at false s rest j = rw (get_or-set_other u a b (min (get_or u a 0) (get_or l (3 * n + 2) 0)) 0 (eqb-false b a s)) (rest j)

    go : Dec (i < n) → (i < n → get_or u b 0 ≤ get_or l (3 * i + 2) 0) → get_or (set u a (min (get_or u a 0) (get_or l (3 * n + 2) 0))) b 0 ≤ get_or l (3 * i + 2) 0
    go (yes j) rest = at (eqb b a) refl rest j
    go (no j) rest =
        let q : i ≡ n = omega arith in
        rw q (rw (get_or-set_same u a (min (get_or u a 0) (get_or l (3 * n + 2) 0)) 0 inside) (omega arith))

-- where neither the notes at first nor a message is before the limit, nothing noted is
pub noted-high : (limit n : ℕ) (l t : List ℕ) → All (λ x. limit ≤ x) t → ((i : ℕ) → i < n → limit ≤ get_or l (3 * i + 2) 0)
    → length t ≡ 256 → All (λ x. limit ≤ x) (noted n l t)
unfolding noted
noted-high limit zero l t x f e = x
noted-high limit (suc n) l t x f e =
    let rest = noted-high limit n l t x (λ i h. f i (omega arith)) e in
    let a : limit ≤ get_or (noted n l t) (get_or l (3 * n) 0 % 256) 0 = all-at rest (get_or l (3 * n) 0 % 256) 0 (omega (arith, length-noted n l t)) in
    let b : limit ≤ get_or l (3 * n + 2) 0 = f n (omega arith) in
    all_set rest (get_or l (3 * n) 0 % 256) (min (get_or (noted n l t) (get_or l (3 * n) 0 % 256) 0) (get_or l (3 * n + 2) 0)) (omega arith)

-- a note before the limit
pub before_at : (limit : ℕ) (t : List ℕ) (i : ℕ) → i < length t → get_or t i 0 < limit → some_of (before limit) t ≡ true
unfolding before
before_at limit t i h b = some_at (before limit) t i 0 h (lt-ltb (get_or t i 0) limit b)

-- none before it
pub before-none : (limit : ℕ) {t : List ℕ} → All (λ x. limit ≤ x) t → some_of (before limit) t ≡ false
unfolding before
before-none limit x = some-none (before limit) (all_map (λ a h. le-ltb a limit h) x)

none_before : (limit : ℕ) (t : List ℕ) → some_of (before limit) t ≡ false → All (λ x. limit ≤ x) t
unfolding before
none_before limit t e = all_map (λ a h. ltb-false a limit h) (none-some (before limit) t e)

-- the notes tell whether a message is overdue, where they begin at a time that is before no limit
pub noted-overdue : (time wait n : ℕ) (l t : List ℕ) → wait ≤ time → length t ≡ 256 → All (λ x. time - wait ≤ x) t
    → some_of (before (time - wait)) (noted n l t) ≡ overdue time wait (decode n l)
unfolding message_at message_of
noted-overdue time wait n l t h e x = go (some_of (before (time - wait)) (noted n l t)) refl (overdue time wait (decode n l)) refl
  where
    sent : (i : ℕ) → i < n → (get_or (decode n l) i no_message).sent.0 ≡ get_or l (3 * i + 2) 0
    sent i b = ap (λ (m : Message). m.sent.0) (decode-at n l i no_message b)

    quiet : some_of (before (time - wait)) (noted n l t) ≡ false → overdue time wait (decode n l) ≡ false
    quiet q =
        overdue-none time wait (all_of (decode n l) no_message
        (λ i b.
        let j : i < n = omega (arith, length-decode n l) in
        let low : time - wait ≤ get_or (noted n l t) (get_or l (3 * i) 0 % 256) 0 =
        all-at (none_before (time - wait) (noted n l t) q) (get_or l (3 * i) 0 % 256) 0 (omega (arith, length-noted n l t)) in
        omega (arith, noted-low n l t e i j, sent i j)))

    still : overdue time wait (decode n l) ≡ false → some_of (before (time - wait)) (noted n l t) ≡ false
    still q =
        before-none (time - wait)
        (noted-high (time - wait) n l t x
        (λ i b.
        let late : time ≤ (get_or (decode n l) i no_message).sent.0 + wait = all-at (none-overdue time wait (decode n l) q) i no_message (omega (arith, length-decode n l)) in
        omega (arith, sent i b))
        e)

    go : (a : Bool) → some_of (before (time - wait)) (noted n l t) ≡ a → (b : Bool) → overdue time wait (decode n l) ≡ b → a ≡ b
    go true p true q = refl
    go true p false q = sym p ∙ still q
    go false p true q = sym (quiet p) ∙ q
    go false p false q = refl

-- the notes begin at the largest number of a word
pub first-notes : (time wait : ℕ) → time < 2 ^ 64 → All (λ x. time - wait ≤ x) (replicate 256 last)
first-notes time wait h = all_replicate 256 last (omega arith)
