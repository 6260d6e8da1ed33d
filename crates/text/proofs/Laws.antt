-- Laws of the lines: how long their parts are, and what one more digit in front or one more piece behind makes of the buffer.
use Prim.Native.Nat.{ℕ, zero, suc, ◌+◌, ◌*◌, ◌-◌, ◌/◌, ◌%◌, ◌^◌, ◌<◌, ◌≤◌}
use Rattle.std.specs.Prelude.{Bool, true, false, List, [], ◌∷◌, ◌++◌, ◌≡◌, max, length, get_or, set, take, drop}
use Rattle.std.proofs.Common.{append_assoc, ap, sym, ◌∙◌, div-one, pow-suc, add-one, arith, length-append, length-take, length-set, take-suc, lt-ltb, le-ltb, le-leb}
use Rattle.std.proofs.Math.Path.{refl}
use Rattle.std.proofs.Math.Decide.{dec_lt}
use Rattle.std.proofs.Math.Nat.{div-div-eq-div-mul}
use Rattle.std.proofs.lemmas.Bool.{lt-leb}
use Rattle.clock.specs.Pick.{pick}
use Rattle.number.specs.Number.{laid}
use Rattle.number.proofs.Laws.{laid_none, laid_on, length-laid}
use Rattle.mask.specs.Mask.{has}
use Rattle.line.specs.declared.Line.{Line}
use Rattle.line.specs.Run.{Run, no_station, station_at}
use Rattle.line.specs.Held.{run_of}
use Rattle.line.specs.HeldLaws.{place-some}
use Rattle.setup.specs.declared.Plan.{Plan}
use Rattle.station.specs.declared.Station.{Station}
use Rattle.text.specs.Text.{places_from, places, last_digits, decimal, single, spaced, round_of, shown_round, rounds_to, event_end, roomy, fits, fits_end}

-- as many digits as asked for
pub length_digits : (k x : ℕ) → length (last_digits k x) ≡ k
unfolding last_digits
length_digits zero x = refl
length_digits (suc k) x = ap suc (length_digits k x)

pub length-decimal : (x : ℕ) → length (decimal x) ≡ places x
unfolding decimal
length-decimal x = length_digits (places x) x

-- from 1 to 20
pub places-most : (left x : ℕ) → (1 ≤ places_from left x) × (places_from left x ≤ left + 1)
unfolding places_from
places-most zero x = (omega arith, omega arith)
places-most (suc left) x = elim (dec_lt x 10) [
  | yes h ↦ rw (lt-ltb x 10 h) (omega arith, omega arith)
  | no h ↦ rw (le-ltb x 10 (omega arith)) (omega (arith, (places-most left (x / 10)).0), omega (arith, (places-most left (x / 10)).1))
]

pub places-zero : (y : ℕ) → places_from 0 y ≡ 1
unfolding places_from
places-zero y = refl

pub places-low : (left x : ℕ) → x < 10 → places_from (suc left) x ≡ 1
unfolding places_from
places-low left x h = rw (lt-ltb x 10 h) refl

pub places-high : (left x : ℕ) → 10 ≤ x → places_from (suc left) x ≡ places_from left (x / 10) + 1
unfolding places_from
places-high left x h = rw (le-ltb x 10 h) refl

ten-some : (k : ℕ) → 1 ≤ 10 ^ k
ten-some zero = omega arith
ten-some (suc k) = omega (arith, pow-suc 10 k, ten-some k)

-- one more than the power of ten that the number reaches
places-power : (left k x : ℕ) → k ≤ left → 10 ^ k ≤ x → x < 10 * 10 ^ k → places_from left x ≡ k + 1
places-power zero zero x h low high = places-zero x
places-power zero (suc k) x h low high = absurd (omega arith)
places-power (suc left) zero x h low high = places-low left x (omega arith)
places-power (suc left) (suc k) x h low high =
    let more = pow-suc 10 k in
    places-high left x (omega (arith, more, ten-some k))
    ∙ omega (arith, places-power left k (x / 10) (omega arith) (omega (arith, more)) (omega (arith, more)))

-- and 0 has as many digits as 1
pub places-max : (k x : ℕ) → k < 20 → 10 ^ k ≤ max x 1 → max x 1 < 10 * 10 ^ k → k + 1 ≡ places x
unfolding places
places-max zero zero h low high = sym (places-low 18 0 (omega arith))
places-max (suc k) zero h low high = absurd (omega (arith, pow-suc 10 k, ten-some k))
places-max k (suc x) h low high = sym (places-power 19 k (suc x) (omega arith) (omega arith) (omega arith))

-- ---- one digit in front

set-seam : (p : List ℕ) (x : ℕ) (q : List ℕ) (at b : ℕ) → length p ≡ at → set (p ++ x ∷ q) at b ≡ p ++ b ∷ q
set-seam [] x q at b e = rw (← e) refl
set-seam (w ∷ p) x q zero b e = absurd (omega arith)
set-seam (w ∷ p) x q (suc at) b e = ap (λ (t : List ℕ). w ∷ t) (set-seam p x q at b (omega arith))

-- a byte just in front of those that lie
pub laid-front : (out : List ℕ) (p : ℕ) (bytes : List ℕ) (b : ℕ) → p < length out → set (laid out (p + 1) bytes) p b ≡ laid out p (b ∷ bytes)
unfolding laid
laid-front out p bytes b h =
    let e : p + 1 ≡ suc p = omega arith in
    let len : length (take p out) ≡ p = length-take p out ∙ omega arith in
    let d : p + length (b ∷ bytes) ≡ p + 1 + length bytes = omega arith in
    let rest : List ℕ = drop (p + 1 + length bytes) out in
    let apart : take p out ++ (get_or out p 0 ∷ []) ++ bytes ++ rest ≡ take p out ++ (get_or out p 0 ∷ (bytes ++ rest)) = simp append_assoc in
    let joined : take p out ++ (b ∷ (bytes ++ rest)) ≡ take p out ++ (b ∷ bytes) ++ rest = simp append_assoc in
    rw d
    (ap (λ (t : List ℕ). set (t ++ bytes ++ rest) p b) (ap (λ (k : ℕ). take k out) e ∙ take-suc out p 0 h)
    ∙ ap (λ (t : List ℕ). set t p b) apart
    ∙ set-seam (take p out) (get_or out p 0) (bytes ++ rest) p b len
    ∙ joined)

-- one byte alone
pub laid_one : (out : List ℕ) (p b : ℕ) → p + 1 ≤ length out → set out p b ≡ laid out p (b ∷ [])
laid_one out p b h = ap (λ (t : List ℕ). set t p b) (sym (laid_none out (p + 1))) ∙ laid-front out p [] b (omega arith)

-- ---- spelling a number, the last digit first

-- all but the first `left` of its digits lie behind their place, and this is left of it
pub record Spelt (x : ℕ) (out₀ : List ℕ) (at count : ℕ) (out : List ℕ) (rest left : ℕ) : Type 0 where
  pub most : left ≤ count
  pub long : length out ≡ length out₀
  pub number : rest ≡ x / 10 ^ (count - left)
  pub same : out ≡ laid out₀ (at + left) (last_digits (count - left) x)

pub spelt-start : (x : ℕ) (out : List ℕ) (at count : ℕ) → Spelt x out at count out x count
unfolding last_digits
spelt-start x out at count =
    let z : count - count ≡ 0 = omega arith in
    record {
      most = omega arith;
      long = refl;
      number = rw z (sym (div-one x));
      same = rw z (sym (laid_none out (at + count)));
    }

pub spelt-next : (x : ℕ) (out₀ : List ℕ) (at count : ℕ) (out : List ℕ) (rest left : ℕ) → at + count ≤ length out₀ → (left ≡ 0 → ⊥)
    → Spelt x out₀ at count out rest left → Spelt x out₀ at count (set out (at + (left - 1)) (48 + rest % 10)) (rest / 10) (left - 1)
unfolding last_digits
spelt-next x out₀ at count out rest left room ne s = go (left - 1) (count - left) (omega (arith, ne)) (omega (arith, s.most))
  where
    go : (l k : ℕ) → left ≡ suc l → count ≡ suc l + k → Spelt x out₀ at count (set out (at + (left - 1)) (48 + rest % 10)) (rest / 10) (left - 1)
    go l k e f =
        let a : left - 1 ≡ l = omega arith in
        let b : count - left ≡ k = omega arith in
        let d : count - l ≡ suc k = omega arith in
        let g : at + left ≡ at + l + 1 = omega arith in
        let n : rest ≡ x / 10 ^ k = s.number ∙ ap (λ (j : ℕ). x / 10 ^ j) b in
        let o : out ≡ laid out₀ (at + l + 1) (last_digits k x) = s.same ∙ rw (g, b) refl in
        rw a (record {
          most = omega arith;
          long = length-set out (at + l) (48 + rest % 10) ∙ s.long;
          number = rw (d, n) (div-div-eq-div-mul x (10 ^ k) 10 ∙ ap (λ (j : ℕ). x / j) (sym (pow-suc 10 k)));
          same = rw (d, o, n) (laid-front out₀ (at + l) (last_digits k x) (48 + x / 10 ^ k % 10) (omega arith));
        })

-- no digit is left
pub spelt-end : {x : ℕ} {out₀ : List ℕ} {at count : ℕ} {out : List ℕ} {rest left : ℕ} → count ≡ places x → left ≡ 0
    → Spelt x out₀ at count out rest left → out ≡ laid out₀ at (decimal x)
unfolding decimal
spelt-end {x} {out₀} {at} {count} {out} {rest} {left} c e s =
    let a : at + left ≡ at = omega arith in
    let b : count - left ≡ places x = omega arith in
    s.same ∙ rw (a, b) refl

pub places-few : (x : ℕ) → places x ≤ 20
unfolding places
places-few x = (places-most 19 x).1

-- one digit
pub one-digit : (x : ℕ) → x < 10 → (places x ≡ 1) × (decimal x ≡ single (48 + x))
unfolding places decimal last_digits
one-digit x h =
    let p : places_from 19 x ≡ 1 = places-low 18 x h in
    let d : x / 1 % 10 ≡ x = omega arith in
    (p, rw (p, d) refl)

-- two digits
pub two_digits : (x : ℕ) → 10 ≤ x → x < 100 → (places x ≡ 2) × (decimal x ≡ last_digits 2 x)
unfolding places decimal
two_digits x b h =
    let p : places_from 19 x ≡ 2 = rw (places-high 18 x b, places-low 17 (x / 10) (omega arith)) refl in
    (p, rw p refl)

-- the tens and the ones behind them
pub last-two : (x : ℕ) → x < 100 → last_digits 2 x ≡ single (48 + x / 10) ++ single (48 + x % 10)
unfolding last_digits
last-two x h =
    let a : x / 10 ^ 1 % 10 ≡ x / 10 = omega arith in
    let b : x / 10 ^ 0 % 10 ≡ x % 10 = omega arith in
    rw (a, b) refl

-- four digits are two and two
pub four-digits : (x : ℕ) → 1000 ≤ x → x < 10000 → (places x ≡ 4) × (decimal x ≡ last_digits 2 (x / 100) ++ last_digits 2 (x % 100))
unfolding places decimal last_digits
four-digits x b h =
    let p : places_from 19 x ≡ 4 =
    rw (places-high 18 x (omega arith), places-high 17 (x / 10) (omega arith), places-high 16 (x / 10 / 10) (omega arith), places-low 15 (x / 10 / 10 / 10) (omega arith)) refl in
    let d₃ : x / 10 ^ 3 % 10 ≡ x / 100 / 10 ^ 1 % 10 = omega arith in
    let d₂ : x / 10 ^ 2 % 10 ≡ x / 100 / 10 ^ 0 % 10 = omega arith in
    let d₁ : x / 10 ^ 1 % 10 ≡ x % 100 / 10 ^ 1 % 10 = omega arith in
    let d₀ : x / 10 ^ 0 % 10 ≡ x % 100 / 10 ^ 0 % 10 = omega arith in
    (p, rw p (four d₃ d₂ d₁ d₀))
  where
    four : {a b c d e f g i : ℕ} → a ≡ e → b ≡ f → c ≡ g → d ≡ i
        → (48 + a) ∷ (48 + b) ∷ (48 + c) ∷ (48 + d) ∷ [] ≡ (48 + e) ∷ (48 + f) ∷ (48 + g) ∷ (48 + i) ∷ []
    four p q r s = rw (p, q, r, s) refl

-- ---- one piece behind another

-- what is laid behind what was laid is both laid
pub laid_both : (out : List ℕ) (at : ℕ) (a b : List ℕ) {w v : List ℕ} {next : ℕ} → at + length a ≤ length out → w ≡ laid out at a → next ≡ at + length a
    → v ≡ laid w next b → v ≡ laid out at (a ++ b)
laid_both out at a b h e n f = f ∙ rw (e, n) (laid_on out at a h b)

-- these bytes are written from `at` on, the next go to `next`, and there is room for `left` more
pub record Written (out : List ℕ) (at : ℕ) (bytes : List ℕ) (left : ℕ) (w : List ℕ) (next : ℕ) : Type 0 where
  pub place : next ≡ at + length bytes
  pub same : w ≡ laid out at bytes
  pub long : length w ≡ length out
  pub room : next + left ≤ length w

-- nothing yet
pub written_none : (out : List ℕ) (at left : ℕ) → at + left ≤ length out → Written out at [] left out at
written_none out at left h = record { place = omega arith; same = sym (laid_none out at); long = refl; room = h }

-- one piece more
pub written-more : {out : List ℕ} {at : ℕ} {bytes : List ℕ} {before : ℕ} {w : List ℕ} {next : ℕ} → Written out at bytes before w next
    → (piece : List ℕ) (left : ℕ) → length piece + left ≤ before → {v : List ℕ} {n : ℕ} → n ≡ next + length piece → v ≡ laid w next piece
    → Written out at (bytes ++ piece) left v n
written-more {out} {at} {bytes} h piece left most {v} {n} e f =
    let len = length-append bytes piece in
    let same = laid_both out at bytes piece (omega arith) h.same h.place f in
    let long = ap length same ∙ length-laid out at (bytes ++ piece) (omega arith) in
    record { place = omega arith; same = same; long = long; room = omega arith }

pub length-spaced : (x : ℕ) → length (spaced x) ≡ places x + 1
unfolding spaced
length-spaced x = omega (arith, length-decimal x)

-- a number in front
pub written-decimal : (out : List ℕ) (at x left : ℕ) → at + (20 + left) ≤ length out → {v : List ℕ} {n : ℕ} → n ≡ at + places x
    → v ≡ laid out at (decimal x) → Written out at (decimal x) left v n
written-decimal out at x left h e f =
    written-more (written_none out at (20 + left) h) (decimal x) left (omega (arith, length-decimal x, places-few x))
    (e ∙ omega (arith, length-decimal x)) f

-- a space and a number behind
pub written-spaced : {out : List ℕ} {at : ℕ} {bytes : List ℕ} {before : ℕ} {w : List ℕ} {next : ℕ} → Written out at bytes before w next
    → (x left : ℕ) → 21 + left ≤ before → {v : List ℕ} {n : ℕ} → n ≡ next + (places x + 1) → v ≡ laid w next (spaced x)
    → Written out at (bytes ++ spaced x) left v n
written-spaced h x left most e f =
    written-more h (spaced x) left (omega (arith, length-spaced x, places-few x)) (e ∙ omega (arith, length-spaced x)) f

-- for station i of the line it is read off its place in the table
pub round-shown : (l : Line) (i : ℕ) (s : Station) → i < l.plan.stations → s ≡ get_or l.stations i no_station
    → shown_round l.plan.faulty i s.round ≡ round_of (run_of l []) i
unfolding round_of run_of
round-shown l i s h e =
    ap (λ (x : Station). shown_round l.plan.faulty i x.round) (e ∙ place-some l.plan.stations l.stations i h)

-- a round takes 21 bytes at most
pub round-most : (r : Run) (i : ℕ) → length (round_of r i) ≤ 21
unfolding round_of
round-most r i = go (has r.plan.faulty i)
  where
    go : (b : Bool) → length (pick b (32 ∷ 45 ∷ []) (spaced (station_at r i).round)) ≤ 21
    go true = omega arith
    go false = omega (arith, length-spaced (station_at r i).round, places-few (station_at r i).round)

pub rounds-most : (r : Run) (k : ℕ) → length (rounds_to r k) ≤ 21 * k
unfolding rounds_to
rounds-most r zero = omega arith
rounds-most r (suc k) = omega (arith, length-append (rounds_to r k) (round_of r k), rounds-most r k, round-most r k)

-- the rounds of at most twelve stations behind
pub written-rounds : {out : List ℕ} {at : ℕ} {bytes : List ℕ} {before : ℕ} {w : List ℕ} {next : ℕ} → Written out at bytes before w next
    → (r : Run) (k left : ℕ) → k ≤ 12 → 252 + left ≤ before → {v : List ℕ} {n : ℕ} → n ≡ next + length (rounds_to r k)
    → v ≡ laid w next (rounds_to r k) → Written out at (bytes ++ rounds_to r k) left v n
written-rounds h r k left few most e f = written-more h (rounds_to r k) left (omega (arith, rounds-most r k)) e f

module _ (r : Run) (out : List ℕ) (at : ℕ) where
  -- before the first round
  pub rounds-start : at + 252 ≤ length out → Written out at (rounds_to r 0) 252 out at
  unfolding rounds_to
  rounds-start h = written_none out at 252 h

  -- and after one more
  pub rounds-next : (i : ℕ) → i < 12 → {w v : List ℕ} {next n : ℕ} → Written out at (rounds_to r i) (21 * (12 - i)) w next
      → n ≡ next + length (round_of r i) → v ≡ laid w next (round_of r i) → Written out at (rounds_to r (i + 1)) (21 * (12 - (i + 1))) v n
  unfolding rounds_to
  rounds-next i b h e f = rw (add-one i) (written-more h (round_of r i) (21 * (12 - suc i)) (omega (arith, round-most r i)) e f)

-- ---- the same end

rounds-same : (r s : Run) (k : ℕ) → r.plan ≡ s.plan → ((i : ℕ) → i < k → (station_at r i).round ≡ (station_at s i).round) → rounds_to r k ≡ rounds_to s k
unfolding rounds_to round_of
rounds-same r s zero p h = refl
rounds-same r s (suc k) p h = rw (rounds-same r s k p (λ i b. h i (omega arith)), p, h k (omega arith)) refl

-- two runs of one plan at one time whose stations are in the same rounds
pub end_same : (r s : Run) → r.plan ≡ s.plan → r.time ≡ s.time
    → ((i : ℕ) → i < r.plan.stations → (station_at r i).round ≡ (station_at s i).round) → event_end r ≡ event_end s
unfolding event_end
end_same r s p t h =
    let rounds = rounds-same r s r.plan.stations p h ∙ ap (λ (q : Plan). rounds_to s q.stations) p in
    rw (rounds, t) refl

-- ---- where there is no room

pub fits_not : (l : Line) (out : List ℕ) (at : ℕ) → 12 < l.plan.stations → fits l out at ≡ false
unfolding fits
fits_not l out at h = rw (lt-leb l.plan.stations 12 h) refl

pub fits-well : (l : Line) (out : List ℕ) (at : ℕ) → l.plan.stations ≤ 12 → at + 320 ≤ length out → fits l out at ≡ true
unfolding fits roomy
fits-well l out at h b = rw (le-leb l.plan.stations 12 h, le-leb (at + 320) (length out) b) refl

pub fits-none : (l : Line) (out : List ℕ) (at : ℕ) → l.plan.stations ≤ 12 → roomy out at ≡ false → fits l out at ≡ false
unfolding fits
fits-none l out at h b = rw (le-leb l.plan.stations 12 h, b) refl

module _ (end out : List ℕ) (at : ℕ) where
  pub end-long : 278 < length end → fits_end end out at ≡ false
  unfolding fits_end
  end-long h = rw (lt-leb (length end) 278 h) refl

  pub end_none : length end ≤ 278 → roomy out at ≡ false → fits_end end out at ≡ false
  unfolding fits_end
  end_none h b = rw (le-leb (length end) 278 h, b) refl

  pub fits-end : length end ≤ 278 → roomy out at ≡ true → fits_end end out at ≡ true
  unfolding fits_end
  fits-end h b = rw (le-leb (length end) 278 h, b) refl
