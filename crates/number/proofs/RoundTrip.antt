-- A number's round trip, both ways: what is written reads back as the same number, to the place behind it; and the bytes
-- that read as a number are the bytes that it is written with. Both by induction on the bytes that may come before the
-- tenth.
use Rattle.std.specs.Prelude.{ℕ, zero, suc, ◌+◌, ◌*◌, ◌/◌, ◌%◌, ◌^◌, ◌<◌, ◌≤◌, List, [], ◌∷◌, ◌++◌, ◌≡◌, refl, length, get_or, drop}
use Rattle.std.proofs.Common.{append_assoc, ap, ap₂, sym, ◌∙◌, pow-suc, div-lt_iff_lt-mul, div-add-mod', mul_assoc, mul_comm, add-mul, add-one, arith, length-append, drop-cons, lt-ltb, le-ltb, le-leb, eq-eqb, ne_eqb}
use Rattle.std.proofs.Math.Nat.{one-le-pow}
use Rattle.std.proofs.Math.Decide.{dec_lt, ℕ_discrete}
use Rattle.std.proofs.Math.Seq.{get_or-append_seam}
use Rattle.std.proofs.lemmas.Bool.{lt-leb}
use Rattle.number.specs.Number.{Value, Refused}
use Rattle.number.specs.Number.{ends, number_from, read_number, groups, number_bytes}
use Rattle.number.proofs.Laws.{groups-last, groups-on}

-- ---- what is written reads back

-- a byte that ends a number, unless it is a zero after others
ends-value : (b w sum at : ℕ) → (b ≡ 0 → w ≡ 1) → ends b w sum at ≡ Value (sum + b * w) (at + 1)
unfolding ends
ends-value b w sum at h = elim (ℕ_discrete b 0) [
  | yes z ↦ simp (eq-eqb b 0 z, eq-eqb w 1 (h z))
  | no z ↦ simp (ne_eqb b 0 z)
]

-- the byte b stands at a place of s, and `post` behind it
record Here (s pre : List ℕ) (b : ℕ) (post : List ℕ) (at : ℕ) : Type 0 where
  split : s ≡ pre ++ b ∷ post
  place : length pre ≡ at

module _ (s pre : List ℕ) (b : ℕ) (post : List ℕ) (at : ℕ) (h : Here s pre b post at) where
  here_in : at < length s
  here_in = rw (h.split, length-append) (omega (arith, h.place))

  here-byte : get_or s at 0 ≡ b
  here-byte = rw (h.split, ← h.place) (get_or-append_seam pre b post 0)

fewer : (left v : ℕ) → v < 2 * 128 ^ suc left → v / 128 < 2 * 128 ^ left
fewer left v h = (div-lt_iff_lt-mul {k = 128} {x = v} {y = 2 * 128 ^ left} (omega arith)).1 (omega (arith, pow-suc 128 left))

-- a number is its lowest group and the rest
whole : (v w sum : ℕ) → sum + (128 + v % 128) % 128 * w + v / 128 * (w * 128) ≡ sum + v * w
whole v w sum =
    let low : (128 + v % 128) % 128 ≡ v % 128 = omega arith in
    let all : v * w ≡ (v / 128 * 128 + v % 128) * w = ap (λ (x : ℕ). x * w) (sym (div-add-mod' v 128)) in
    rw low (omega arith)

-- the number that is written from a place on, so many bytes before the tenth, after groups that make `sum`
written_from : (left v w sum : ℕ) (s pre post : List ℕ) (at : ℕ) → v < 2 * 128 ^ left → (v ≡ 0 → w ≡ 1)
    → s ≡ pre ++ (groups left v ++ post) → length pre ≡ at
    → number_from left s at w sum ≡ Value (sum + v * w) (at + length (groups left v))
unfolding number_from groups
written_from zero v w sum s pre post at small first e p =
    let h : Here s pre v post at = record { split = e; place = p } in
    simp (lt-leb _ _ (here_in s pre v post at h), here-byte s pre v post at h, le-ltb 1 v (omega arith)) (ends-value v w sum at first)
written_from (suc left) v w sum s pre post at small first e p = elim (dec_lt v 128) [
  | yes b ↦
      let h : Here s pre v post at =
      record { split = e ∙ ap (λ (l : List ℕ). pre ++ (l ++ post)) (groups-last (suc left) v b); place = p }
      in
      simp (lt-leb _ _ (here_in s pre v post at h), here-byte s pre v post at h, lt-ltb v 128 b) (ends-value v w sum at first)
  | no b ↦
      let byte : ℕ = 128 + v % 128 in
      let rest : List ℕ = groups left (v / 128) ++ post in
      let h : Here s pre byte rest at = record { split = e ∙ ap (λ (l : List ℕ). pre ++ (l ++ post)) (groups-on left v (omega arith)); place = p } in
      simp (lt-leb _ _ (here_in s pre byte rest at h), here-byte s pre byte rest at h, le-ltb byte 128 (omega arith), le-ltb v 128 (omega arith))
      (written_from left (v / 128) (w * 128) (sum + byte % 128 * w) s (pre ++ (byte ∷ [])) post (at + 1) (fewer left v small)
      (λ z. absurd (omega arith)) (h.split ∙ sym (append_assoc pre (byte ∷ []) rest)) (length-append pre (byte ∷ []) ∙ omega arith)
      ∙ ap₂ Value (whole v w sum) (omega arith))
]

-- a number that is written somewhere in s reads back from there
pub number-back : (v : ℕ) (pre post : List ℕ) → v < 2 ^ 64
    → read_number (pre ++ (number_bytes v ++ post)) (length pre) ≡ Value v (length pre + length (number_bytes v))
unfolding read_number number_bytes
number-back v pre post h =
    written_from 9 v 1 0 (pre ++ (groups 9 v ++ post)) pre post (length pre) h (λ z. refl) refl refl
    ∙ ap (λ (x : ℕ). Value x (length pre + length (groups 9 v))) (omega arith)

-- ---- what reads is written so

-- the bytes of s from a place on are those of u, after groups that make `sum`
record Spelt (left : ℕ) (s : List ℕ) (at w sum r next : ℕ) : Type 0 where
  u : ℕ
  small : u < 2 * 128 ^ left
  value : r ≡ sum + u * w
  first : u ≡ 0 → w ≡ 1
  bytes : drop at s ≡ groups left u ++ drop next s
  inside : next ≤ length s

not-value : {A : Type 0} (number r next : ℕ) → Refused number ≡ Value r next → A
not-value number r next e = let z : ◌≡◌ {A = ℕ} 0 1 = cc in absurd (omega arith)

-- a byte that ended a number
record Ended (b w sum at r next : ℕ) : Type 0 where
  value : r ≡ sum + b * w
  behind : next ≡ at + 1
  first : b ≡ 0 → w ≡ 1

ended_by : (b w sum at r next : ℕ) → Value (sum + b * w) (at + 1) ≡ Value r next → (b ≡ 0 → w ≡ 1) → Ended b w sum at r next
ended_by b w sum at r next e first = record { value = cc; behind = cc; first = first }

ended : (b w sum at r next : ℕ) → ends b w sum at ≡ Value r next → Ended b w sum at r next
unfolding ends
ended b w sum at r next e = elim (ℕ_discrete b 0) [
  | yes z ↦
      elim (ℕ_discrete w 1) [
        | yes o ↦ ended_by b w sum at r next (simp (eq-eqb b 0 z, eq-eqb w 1 o) at e) (λ x. o)
        | no o ↦ not-value 22 r next (simp (eq-eqb b 0 z, ne_eqb w 1 o) at e)
      ]
  | no z ↦ ended_by b w sum at r next (simp (ne_eqb b 0 z) at e) (λ x. absurd (z x))
]

-- one last byte
spelt-last : (left : ℕ) (s : List ℕ) (at w sum r next : ℕ) → at < length s → get_or s at 0 < 2 * 128 ^ left
    → groups left (get_or s at 0) ≡ get_or s at 0 ∷ [] → Ended (get_or s at 0) w sum at r next → Spelt left s at w sum r next
spelt-last left s at w sum r next h small one e =
    let behind : next ≡ suc at = e.behind ∙ add-one at in
    record {
      u = get_or s at 0;
      small = small;
      value = e.value;
      first = e.first;
      bytes = rw (one, behind) (drop-cons s at 0 h);
      inside = omega arith;
    }

-- a byte that another follows
spelt-more : (left : ℕ) (s : List ℕ) (at w sum r next : ℕ) → at < length s → 128 ≤ get_or s at 0 → get_or s at 0 < 256
    → Spelt left s (at + 1) (w * 128) (sum + get_or s at 0 % 128 * w) r next → Spelt (suc left) s at w sum r next
spelt-more left s at w sum r next h high byte p =
    let b : ℕ = get_or s at 0 in
    let rest : ℕ = p.u in
    let more : 0 < rest = elim (ℕ_discrete rest 0) [ yes z ↦ absurd (omega (arith, p.first z)) | no z ↦ omega arith ] in
    let u : ℕ = rest * 128 + b % 128 in
    let up : rest ≡ u / 128 = omega arith in
    let low : b ≡ 128 + u % 128 = omega arith in
    let power : 128 ^ suc left ≡ 128 ^ left * 128 = pow-suc 128 left in
    let all : u * w ≡ rest * (w * 128) + b % 128 * w =
    add-mul (rest * 128) (b % 128) w ∙ ap (λ (x : ℕ). x + b % 128 * w) (mul_assoc rest 128 w ∙ ap (λ (x : ℕ). rest * x) (mul_comm 128 w))
    in
    record {
      u = u;
      small = omega (arith, p.small);
      value = p.value ∙ omega arith;
      first = λ z. absurd (omega arith);
      bytes =
          drop-cons s at 0 h ∙ ap₂ (λ (x : ℕ) (l : List ℕ). x ∷ l) low (ap (λ (k : ℕ). drop k s) (sym (add-one at)) ∙ p.bytes
          ∙ ap (λ (x : ℕ). groups left x ++ drop next s) up)
          ∙ ap (λ (l : List ℕ). l ++ drop next s) (sym (groups-on left u (omega arith)));
      inside = p.inside;
    }

read-from : (left : ℕ) (s : List ℕ) (at w sum r next : ℕ) → ((i : ℕ) → get_or s i 0 < 256)
    → number_from left s at w sum ≡ Value r next → Spelt left s at w sum r next
unfolding number_from
read-from zero s at w sum r next byte e = elim (dec_lt at (length s)) [
  | yes h ↦
      elim (dec_lt 1 (get_or s at 0)) [
        | yes b ↦ not-value 23 r next (simp (lt-leb _ _ h, lt-ltb _ _ b) at e)
        | no b ↦
            spelt-last 0 s at w sum r next h (omega arith) (groups-last 0 (get_or s at 0) (omega arith))
            (ended (get_or s at 0) w sum at r next (simp (lt-leb _ _ h, le-ltb 1 (get_or s at 0) (omega arith)) at e))
      ]
  | no h ↦ not-value 21 r next (simp (le-leb (length s) at (omega arith)) at e)
]
read-from (suc left) s at w sum r next byte e = elim (dec_lt at (length s)) [
  | yes h ↦
      elim (dec_lt (get_or s at 0) 128) [
        | yes b ↦
            spelt-last (suc left) s at w sum r next h (omega (arith, pow-suc 128 left, one-le-pow left 128 (omega arith))) (groups-last (suc left) (get_or s at 0) b)
            (ended (get_or s at 0) w sum at r next (simp (lt-leb _ _ h, lt-ltb _ _ b) at e))
        | no b ↦
            spelt-more left s at w sum r next h (omega arith) (byte at)
            (read-from left s (at + 1) (w * 128) (sum + get_or s at 0 % 128 * w) r next byte
            (simp (lt-leb _ _ h, le-ltb (get_or s at 0) 128 (omega arith)) at e))
      ]
  | no h ↦ not-value 21 r next (simp (le-leb (length s) at (omega arith)) at e)
]

-- a number that reads whole was written by the writer of numbers
pub record Numbered (s : List ℕ) (at v next : ℕ) : Type 0 where
  pub small : v < 2 ^ 64
  pub bytes : drop at s ≡ number_bytes v ++ drop next s
  pub inside : next ≤ length s

pub number-again : (s : List ℕ) (at v next : ℕ) → ((i : ℕ) → get_or s i 0 < 256) → read_number s at ≡ Value v next → Numbered s at v next
unfolding read_number number_bytes
number-again s at v next byte e =
    let p = read-from 9 s at 1 0 v next byte e in
    let same : v ≡ p.u = omega (arith, p.value) in
    record { small = omega (arith, p.small); bytes = rw same p.bytes; inside = p.inside }
