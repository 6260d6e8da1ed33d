-- Laws of writing: how many bytes a number takes, what lies in the buffer while they are written, rows of numbers, a buffer
-- with room and one without, what is laid down in one part and row by row, and what a refusal writes.
use Rattle.std.specs.Prelude.{ℕ, zero, suc, ◌+◌, ◌*◌, ◌-◌, ◌/◌, ◌%◌, ◌^◌, ◌<◌, ◌≤◌, List, [], ◌∷◌, ◌++◌, ◌≡◌, refl, length, get_or, take, drop, set, max}
use Rattle.std.proofs.Common.{append_assoc, append-nil, ap, ap₂, sym, ◌∙◌, pow-suc, div-lt_iff_lt-mul, add-one, arith, le-leb, eq-eqb, ne_eqb, length-append, take-append-drop, take-suc, length-take-le, drop-cons}
use Rattle.std.proofs.Math.Decide.{dec_lt}
use Rattle.std.proofs.Math.Nat.{one-le-pow}
use Rattle.std.proofs.Math.Pow.{pow_mono}
use Rattle.std.proofs.lemmas.Nat.{pow-add}
use Rattle.std.proofs.lemmas.Bool.{lt-leb}
use Rattle.std.proofs.Math.Seq.{append_snoc, drop-drop}
use Rattle.std.proofs.lemmas.List.{set_at}
use Rattle.number.specs.Number.{groups, number_bytes, bytes_of, laid}
use Rattle.number.proofs.Laws.{groups-last, groups-on, groups-length, bytes-append, laid_none, laid_on, length-laid}
use Rattle.writer.specs.Write.{Written, Bytes, Refused, room, wrote, buffer, writes, leaves}

-- ---- a number

-- the bytes of a number go on with its next group
pub groups-more : (left v : ℕ) → 0 < left → 128 ≤ v → groups left v ≡ (128 + v % 128) ∷ groups (left - 1) (v / 128)
groups-more left v h b = let e : left ≡ suc (left - 1) = omega arith in ap (λ (k : ℕ). groups k v) e ∙ groups-on (left - 1) v b

-- with the highest bit of a number, how many groups of seven bits it has, so many of them before a tenth
pub groups-size : (left bit v : ℕ) → bit / 7 ≤ left → 2 ^ bit ≤ max v 1 → max v 1 < 2 * 2 ^ bit → length (groups left v) ≡ bit / 7 + 1
groups-size zero bit v few low high =
    let p : 2 ^ bit ≤ 2 ^ 6 = pow_mono {i = bit} {j = 6} (omega arith) in
    ap length (groups-last 0 v (omega arith)) ∙ omega arith
groups-size (suc left) bit v few low high = elim (dec_lt bit 7) [
  | yes h ↦
      let p : 2 ^ bit ≤ 2 ^ 6 = pow_mono {i = bit} {j = 6} (omega arith) in
      ap length (groups-last (suc left) v (omega arith)) ∙ omega arith
  | no h ↦
      let e : 2 ^ bit ≡ 2 ^ (bit - 7) * 2 ^ 7 = ap (λ k. 2 ^ k) (omega arith) ∙ pow-add 2 (bit - 7) 7 in
      let p : 1 ≤ 2 ^ (bit - 7) = one-le-pow (bit - 7) 2 (omega arith) in
      ap length (groups-on left v (omega arith))
      ∙ ap suc (groups-size left (bit - 7) (v / 128) (omega arith) (omega arith) (omega arith)) ∙ omega arith
]

-- while the groups of v are written from a place on: so many bytes of them lie there, and the rest is to come
pub record Putting (v : ℕ) (out₀ : List ℕ) (at : ℕ) (out : List ℕ) (place rest : ℕ) : Type 0 where
  pub made : List ℕ
  pub few : length made ≤ 9
  pub here : place ≡ at + length made
  pub bound : rest < 2 * 128 ^ (9 - length made)
  pub same : made ++ groups (9 - length made) rest ≡ number_bytes v
  pub lies : out ≡ laid out₀ at made

pub putting-start : (v : ℕ) (out : List ℕ) (at : ℕ) → v < 2 ^ 64 → Putting v out at out at v
unfolding number_bytes
putting-start v out at h =
    record { made = []; few = omega arith; here = omega arith; bound = h; same = refl; lies = sym (laid_none out at) }

-- one byte laid down
laid-one : (out : List ℕ) (at b : ℕ) → at < length out → set out at b ≡ laid out at (b ∷ [])
unfolding laid
laid-one out at b h =
    ap (λ (l : List ℕ). set l at b) (sym (take-append-drop at out) ∙ ap (λ (l : List ℕ). take at out ++ l) (rw add-one (drop-cons out at 0 h)))
    ∙ set_at (take at out) (get_or out at 0) (drop (at + 1) out) b at (length-take-le at out (omega arith))
    ∙ sym (append_snoc (take at out) b (drop (at + 1) out))

module _ (v : ℕ) (out₀ : List ℕ) (at : ℕ) (out : List ℕ) (place rest : ℕ) (g : Putting v out₀ at out place rest)
    (fits : at + length (number_bytes v) ≤ length out₀)
  where
    whole : length g.made + length (groups (9 - length g.made) rest) ≡ length (number_bytes v)
    whole = sym (length-append g.made (groups (9 - length g.made) rest)) ∙ ap length g.same

    same-length : length out ≡ length out₀
    same-length = ap length g.lies ∙ length-laid out₀ at g.made (omega (arith, whole))

    pub putting-fits : place < length out
    putting-fits = omega (arith, g.here, whole, same-length, (groups-length (9 - length g.made) rest).0)

    -- one byte more lies behind those that lie there
    lies-on : (b : ℕ) → set out place b ≡ laid out₀ at (g.made ++ (b ∷ []))
    lies-on b =
        laid-one out place b putting-fits
        ∙ ap₂ (λ (l : List ℕ) (k : ℕ). laid l k (b ∷ [])) g.lies g.here
        ∙ laid_on out₀ at g.made (omega (arith, whole)) (b ∷ [])

    -- one more group: there is room for it, and then one left for the last
    module _ (more : 128 ≤ rest) where
      below_nine : length g.made < 9
      below_nine = elim (dec_lt (length g.made) 9) [
        | yes h ↦ h
        | no h ↦ let e : 9 - length g.made ≡ 0 = omega (arith, g.few) in
            let b : rest < 2 * 128 ^ 0 = rw e at g.bound in
            absurd (omega arith)
      ]

      left : 9 - length g.made ≡ suc (9 - (length g.made + 1))
      left = omega (arith, below_nine)

      pub putting-next : Putting v out₀ at (set out place (128 + rest % 128)) (place + 1) (rest / 128)
      putting-next =
          let byte : ℕ = 128 + rest % 128 in
          let power : 128 ^ (9 - length g.made) ≡ 128 ^ (9 - (length g.made + 1)) * 128 = ap (λ (k : ℕ). 128 ^ k) left ∙ pow-suc 128 (9 - (length g.made + 1)) in
          let one : length (g.made ++ (byte ∷ [])) ≡ length g.made + 1 = length-append g.made (byte ∷ []) in
          let small : rest / 128 < 2 * 128 ^ (9 - (length g.made + 1)) =
          (div-lt_iff_lt-mul {k = 128} {x = rest} {y = 2 * 128 ^ (9 - (length g.made + 1))} (omega arith)).1 (omega (arith, g.bound))
          in
          record {
            made = g.made ++ (byte ∷ []);
            few = omega (arith, one, below_nine);
            here = omega (arith, one, g.here);
            bound = rw one small;
            same =
                rw one (append_assoc g.made (byte ∷ []) (groups (9 - (length g.made + 1)) (rest / 128)))
                ∙ ap (λ (l : List ℕ). g.made ++ l) (sym next-groups) ∙ g.same;
            lies = lies-on byte;
          }
        where
          next-groups : groups (9 - length g.made) rest ≡ (128 + rest % 128) ∷ groups (9 - (length g.made + 1)) (rest / 128)
          next-groups =
              groups-more (9 - length g.made) rest (omega (arith, left)) more
              ∙ ap (λ (k : ℕ). (128 + rest % 128) ∷ groups k (rest / 128)) (omega (arith, left))

    -- the last group
    pub putting-end : rest < 128 → (place + 1 ≡ at + length (number_bytes v)) × (set out place rest ≡ laid out₀ at (number_bytes v))
    putting-end h =
        let all : g.made ++ (rest ∷ []) ≡ number_bytes v =
        ap (λ (l : List ℕ). g.made ++ l) (sym (groups-last (9 - length g.made) rest h)) ∙ g.same
        in
        (omega (arith, g.here, ap length all, length-append g.made (rest ∷ [])), lies-on rest ∙ ap (laid out₀ at) all)

-- ---- rows of numbers

-- the bytes of one number more of a row
pub bytes-more : (vs : List ℕ) (i : ℕ) → i < length vs → bytes_of (take (suc i) vs) ≡ bytes_of (take i vs) ++ number_bytes (get_or vs i 0)
unfolding bytes_of
bytes-more vs i h =
    ap bytes_of (take-suc vs i 0 h) ∙ bytes-append (take i vs) (get_or vs i 0 ∷ [])
    ∙ ap (λ (l : List ℕ). bytes_of (take i vs) ++ l) (append-nil (number_bytes (get_or vs i 0)))

-- the first numbers of a row take no more bytes than the row
pub bytes-part : (vs : List ℕ) (i : ℕ) → length (bytes_of (take i vs)) ≤ length (bytes_of vs)
bytes-part vs i =
    let e : length (bytes_of vs) ≡ length (bytes_of (take i vs)) + length (bytes_of (drop i vs)) =
    ap (λ (l : List ℕ). length (bytes_of l)) (sym (take-append-drop i vs))
    ∙ ap length (bytes-append (take i vs) (drop i vs))
    ∙ length-append (bytes_of (take i vs)) (bytes_of (drop i vs))
    in
    omega arith

-- ---- a buffer

-- a buffer that is too short
pub short : (out : List ℕ) (at : ℕ) (bytes : List ℕ) → length out < at + length bytes
    → (Refused 25 ≡ wrote out at bytes) × (out ≡ buffer out at bytes)
unfolding wrote buffer room
short out at bytes h = (simp (lt-leb _ _ h), simp (lt-leb _ _ h))

-- and one that has room
pub long : (out : List ℕ) (at : ℕ) (bytes : List ℕ) → at + length bytes ≤ length out
    → (Bytes (length bytes) ≡ wrote out at bytes) × (laid out at bytes ≡ buffer out at bytes)
unfolding wrote buffer room
long out at bytes h = (simp (le-leb _ _ h), simp (le-leb _ _ h))

-- bytes copied over a part of the buffer
pub laid-part : (out : List ℕ) (at : ℕ) (bytes : List ℕ)
    → take at out ++ (bytes ++ drop (length bytes) (drop at out)) ≡ laid out at bytes
unfolding laid
laid-part out at bytes =
    sym (append_assoc (take at out) bytes (drop (length bytes) (drop at out)))
    ∙ ap (λ (l : List ℕ). take at out ++ bytes ++ l) (drop-drop (length bytes) at out)

-- two rows laid down one behind the other
pub rows-laid : (out : List ℕ) (at : ℕ) (vs ws : List ℕ) → at + length (bytes_of vs) ≤ length out
    → laid (laid out at (bytes_of vs)) (at + length (bytes_of vs)) (bytes_of ws) ≡ laid out at (bytes_of (vs ++ ws))
rows-laid out at vs ws h = laid_on out at (bytes_of vs) h (bytes_of ws) ∙ ap (laid out at) (sym (bytes-append vs ws))

-- ---- setups and events

module _ (number : ℕ) (out : List ℕ) (at : ℕ) (numbers : List ℕ) (r : ℕ) (e : r ≡ number) where
  -- what is refused writes nothing
  pub refused-writes : (r ≡ 0 → ⊥) → (Refused r ≡ writes number out at numbers) × (out ≡ leaves number out at numbers)
  unfolding writes leaves
  refused-writes h = rw (← e) (simp (ne_eqb r 0 h), simp (ne_eqb r 0 h))

  -- what is accepted is written as its numbers are
  pub accepted-writes : r ≡ 0 → (row : List ℕ) (w : Written) (b : List ℕ) → row ≡ numbers
      → (w ≡ wrote out at (bytes_of row)) × (b ≡ buffer out at (bytes_of row))
      → (w ≡ writes number out at numbers) × (b ≡ leaves number out at numbers)
  unfolding writes leaves
  accepted-writes h row w b same p = rw (← e, ← same) (simp (eq-eqb r 0 h) p.0, simp (eq-eqb r 0 h) p.1)
