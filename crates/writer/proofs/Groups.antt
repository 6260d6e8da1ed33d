-- The bytes of a number made in a scratch array, and laid down byte by byte.
use Rattle.std.specs.Prelude.{ℕ, suc, ◌+◌, ◌*◌, ◌-◌, ◌/◌, ◌%◌, ◌^◌, ◌<◌, ◌≤◌, List, [], ◌∷◌, ◌++◌, ◌≡◌, refl, length, get_or, take, set, replicate}
use Rattle.std.proofs.Common.{append_assoc, ap, sym, ◌∙◌, pow-suc, div-lt_iff_lt-mul, add-one, arith, length-set, take-suc-set, length-take-le}
use Rattle.std.proofs.Math.Decide.{dec_lt}
use Rattle.std.proofs.Math.Seq.{paste-suc}
use Rattle.number.specs.Number.{groups, number_bytes, laid}
use Rattle.number.proofs.Laws.{groups-last}
use Rattle.writer.specs.Laws.{groups-more}

-- the first count bytes of a scratch array are these
pub record Grouped (bytes scratch : List ℕ) (count : ℕ) : Type 0 where
  pub scratch-length : length scratch ≡ 10
  pub few : count ≤ 10
  pub same : take count scratch ≡ bytes

pub grouped-count : {bytes scratch : List ℕ} {count : ℕ} → Grouped bytes scratch count → count ≡ length bytes
grouped-count {count = count} g = sym (length-take-le count _ (omega arith)) ∙ ap length g.same

-- while the groups of v are made: so many bytes of them stand in the scratch array, and the rest is to come
pub record Grouping (v : ℕ) (scratch : List ℕ) (count rest : ℕ) : Type 0 where
  pub scratch-length : length scratch ≡ 10
  pub few : count ≤ 9
  pub bound : rest < 2 * 128 ^ (9 - count)
  pub same : take count scratch ++ groups (9 - count) rest ≡ number_bytes v

pub grouping-start : (v : ℕ) → v < 2 ^ 64 → Grouping v (replicate 10 0) 0 v
unfolding number_bytes
grouping-start v h = record { scratch-length = refl; few = omega arith; bound = h; same = refl }

module _ (v : ℕ) (scratch : List ℕ) (count rest : ℕ) (g : Grouping v scratch count rest) where
  -- one more group: there is room for it, and then one left for the last
  module _ (more : 128 ≤ rest) where
    pub grouping-room : count < 9
    grouping-room = elim (dec_lt count 9) [
      | yes h ↦ h
      | no h ↦ let e : 9 - count ≡ 0 = omega arith in
          let b : rest < 2 * 128 ^ 0 = rw e at g.bound in
          absurd (omega arith)
    ]

    left : 9 - count ≡ suc (9 - (count + 1))
    left = omega (arith, grouping-room)

    pub grouping-next : Grouping v (set scratch count (128 + rest % 128)) (count + 1) (rest / 128)
    grouping-next =
        let room = grouping-room in
        let power : 128 ^ (9 - count) ≡ 128 ^ (9 - (count + 1)) * 128 = ap (λ (k : ℕ). 128 ^ k) left ∙ pow-suc 128 (9 - (count + 1)) in
        record {
          scratch-length = length-set scratch count (128 + rest % 128) ∙ g.scratch-length;
          few = omega arith;
          bound = (div-lt_iff_lt-mul {k = 128} {x = rest} {y = 2 * 128 ^ (9 - (count + 1))} (omega arith)).1 (omega (arith, g.bound));
          same =
              rw add-one (ap (λ (l : List ℕ). l ++ groups (9 - suc count) (rest / 128)) (take-suc-set scratch count (128 + rest % 128) (omega (arith, g.scratch-length))))
              ∙ append_assoc (take count scratch) ((128 + rest % 128) ∷ []) (groups (9 - (count + 1)) (rest / 128))
              ∙ ap (λ (l : List ℕ). take count scratch ++ l) (sym (next-groups)) ∙ g.same;
        }
      where
        next-groups : groups (9 - count) rest ≡ (128 + rest % 128) ∷ groups (9 - (count + 1)) (rest / 128)
        next-groups = groups-more (9 - count) rest (omega (arith, left)) more ∙ ap (λ (k : ℕ). (128 + rest % 128) ∷ groups k (rest / 128)) (omega (arith, left))

  -- the last group
  pub grouping-end : rest < 128 → Grouped (number_bytes v) (set scratch count rest) (count + 1)
  grouping-end h =
      record {
        scratch-length = length-set scratch count rest ∙ g.scratch-length;
        few = omega (arith, g.few);
        same =
            rw add-one (take-suc-set scratch count rest (omega (arith, g.few, g.scratch-length)))
            ∙ ap (λ (l : List ℕ). take count scratch ++ l) (sym (groups-last (9 - count) rest h))
            ∙ g.same;
      }

-- one byte more of what is laid down byte by byte
pub laid-byte : (out : List ℕ) (at : ℕ) (bytes : List ℕ) (i : ℕ) → at + i < length out → i < length bytes
    → set (laid out at (take i bytes)) (at + i) (get_or bytes i 0) ≡ laid out at (take (i + 1) bytes)
unfolding laid
laid-byte out at bytes i h b =
    let here : length (take i bytes) ≡ i = length-take-le i bytes (omega arith) in
    let next : length (take (suc i) bytes) ≡ suc i = length-take-le (suc i) bytes b in
    rw (add-one, here, next) (paste-suc out at bytes i 0 h b)
