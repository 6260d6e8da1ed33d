-- Numbers that are put one by one into the twelve places: what stands there, and that it ends with them all.
use Rattle.std.specs.Prelude.{ℕ, suc, ◌+◌, ◌-◌, ◌<◌, ◌≤◌, List, [], ◌∷◌, ◌++◌, ◌≡◌, refl, length, set, replicate}
use Rattle.std.proofs.Common.{ap, ap₂, sym, ◌∙◌, arith, append-nil, length-append}
use Rattle.std.proofs.Math.Seq.{append_snoc}
use Rattle.std.proofs.lemmas.List.{set_at}
use Rattle.number.specs.Number.{Number, Value, Refused, read_number}
use Rattle.script.specs.Read.{on_number, many, stopped, and_many, read_many, padded, as_numbers}
use Rattle.script.proofs.ReadLaws.{and_all, all_one, all-many, all-stopped}

-- one number more in the twelve places
pub padded-more : (vs : List ℕ) (v : ℕ) → length vs < 12 → set (padded vs) (length vs) v ≡ padded (vs ++ (v ∷ []))
unfolding padded
padded-more vs v h =
    let here : 12 - length vs ≡ suc (12 - suc (length vs)) = omega arith in
    let long : length (vs ++ (v ∷ [])) ≡ suc (length vs) = length-append vs (v ∷ []) ∙ omega arith in
    ap (λ (k : ℕ). set (vs ++ replicate k 0) (length vs) v) here
    ∙ set_at vs 0 (replicate (12 - suc (length vs)) 0) v (length vs) refl
    ∙ sym (append_snoc vs v (replicate (12 - suc (length vs)) 0))
    ∙ ap (λ (k : ℕ). vs ++ (v ∷ []) ++ replicate (12 - k) 0) (sym long)

-- of count numbers at a place, i are read and stand in the twelve places; the others begin at `place`
pub record Taken (s : List ℕ) (at count : ℕ) (values : List ℕ) (place i : ℕ) : Type 0 where
  pub vs : List ℕ
  pub few : i ≤ count
  pub long : length vs ≡ i
  pub same : values ≡ padded vs
  pub goes : read_many count s at ≡ and_all vs (read_many (count - i) s place)

pub taken_none : (s : List ℕ) (at count : ℕ) → Taken s at count (replicate 12 0) at 0
unfolding padded
taken_none s at count =
    let e : count - 0 ≡ count = omega arith in
    record { vs = []; few = omega arith; long = refl; same = refl; goes = rw e refl }

module _ (s : List ℕ) (at count : ℕ) (values : List ℕ) (place i : ℕ) (t : Taken s at count values place i) where
  module _ (more : i < count) where
    step : read_many (count - i) s place ≡ on_number (read_number s place) (λ v next. and_many v (read_many (count - (i + 1)) s next)) stopped
    unfolding read_many
    step = let e : count - i ≡ suc (count - (i + 1)) = omega arith in rw e refl

    pub taken_next : count ≤ 12 → (v next : ℕ) → read_number s place ≡ Value v next → Taken s at count (set values i v) next (i + 1)
    taken_next most v next e = record {
      vs = t.vs ++ (v ∷ []);
      few = omega arith;
      long = length-append t.vs (v ∷ []) ∙ omega (arith, t.long);
      same =
          ap₂ (λ (l : List ℕ) (k : ℕ). set l k v) t.same (sym t.long)
          ∙ padded-more t.vs v (omega (arith, t.long));
      goes =
          t.goes ∙ ap (and_all t.vs) (step ∙ ap (λ (r : Number). on_number r (λ v next. and_many v (read_many (count - (i + 1)) s next)) stopped) e)
          ∙ sym (all_one t.vs v (read_many (count - (i + 1)) s next));
    }

    pub taken-stopped : (number : ℕ) → read_number s place ≡ Refused number → read_many count s at ≡ stopped number
    taken-stopped number e =
        t.goes ∙ ap (and_all t.vs) (step ∙ ap (λ (r : Number). on_number r (λ v next. and_many v (read_many (count - (i + 1)) s next)) stopped) e)
        ∙ all-stopped t.vs number

  pub taken-all : count ≤ i → read_many count s at ≡ many t.vs place
  unfolding read_many
  taken-all h =
      let e : count - i ≡ 0 = omega arith in
      t.goes ∙ ap (λ (k : ℕ). and_all t.vs (read_many k s place)) e ∙ all-many t.vs [] place
      ∙ ap (λ (l : List ℕ). many l place) (append-nil t.vs)

  pub taken-numbers : count ≤ i → record { answer = 0; values = values; next = place } ≡ as_numbers s (read_many count s at)
  unfolding as_numbers
  taken-numbers h = rw (taken-all h) (λ n. record { answer = 0; values = t.same n; next = place })
