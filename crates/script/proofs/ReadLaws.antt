-- Laws of reading several numbers: what a loop that reads them one by one has so far, and that it ends with them all.
use Prim.Native.Nat.{ℕ, zero, suc, ◌+◌, ◌*◌, ◌%◌, ◌-◌, ◌<◌, ◌≤◌}
use mathlib.Core.List.{List, [], ◌∷◌, ◌++◌, append-nil}
use Rattle.std.specs.Prelude.{◌≡◌, Bool, true, false, ◌&&◌, not, ltb, leb, eqb, length, get_or, set, take, drop, replicate}
use Rattle.std.proofs.Math.Path.{refl, ap}
use Rattle.std.proofs.Common.{ap₂, sym, ◌∙◌, leb-false, length-append}
use native.Mathlib.Omega.{arith}
use Rattle.clock.specs.Pick.{pick}
use Rattle.std.proofs.lemmas.List.{length-replicate, take-replicate, drop-replicate, set_at}
use Rattle.std.proofs.Math.Seq.{append_snoc}
use Rattle.number.specs.Number.{Number, Value, Refused}
use Rattle.script.specs.Read.{Numbers}
use Rattle.number.specs.Number.{ends, number_from, read_number}
use Rattle.script.specs.Read.{on_number, Many, many, stopped, and_many, read_many, padded, as_numbers, plan_of, Setup, setup, no_setup, with_first, with_plan, setup_from, read_setup, unread, as_setup, Happening, event, no_event, advance_from, none_read, as_event}
use Rattle.script.specs.Read.{EventRead}
use Rattle.event.specs.declared.Event.{Event}
use Rattle.event.specs.declared.Event.TheVariants.{Advance, Deliver, Send}
use Rattle.script.specs.Read.{SetupRead}
use Rattle.setup.specs.declared.Plan.{Plan}
use Rattle.clock.specs.Limits.{max_stations}
use Rattle.clock.specs.Tests.{outside, inside}

-- with several numbers in front
abbrev pub and_all : List ℕ → Many → Many
and_all [] m = m
and_all (v ∷ vs) m = and_many v (and_all vs m)

pub all_one : (vs : List ℕ) (v : ℕ) (m : Many) → and_all (vs ++ (v ∷ [])) m ≡ and_all vs (and_many v m)
all_one [] v m = refl
all_one (x ∷ vs) v m = ap (and_many x) (all_one vs v m)

pub all-many : (vs ws : List ℕ) (next : ℕ) → and_all vs (many ws next) ≡ many (vs ++ ws) next
all-many [] ws next = refl
all-many (v ∷ vs) ws next = ap (and_many v) (all-many vs ws next)

pub all-stopped : (vs : List ℕ) (number : ℕ) → and_all vs (stopped number) ≡ stopped number
all-stopped [] number = refl
all-stopped (v ∷ vs) number = ap (and_many v) (all-stopped vs number)

-- of count numbers at a place, i are read and stand in the first places, zeros behind them; the others begin at `place`
pub record Filled (s : List ℕ) (at count : ℕ) (values : List ℕ) (place i : ℕ) : Type 0 where
  pub vs : List ℕ
  pub long : length vs ≡ i
  pub same : values ≡ vs ++ replicate (count - i) 0
  pub goes : read_many count s at ≡ and_all vs (read_many (count - i) s place)

pub filled_none : (s : List ℕ) (at count : ℕ) → count ≤ 12 → Filled s at count (take count (replicate 12 0)) at 0
filled_none s at count h =
    let e : count - 0 ≡ count = omega arith in
    record { vs = []; long = refl; same = take-replicate count 12 0 h ∙ ap (λ k. replicate k 0) (sym e); goes = rw e refl }

module _ (s : List ℕ) (at count : ℕ) (values : List ℕ) (place i : ℕ) (t : Filled s at count values place i) where
  module _ (more : i < count) where
    left : count - i ≡ suc (count - (i + 1))
    left = omega arith

    step : read_many (count - i) s place ≡ on_number (read_number s place) (λ v next. and_many v (read_many (count - (i + 1)) s next)) stopped
    unfolding read_many
    step = rw left refl

    pub filled_next : (v next : ℕ) → read_number s place ≡ Value v next → Filled s at count (set values i v) next (i + 1)
    filled_next v next e = record {
      vs = t.vs ++ (v ∷ []);
      long = length-append t.vs (v ∷ []) ∙ omega (arith, t.long);
      same =
          ap (λ (l : List ℕ). set l i v) (t.same ∙ ap (λ k. t.vs ++ replicate k 0) left)
          ∙ set_at t.vs 0 (replicate (count - (i + 1)) 0) v i t.long
          ∙ sym (append_snoc t.vs v (replicate (count - (i + 1)) 0));
      goes =
          t.goes ∙ ap (and_all t.vs) (step ∙ ap (λ (r : Number). on_number r (λ v next. and_many v (read_many (count - (i + 1)) s next)) stopped) e)
          ∙ sym (all_one t.vs v (read_many (count - (i + 1)) s next));
    }

    pub filled-stopped : (number : ℕ) → read_number s place ≡ Refused number → read_many count s at ≡ stopped number
    filled-stopped number e =
        t.goes ∙ ap (and_all t.vs) (step ∙ ap (λ (r : Number). on_number r (λ v next. and_many v (read_many (count - (i + 1)) s next)) stopped) e)
        ∙ all-stopped t.vs number

  pub filled-all : count ≤ i → read_many count s at ≡ many t.vs place
  unfolding read_many
  filled-all h =
      let e : count - i ≡ 0 = omega arith in
      t.goes ∙ ap (λ (k : ℕ). and_all t.vs (read_many k s place)) e ∙ all-many t.vs [] place
      ∙ ap (λ (l : List ℕ). many l place) (append-nil t.vs)

  pub filled-numbers : i ≡ count
      → record { answer = 0; values = values ++ drop count (replicate 12 0); next = place } ≡ as_numbers s (read_many count s at)
  unfolding as_numbers padded
  filled-numbers h =
      let none : count - i ≡ 0 = omega arith in
      let long : count ≡ length t.vs = omega (arith, t.long) in
      let values-are : values ≡ t.vs = t.same ∙ ap (λ k. t.vs ++ replicate k 0) none ∙ append-nil t.vs in
      rw (filled-all (omega arith)) (λ n. record {
        answer = 0;
        values = (ap₂ (λ (l r : List ℕ). l ++ r) values-are (drop-replicate count 12 0 ∙ ap (λ k. replicate (12 - k) 0) long)) n;
        next = place;
      })

-- where the reading stopped, nothing is held
pub stopped-numbers : (s : List ℕ) (m : Many) (number answer : ℕ) → m ≡ stopped number → answer ≡ number
    → record { answer = answer; values = replicate 12 0; next = length s } ≡ as_numbers s m
unfolding as_numbers
stopped-numbers s m number answer e a = rw (e, a)

-- a refusal is never 0
refused-from : (left : ℕ) (s : List ℕ) (at w sum number : ℕ) → number_from left s at w sum ≡ Refused number → 21 ≤ number
unfolding number_from ends
refused-from zero s at w sum number e = go (leb (length s) at) (ltb 1 (get_or s at 0)) (eqb (get_or s at 0) 0 && not (eqb w 1)) e
  where
    go : (a b d : Bool)
        → pick a (Refused 21) (pick b (Refused 23) (pick d (Refused 22) (Value (sum + get_or s at 0 * w) (at + 1)))) ≡ Refused number
        → 21 ≤ number
    go true b d f = let z : 21 ≡ number = cc in omega arith
    go false true d f = let z : 23 ≡ number = cc in omega arith
    go false false true f = let z : 22 ≡ number = cc in omega arith
    go false false false f = let z : ◌≡◌ {A = ℕ} 0 1 = cc in omega arith
refused-from (suc left) s at w sum number e =
    go (leb (length s) at) (ltb (get_or s at 0) 128) (eqb (get_or s at 0) 0 && not (eqb w 1)) e
    (refused-from left s (at + 1) (w * 128) (sum + get_or s at 0 % 128 * w) number)
  where
    go : (a b d : Bool)
        → pick a (Refused 21)
        (pick b (pick d (Refused 22) (Value (sum + get_or s at 0 * w) (at + 1)))
        (number_from left s (at + 1) (w * 128) (sum + get_or s at 0 % 128 * w))) ≡ Refused number
        → (number_from left s (at + 1) (w * 128) (sum + get_or s at 0 % 128 * w) ≡ Refused number → 21 ≤ number)
        → 21 ≤ number
    go true b d f on = let z : 21 ≡ number = cc in omega arith
    go false true true f on = let z : 22 ≡ number = cc in omega arith
    go false true false f on = let z : ◌≡◌ {A = ℕ} 0 1 = cc in omega arith
    go false false d f on = on f

pub number-refused : (s : List ℕ) (at number : ℕ) → read_number s at ≡ Refused number → 21 ≤ number
unfolding read_number
number-refused s at number e = refused-from 9 s at 1 0 number e

pub many-refused : (k : ℕ) (s : List ℕ) (at number : ℕ) → read_many k s at ≡ stopped number → 21 ≤ number
unfolding read_many
many-refused zero s at number e = let z : ◌≡◌ {A = ℕ} 0 1 = cc in omega arith
many-refused (suc k) s at number e = go (read_number s at) refl e (many-refused k s)
  where
    on : (v : ℕ) (m : Many) → and_many v m ≡ stopped number → (m ≡ stopped number → 21 ≤ number) → 21 ≤ number
    on v (many vs p) i rest = let z : ◌≡◌ {A = ℕ} 0 1 = cc in omega arith
    on v (stopped number') i rest = rest i

    go : (r : Number) → read_number s at ≡ r → on_number r (λ v next. and_many v (read_many k s next)) stopped ≡ stopped number
        → ((at number : ℕ) → read_many k s at ≡ stopped number → 21 ≤ number) → 21 ≤ number
    go (Refused number') f g rest = let z : number' ≡ number = cc in omega (arith, number-refused s at number' f)
    go (Value v next) f g rest = on v (read_many k s next) g (rest next number)

-- ---- what a caller learns of numbers that it had read

-- they were read, and stand first in the twelve places
pub record Got (m : Many) (r : Numbers) : Type 0 where
  pub vs : List ℕ
  pub is : m ≡ many vs r.next
  pub values : r.values ≡ padded vs

module _ (s : List ℕ) (k at : ℕ) (r : Numbers) (e : r ≡ as_numbers s (read_many k s at)) where
  pub got : r.answer ≡ 0 → Got (read_many k s at) r
  unfolding as_numbers
  got z = go (read_many k s at) refl
    where
      go : (m : Many) → read_many k s at ≡ m → Got (read_many k s at) r
      go (many vs next) f =
          let same : r ≡ record { answer = 0; values = padded vs; next = next } = e ∙ ap (as_numbers s) f in
          record { vs = vs; is = f ∙ ap (many vs) (sym (ap (λ (n : Numbers). n.next) same)); values = ap (λ (n : Numbers). n.values) same }
      go (stopped number) f =
          let same : r.answer ≡ number = ap (λ (n : Numbers). n.answer) (e ∙ ap (as_numbers s) f) in
          absurd (omega (arith, many-refused k s at number f))

  pub lost : (r.answer ≡ 0 → ⊥) → read_many k s at ≡ stopped r.answer
  unfolding as_numbers
  lost z = go (read_many k s at) refl
    where
      go : (m : Many) → read_many k s at ≡ m → read_many k s at ≡ stopped r.answer
      go (many vs next) f = absurd (z (ap (λ (n : Numbers). n.answer) (e ∙ ap (as_numbers s) f)))
      go (stopped number) f = f ∙ ap stopped (sym (ap (λ (n : Numbers). n.answer) (e ∙ ap (as_numbers s) f)))

-- behind the numbers stand zeros
zeros : (m i : ℕ) → get_or {A = ℕ} (replicate m 0) i 0 ≡ 0
zeros zero i = refl
zeros (suc m) zero = refl
zeros (suc m) (suc i) = zeros m i

behind : (vs : List ℕ) (m i : ℕ) → get_or (vs ++ replicate m 0) i 0 ≡ get_or vs i 0
behind [] m i = zeros m i
behind (v ∷ vs) m zero = refl
behind (v ∷ vs) m (suc i) = behind vs m i

pub get_d-padded : (vs : List ℕ) (i : ℕ) → get_or (padded vs) i 0 ≡ get_or vs i 0
unfolding padded
get_d-padded vs i = behind vs (12 - length vs) i

pub plan-padded : (n : ℕ) (vs : List ℕ) → plan_of n (padded vs) ≡ plan_of n vs
unfolding plan_of
plan-padded n vs = λ i. record {
  stations = n;
  faults = get_d-padded vs 0 i;
  drift = get_d-padded vs 1 i;
  bound = get_d-padded vs 2 i;
  spread = get_d-padded vs 3 i;
  step = get_d-padded vs 4 i;
  period = get_d-padded vs 5 i;
  faulty = get_d-padded vs 6 i;
}

-- ---- setups, as far as the reading comes

module _ (s : List ℕ) (at : ℕ) where
  pub setup-refused : (number : ℕ) → read_number s at ≡ Refused number → read_setup s at ≡ no_setup number
  unfolding read_setup
  setup-refused number e = rw e

  module _ (n next : ℕ) (e : read_number s at ≡ Value n next) where
    pub setup-one : outside 1 max_stations n ≡ true → read_setup s at ≡ no_setup 1
    unfolding read_setup setup_from
    setup-one o = rw (e, o)

    module _ (o : outside 1 max_stations n ≡ false) where
      pub setup-plan : (number : ℕ) → read_many 7 s next ≡ stopped number → read_setup s at ≡ no_setup number
      unfolding read_setup setup_from
      setup-plan number f = rw (e, o, f)

      pub setup-first : (vs : List ℕ) (p number : ℕ) → read_many 7 s next ≡ many vs p → read_many n s p ≡ stopped number
          → read_setup s at ≡ no_setup number
      unfolding read_setup setup_from
      setup-first vs p number f g = rw (e, o, f, g)

      pub setup-whole : (vs first : List ℕ) (p q : ℕ) → read_many 7 s next ≡ many vs p → read_many n s p ≡ many first q
          → read_setup s at ≡ setup (plan_of n vs) first q
      unfolding read_setup setup_from
      setup-whole vs first p q f g = rw (e, o, f, g)

  pub unread-setup : (number answer : ℕ) (r : SetupRead) → r ≡ unread answer (length s) → answer ≡ number → read_setup s at ≡ no_setup number
      → r ≡ as_setup s (read_setup s at)
  unfolding as_setup
  unread-setup number answer r e a f = rw f (e ∙ ap (λ (n : ℕ). unread n (length s)) a)

  pub whole-setup : (plan same : Plan) (first values : List ℕ) (next : ℕ) → read_setup s at ≡ setup plan first next → values ≡ padded first
      → same ≡ plan → record { answer = 0; plan = same; first = values; next = next } ≡ as_setup s (read_setup s at)
  unfolding as_setup
  whole-setup plan same first values next f v e = rw (f, v, e)

-- ---- events, as far as the reading comes

module _ (n : ℕ) (s : List ℕ) (at : ℕ) where
  pub advance-refused : (number : ℕ) → read_number s at ≡ Refused number → advance_from n s at ≡ no_event number
  unfolding advance_from
  advance-refused number e = rw e

  pub advance-stopped : (d next number : ℕ) → read_number s at ≡ Value d next → read_many n s next ≡ stopped number
      → advance_from n s at ≡ no_event number
  unfolding advance_from
  advance-stopped d next number e f = rw (e, f)

  pub advance-whole : (d next q : ℕ) (increments : List ℕ) → read_number s at ≡ Value d next → read_many n s next ≡ many increments q
      → advance_from n s at ≡ event (Advance d) increments q
  unfolding advance_from
  advance-whole d next q increments e f = rw (e, f)

-- an event's record where the reading stopped
pub unread-event : (s : List ℕ) (h : Happening) (number answer : ℕ) (r : EventRead) → r ≡ none_read answer (length s) → answer ≡ number
    → h ≡ no_event number → r ≡ as_event s h
unfolding as_event
unread-event s h number answer r e a f = rw f (e ∙ ap (λ (n : ℕ). none_read n (length s)) a)

-- and where it came to the end
pub whole-event : (s : List ℕ) (h : Happening) (happens same : Event) (increments values : List ℕ) (next : ℕ) → h ≡ event happens increments next
    → values ≡ padded increments → same ≡ happens → record { answer = 0; event = same; increments = values; next = next } ≡ as_event s h
unfolding as_event
whole-event s h happens same increments values next f v e = rw (f, v, e)

-- the four numbers of a message, as they stand in the twelve places
pub deliver-padded : (vs : List ℕ)
    → Deliver (get_or (padded vs) 0 0) (get_or (padded vs) 1 0) (get_or (padded vs) 2 0) (get_or (padded vs) 3 0)
    ≡ Deliver (get_or vs 0 0) (get_or vs 1 0) (get_or vs 2 0) (get_or vs 3 0)
deliver-padded vs = λ i. Deliver (get_d-padded vs 0 i) (get_d-padded vs 1 i) (get_d-padded vs 2 i) (get_d-padded vs 3 i)

pub send-padded : (vs : List ℕ)
    → Send (get_or (padded vs) 0 0) (get_or (padded vs) 1 0) (get_or (padded vs) 2 0) (get_or (padded vs) 3 0)
    ≡ Send (get_or vs 0 0) (get_or vs 1 0) (get_or vs 2 0) (get_or vs 3 0)
send-padded vs = λ i. Send (get_d-padded vs 0 i) (get_d-padded vs 1 i) (get_d-padded vs 2 i) (get_d-padded vs 3 i)

-- ---- a place behind what was read is within the bytes

value-inside : (left : ℕ) (s : List ℕ) (at w sum v next : ℕ) → number_from left s at w sum ≡ Value v next → next ≤ length s
unfolding number_from ends
value-inside zero s at w sum v next e = go (leb (length s) at) (ltb 1 (get_or s at 0)) (eqb (get_or s at 0) 0 && not (eqb w 1)) refl e
  where
    go : (a b d : Bool) → leb (length s) at ≡ a
        → pick a (Refused 21) (pick b (Refused 23) (pick d (Refused 22) (Value (sum + get_or s at 0 * w) (at + 1)))) ≡ Value v next
        → next ≤ length s
    go true b d h f = let z : ◌≡◌ {A = ℕ} 0 1 = cc in omega arith
    go false true d h f = let z : ◌≡◌ {A = ℕ} 0 1 = cc in omega arith
    go false false true h f = let z : ◌≡◌ {A = ℕ} 0 1 = cc in omega arith
    go false false false h f = let z : at + 1 ≡ next = cc in omega (arith, leb-false (length s) at h)
value-inside (suc left) s at w sum v next e =
    go (leb (length s) at) (ltb (get_or s at 0) 128) (eqb (get_or s at 0) 0 && not (eqb w 1)) refl e
    (value-inside left s (at + 1) (w * 128) (sum + get_or s at 0 % 128 * w) v next)
  where
    go : (a b d : Bool) → leb (length s) at ≡ a
        → pick a (Refused 21)
        (pick b (pick d (Refused 22) (Value (sum + get_or s at 0 * w) (at + 1)))
        (number_from left s (at + 1) (w * 128) (sum + get_or s at 0 % 128 * w))) ≡ Value v next
        → (number_from left s (at + 1) (w * 128) (sum + get_or s at 0 % 128 * w) ≡ Value v next → next ≤ length s)
        → next ≤ length s
    go true b d h f on = let z : ◌≡◌ {A = ℕ} 0 1 = cc in omega arith
    go false true true h f on = let z : ◌≡◌ {A = ℕ} 0 1 = cc in omega arith
    go false true false h f on = let z : at + 1 ≡ next = cc in omega (arith, leb-false (length s) at h)
    go false false d h f on = on f

pub number-inside : (s : List ℕ) (at v next : ℕ) → read_number s at ≡ Value v next → next ≤ length s
unfolding read_number
number-inside s at v next e = value-inside 9 s at 1 0 v next e

pub many-inside : (k : ℕ) (s : List ℕ) (at : ℕ) (vs : List ℕ) (next : ℕ) → at ≤ length s → read_many k s at ≡ many vs next → next ≤ length s
unfolding read_many
many-inside zero s at vs next h e = let z : at ≡ next = cc in omega arith
many-inside (suc k) s at vs next h e = go (read_number s at) refl e (many-inside k s)
  where
    on : (v : ℕ) (m : Many) → and_many v m ≡ many vs next → ((ws : List ℕ) → m ≡ many ws next → next ≤ length s) → next ≤ length s
    on v (many ws p) f rest = let z : p ≡ next = cc in rest ws (ap (many ws) z)
    on v (stopped number) f rest = let z : ◌≡◌ {A = ℕ} 0 1 = cc in omega arith

    go : (r : Number) → read_number s at ≡ r → on_number r (λ v next. and_many v (read_many k s next)) stopped ≡ many vs next
        → ((at : ℕ) (vs : List ℕ) (next : ℕ) → at ≤ length s → read_many k s at ≡ many vs next → next ≤ length s) → next ≤ length s
    go (Refused number) f g rest = let z : ◌≡◌ {A = ℕ} 0 1 = cc in omega arith
    go (Value v p) f g rest = on v (read_many k s p) g (λ ws. rest p ws next (number-inside s at v p f))

-- a setup that was read ends within the bytes, and one that was not is said to end where they do
pub setup-inside : (s : List ℕ) (at : ℕ) → (as_setup s (read_setup s at)).next ≤ length s
unfolding as_setup read_setup setup_from unread
setup-inside s at = go (read_number s at) refl
  where
    last : (n : ℕ) (vs : List ℕ) (p : ℕ) → p ≤ length s → (m : Many) → read_many n s p ≡ m → (as_setup s (with_first n vs m)).next ≤ length s
    last n vs p h (many first q) f = many-inside n s p first q h f
    last n vs p h (stopped number) f = omega arith

    plan : (n next : ℕ) → next ≤ length s → (m : Many) → read_many 7 s next ≡ m → (as_setup s (with_plan s n m)).next ≤ length s
    plan n next h (many vs p) f = last n vs p (many-inside 7 s next vs p h f) (read_many n s p) refl
    plan n next h (stopped number) f = omega arith

    first : (n next : ℕ) → next ≤ length s → (b : Bool) → (as_setup s (pick b (no_setup 1) (with_plan s n (read_many 7 s next)))).next ≤ length s
    first n next h true = omega arith
    first n next h false = plan n next h (read_many 7 s next) refl

    go : (r : Number) → read_number s at ≡ r → (as_setup s (on_number r (setup_from s) no_setup)).next ≤ length s
    go (Value n next) f = first n next (number-inside s at n next f) (outside 1 max_stations n)
    go (Refused number) f = omega arith

-- the twelve places of first readings and of increments are there, whatever was read
padded-long : (vs : List ℕ) → 12 ≤ length (padded vs)
unfolding padded
padded-long vs = omega (arith, length-append vs (replicate (12 - length vs) 0), length-replicate {A = ℕ} (12 - length vs) 0)

pub first-long : (s : List ℕ) (x : Setup) → 12 ≤ length (as_setup s x).first
unfolding as_setup unread
first-long s (setup plan first next) = padded-long first
first-long s (no_setup number) = omega arith

pub increments-long : (s : List ℕ) (x : Happening) → 12 ≤ length (as_event s x).increments
unfolding as_event none_read
increments-long s (event e increments next) = padded-long increments
increments-long s (no_event number) = omega arith

-- a setup that was read has at most twelve stations, and one that was not has none
pub setup-few : (s : List ℕ) (at : ℕ) → (as_setup s (read_setup s at)).plan.stations ≤ 12
unfolding as_setup read_setup setup_from unread plan_of
setup-few s at = go (read_number s at)
  where
    last : (n : ℕ) (vs : List ℕ) → n ≤ 12 → (m : Many) → (as_setup s (with_first n vs m)).plan.stations ≤ 12
    last n vs h (many first q) = h
    last n vs h (stopped number) = omega arith

    plan : (n : ℕ) → n ≤ 12 → (m : Many) → (as_setup s (with_plan s n m)).plan.stations ≤ 12
    plan n h (many vs p) = last n vs h (read_many n s p)
    plan n h (stopped number) = omega arith

    first : (n next : ℕ) (b : Bool) → outside 1 max_stations n ≡ b → (as_setup s (pick b (no_setup 1) (with_plan s n (read_many 7 s next)))).plan.stations ≤ 12
    first n next true e = omega arith
    first n next false e = plan n (inside 1 max_stations n e).1 (read_many 7 s next)

    go : (r : Number) → (as_setup s (on_number r (setup_from s) no_setup)).plan.stations ≤ 12
    go (Value n next) = first n next (outside 1 max_stations n) refl
    go (Refused number) = omega arith
