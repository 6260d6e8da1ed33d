-- The run that the code holds, place by place: a rule about the stations or about one message does not look at the words.
use Prim.Native.Nat.{ℕ, zero, suc, ◌+◌, ◌*◌, ◌≤◌, ◌<◌}
use Rattle.std.specs.Prelude.{Bool, true, false, ◌||◌, not, ◌≡◌, length, get_or, take, ltb, eqb}
use Rattle.std.specs.List.{list_any, range_with_len}
use mathlib.Core.List.{List, [], ◌∷◌}
use Rattle.std.proofs.Math.Path.{refl, ap}
use Rattle.std.proofs.Common.{ap₂, sym, ◌∙◌, add-one, zero-add, arith, length-append, eq-eqb, le-leb}
use Rattle.std.proofs.Math.Decide.{dec_lt}
use Rattle.std.proofs.Math.ListN.{get_or-append, get_or-eq_default}
use Rattle.std.proofs.lemmas.List.{get_or_at}
use Rattle.std.proofs.lemmas.List.Folds.{list_any_more}
use Rattle.std.proofs.lemmas.List.FromFn.{length-range_with_len, get_or-range_with_len}
use Rattle.std.proofs.Math.Seq.{take-length}
use Rattle.flight.specs.declared.Message.{Message}
use Rattle.clock.specs.Limits.{max_time, max_flight}
use Rattle.clock.specs.Tests.{neither}
use Rattle.setup.specs.Setup.{plan_answer}
use Rattle.setup.specs.Laws.{Planned}
use Rattle.flight.specs.Message.{decode, message_at, some_of, twins}
use Rattle.flight.specs.Members.{some-append}
use Rattle.flight.proofs.Coding.{length-decode}
use Rattle.station.specs.declared.Station.{Station}
use Rattle.line.specs.declared.Line.{Line}
use Rattle.model.specs.Run.{no_station}
use Rattle.model.specs.Record.{bad_station_at, some_station, bad_way, bad_round, bad_message, bad_record}
use Rattle.model.proofs.Valid.{valid-is}
use Rattle.line.specs.Held.{first_of, place_of, station_of, run_of, bad_line}

-- there are n of them
pub first-length : (n : ℕ) (table : List Station) → length (first_of n table) ≡ n
unfolding first_of
first-length zero table = refl
first-length (suc k) table =
    length-append (first_of k table) (get_or table k no_station ∷ []) ∙ omega (arith, first-length k table)

-- no station past the last
pub place_none : (n : ℕ) (table : List Station) (i : ℕ) → n ≤ i → no_station ≡ place_of n table i
place_none n table i h = sym (get_or-eq_default (first_of n table) no_station (omega (arith, first-length n table)))

-- a station of the table
pub place-some : (n : ℕ) (table : List Station) (i : ℕ) → i < n → get_or table i no_station ≡ place_of n table i
unfolding first_of
place-some zero table i h = absurd (omega arith)
place-some (suc k) table i h = elim (dec_lt i k) [
  | yes b ↦ place-some k table i b ∙ sym (get_or-append (first_of k table) _ no_station i (omega (arith, first-length k table)))
  | no b ↦
      let s : i ≡ k = omega arith in
      rw s (sym (get_or_at (first_of k table) (get_or table k no_station) [] no_station k (first-length k table)))
]

-- of a line of at most twelve stations it is the one in its place
pub station-of : (l : Line) (i : ℕ) → l.plan.stations ≤ 12 → station_of l i ≡ place_of l.plan.stations l.stations i
unfolding station_of
station-of l i h = rw (le-leb l.plan.stations 12 h) refl

-- none of the first 0 stations
pub some-none : (p : ℕ → Bool) → some_station p 0 ≡ false
unfolding some_station
some-none p = refl

-- one more asked
pub some_more : (p : ℕ → Bool) (i : ℕ) {before here : Bool} → before ≡ some_station p i → here ≡ p i → (before || here) ≡ some_station p (i + 1)
unfolding some_station
some_more p i e f = rw add-one (ap₂ ◌||◌ e f)

-- what `any` finds below n: whether one of the first n stations has p
pub any-some_station : (p : ℕ → Bool) (n : ℕ) → list_any p (range_with_len 0 n) ≡ some_station p n
unfolding some_station
any-some_station p n =
    ap (list_any p) (sym (take-length below) ∙ ap (λ (k : ℕ). take k below) (length-range_with_len 0 n)) ∙ go n (omega arith)
  where
    below : List ℕ
    below = range_with_len 0 n

    go : (k : ℕ) → k ≤ n → list_any p (take k below) ≡ some_station p k
    go zero h = refl
    go (suc k) h =
        let within : k < n = omega arith in
        rw (← add-one) (list_any_more p below k 0 (omega (arith, length-range_with_len 0 n)))
        ∙ ap₂ ◌||◌ (go k (omega arith)) (ap p (get_or-range_with_len 0 n k 0 within ∙ zero-add k))

module _ (l : Line) where
  pub stations-any : (words : List ℕ) (k : ℕ) → some_station (bad_station_at (run_of l words)) k ≡ some_station (bad_station_at (run_of l [])) k
  unfolding some_station bad_station_at run_of
  stations-any words zero = refl
  stations-any words (suc k) = ap (λ (b : Bool). b || bad_station_at (run_of l []) k) (stations-any words k)

  pub message-any : (words : List ℕ) (ms : List Message) → some_of (bad_message (run_of l words)) ms ≡ some_of (bad_message (run_of l [])) ms
  unfolding some_of bad_message bad_way bad_round run_of
  message-any words [] = refl
  message-any words (m ∷ ms) = ap (λ (b : Bool). bad_message (run_of l []) m || b) (message-any words ms)

-- one message more
pub messages-more : (p : Message → Bool) (words : List ℕ) (i : ℕ) {before here : Bool} → before ≡ some_of p (decode i words)
    → here ≡ p (message_at words i) → (before || here) ≡ some_of p (decode (i + 1) words)
unfolding decode some_of
messages-more p words i {before} {here} e f =
    rw add-one (ap₂ ◌||◌ e (f ∙ sym (or-false (p (message_at words i)))) ∙ sym (some-append p (decode i words) (message_at words i ∷ [])))
  where
    or-false : (b : Bool) → (b || false) ≡ b
    or-false true = refl
    or-false false = refl

-- what `any` finds among the first n places: whether one of the first n messages has p
pub any-some_of : (p : Message → Bool) (words : List ℕ) (n : ℕ)
    → list_any (λ (i : ℕ). p (message_at words i)) (range_with_len 0 n) ≡ some_of p (decode n words)
unfolding some_station decode some_of
any-some_of p words n = any-some_station (λ (i : ℕ). p (message_at words i)) n ∙ go n
  where
    go : (k : ℕ) → some_station (λ (i : ℕ). p (message_at words i)) k ≡ some_of p (decode k words)
    go zero = refl
    go (suc k) = rw add-one at (messages-more p words k (go k) refl)

-- ---- the record, test by test

-- what a record's rules ask, as the code holds it
abbrev pub rules : Line → List ℕ → Bool
rules l words =
    not (eqb l.length l.plan.stations)
    || not (eqb (length words) (3 * max_flight))
    || not (eqb (plan_answer l.plan) 0)
    || ltb max_time l.time.0
    || some_station (bad_station_at (run_of l [])) l.plan.stations
    || ltb max_flight l.count
    || some_of (bad_message (run_of l [])) (decode l.count words)
    || twins (decode l.count words)

-- they are `bad_line`
pub line-rules : (l : Line) (words : List ℕ) → rules l words ≡ bad_line l words
unfolding bad_line bad_record run_of
line-rules l words =
    let n : ℕ = l.plan.stations in
    let table : not (eqb (length (first_of n l.stations)) n) ≡ false = ap not (eq-eqb _ _ (first-length n l.stations)) in
    rw (table, length-decode l.count words, stations-any l words n, message-any l words (decode l.count words))
    (regroup (not (eqb l.length n)) (not (eqb (length words) (3 * max_flight))) (not (eqb (plan_answer l.plan) 0))
    (ltb max_time l.time.0) (some_station (bad_station_at (run_of l [])) n) (ltb max_flight l.count)
    (some_of (bad_message (run_of l [])) (decode l.count words)) (twins (decode l.count words)))
  where
    regroup : (a b c d e f g h : Bool)
        → (a || b || c || d || e || f || g || h) ≡ (a || b || (c || false || d || e || f || g || h))
    regroup true b c d e f g h = refl
    regroup false true c d e f g h = refl
    regroup false false true d e f g h = refl
    regroup false false false d e f g h = refl

-- a record that keeps its rules has an accepted plan
pub line-planned : (l : Line) (words : List ℕ) → bad_line l words ≡ false → Planned l.plan
unfolding bad_line bad_record run_of
line-planned l words e =
    let r = neither (not (eqb l.length l.plan.stations) || not (eqb (length words) (3 * max_flight))) (bad_record (run_of l words)) e in
    (valid-is (run_of l words) r.1).rules.plan
