-- A course: the states of a run, two steps to each event, and what the record rules say of every state. Whatever is proved of a
-- course is proved of every run of an accepted setup.
use Prim.Native.Nat.{ℕ, zero, suc, ◌+◌, ◌*◌, ◌^◌, ◌<◌, ◌≤◌}
use Rattle.std.specs.Prelude.{Bool, true, false, List, [], ◌∷◌, ◌≡◌, eqb, length, get_or, take}
use Rattle.std.proofs.Math.Path.{refl, ap, subst}
use Rattle.std.proofs.Common.{sym, ◌∙◌, take-suc, eqb-true}
use Rattle.std.proofs.Math.Decide.{dec_lt}
use native.Mathlib.Omega.{arith}
use Rattle.clock.specs.Pick.{pick}
use Rattle.clock.specs.Tests.{inside, some_to-each}
use Rattle.mask.specs.Mask.{count}
use Rattle.setup.specs.declared.Plan.{Plan}
use Rattle.setup.specs.Setup.{setup_answer, bad_first}
use Rattle.setup.specs.Laws.{Planned, planned, accepted}
use Rattle.station.specs.declared.Station.{Station}
use Rattle.station.specs.Station.{waits, mark_for, move}
use Rattle.event.specs.declared.Event.{Event}
use Rattle.event.specs.declared.Event.TheVariants.{Advance, Deliver, Send}
use Rattle.line.specs.Run.{Run, station_at, fresh, moves}
use Rattle.line.specs.Event.{event_answer, step}
use Rattle.line.specs.Valid.{Sound, Ruled, Valid}
use Rattle.line.proofs.Valid.{valid-is, fresh_at}
use Rattle.line.specs.Allowed.{Advances}
use Rattle.line.proofs.Allowed.{advances}
use Rattle.line.proofs.Allowed.{accepted as allowed}
use Rattle.line.proofs.Moves.{step-refused, moved_at}
use Rattle.line.proofs.ValidSteps.{step-plan}
use Rattle.line.specs.History.{Entry, played}
use Rattle.line.proofs.History.{played-on, run-valid}
use Rattle.agreement.specs.Statement.{Shows, after, no_entry, entry}
use Rattle.agreement.specs.Steps.{Step, step-shows, move_of, middle, first_step, second-step}

-- ---- courses

-- how a sound station begins: in round 0 at its first reading, nothing signed, nothing gathered
pub record Begins (plan : Plan) (s : Station) : Type 0 where
  pub round : s.round ≡ 0
  pub signed : s.signed ≡ 0
  pub gathered : s.gathered ≡ 0
  pub reading : (plan.step ≤ s.reading.0) × (s.reading.0 ≤ plan.step + plan.bound)

-- what the record rules say of a sound station in every state
pub record Keeps (plan : Plan) (s : Station) : Type 0 where
  pub few : count s.gathered ≤ plan.faults
  pub below : s.gathered < 2 ^ plan.stations
  -- it has signed at its mark, and no round after the one it waits for
  pub low : s.signed < waits s → s.reading.0 ≤ mark_for plan s

pub record Course (plan : Plan) : Type 1 where
  pub state : ℕ → Run
  pub planned : Planned plan
  -- in the step from a state an advance has brought a station up to its mark
  pub showing : ℕ → ℕ → ℕ → Type 0
  pub steps : (m : ℕ) → Step plan (showing m) (state m) (state (suc m))
  pub keeps : (m p : ℕ) → Sound plan p → Keeps plan (station_at (state m) p)
  pub begins : (p : ℕ) → Sound plan p → Begins plan (station_at (state 0) p)
  pub empty : (state 0).flight ≡ []

-- ---- the course of a run

-- past the last event nothing happens
past : (r : Run) → step r (Advance 0) [] ≡ r
past r = step-refused r (Advance 0) [] (λ z. let a = allowed r (Advance 0) [] z in omega (arith, (advances r [] 0 a.1).span.0))

take_past : (es : List Entry) (i : ℕ) → length es ≤ i → take i es ≡ es
take_past [] zero h = refl
take_past [] (suc i) h = refl
take_past (e ∷ es) zero h = absurd (omega arith)
take_past (e ∷ es) (suc i) h = ap (λ (l : List Entry). e ∷ l) (take_past es i (omega arith))

entry_past : (es : List Entry) (i : ℕ) → length es ≤ i → entry es i ≡ no_entry
entry_past [] i h = refl
entry_past (e ∷ es) zero h = absurd (omega arith)
entry_past (e ∷ es) (suc i) h = entry_past es i (omega arith)

-- ---- what the record rules say

ruled-keeps : (plan : Plan) (s : Station) → Ruled plan s → Keeps plan s
ruled-keeps plan s h = record {
  few = h.few;
  below = h.gathered;
  low = λ l. elim (dec_lt (mark_for plan s) s.reading.0) [ yes b ↦ absurd (omega (arith, h.past (omega arith))) | no b ↦ omega arith ];
}

module _ (r : Run) (v : Valid r) (p : ℕ) (h : Sound r.plan p) where
  -- between events
  pub valid-keeps : Keeps r.plan (station_at r p)
  valid-keeps = ruled-keeps r.plan (station_at r p) (v.rules.stations p h)

  -- and in the middle of one
  pub middle-keeps : (e : Event) (increments : List ℕ) → Keeps r.plan (station_at (middle r e increments) p)
  unfolding middle move_of moves move
  middle-keeps e increments = go (eqb (event_answer r e increments) 0) refl
    where
      moved_here : (d : ℕ) → Advances r d increments → station_at (moves d increments r) p ≡ move (get_or increments p 0) (station_at r p)
      moved_here d a = moved_at r.stations increments p (omega (arith, v.rules.long, h.line)) (omega (arith, a.long, h.line))

      kinds : (f : Event) → event_answer r f increments ≡ 0 → Keeps r.plan (station_at (move_of r f increments) p)
      kinds (Advance d) z =
          let a = advances r increments d (allowed r (Advance d) increments z).1 in
          let s = v.rules.stations p h in
          let k = valid-keeps in
          let e : station_at (moves d increments r) p ≡ move (get_or increments p 0) (station_at r p) = moved_here d a in
          rw e (record {
            few = k.few;
            below = k.below;
            low = λ l. a.mark p h.line
                (elim (dec_lt (station_at r p).reading.0 (mark_for r.plan (station_at r p))) [ yes b ↦ b | no b ↦ absurd (omega (arith, s.past (omega arith))) ]);
          })
      kinds (Deliver sender recipient round kind) z = valid-keeps
      kinds (Send sender recipient round signers) z = valid-keeps

      go : (b : Bool) → eqb (event_answer r e increments) 0 ≡ b → Keeps r.plan (station_at (pick b (move_of r e increments) r) p)
      go true z = kinds e (eqb-true _ _ z)
      go false z = valid-keeps

module _ (plan : Plan) (first : List ℕ) (es : List Entry) where
  -- each event is met by the run that the ones before it left
  pub after_next : (i : ℕ) → after plan first es (suc i) ≡ step (after plan first es i) (entry es i).event (entry es i).increments
  unfolding after
  after_next i = elim (dec_lt i (length es)) [
    | yes h ↦ ap (played (fresh plan first)) (take-suc es i no_entry h) ∙ played-on (fresh plan first) (take i es) (entry es i)
    | no h ↦
        let e = entry_past es i (omega arith) in
        rw (e, take_past es i (omega arith), take_past es (suc i) (omega arith)) (sym (past (played (fresh plan first) es)))
  ]

  module _ (ok : setup_answer plan first ≡ 0) where
    -- every state after whole events is valid
    pub after-valid : (i : ℕ) → Valid (after plan first es i)
    unfolding after
    after-valid i = valid-is (played (fresh plan first) (take i es)) (run-valid plan first (take i es) ok)

    -- under the same plan
    pub after-plan : (i : ℕ) → (after plan first es i).plan ≡ plan
    unfolding after played fresh
    after-plan zero = refl
    after-plan (suc i) =
        ap (λ (r : Run). r.plan) (after_next i) ∙ step-plan (after plan first es i) (entry es i).event (entry es i).increments ∙ after-plan i

    -- after i events and m steps more
    unfoldable pub state_from : ℕ → ℕ → Run
    state_from i zero = after plan first es i
    state_from i (suc zero) = middle (after plan first es i) (entry es i).event (entry es i).increments
    state_from i (suc (suc m)) = state_from (suc i) m

    -- in the step from state m the j-th event shows a mark
    unfoldable pub Showing : ℕ → ℕ → ℕ → Type 0
    Showing m w k =
        (j : ℕ) × (suc (2 * j) ≡ m) × Shows (after plan first es j) (entry es j).event (entry es j).increments w k

    -- two steps to an event
    pub even : (i j : ℕ) → state_from i (2 * j) ≡ after plan first es (i + j)
    unfolding state_from
    even i zero = ap (after plan first es) (omega arith)
    even i (suc j) =
        let e : 2 * suc j ≡ suc (suc (2 * j)) = omega arith in
        rw e (even (suc i) j ∙ ap (after plan first es) (omega arith))

    -- and the first of them is its middle
    pub odd : (i j : ℕ) → state_from i (suc (2 * j))
        ≡ middle (after plan first es (i + j)) (entry es (i + j)).event (entry es (i + j)).increments
    unfolding state_from
    odd i zero = ap (λ (k : ℕ). middle (after plan first es k) (entry es k).event (entry es k).increments) (omega arith)
    odd i (suc j) =
        let e : 2 * suc j ≡ suc (suc (2 * j)) = omega arith in
        rw e (odd (suc i) j ∙ ap (λ (k : ℕ). middle (after plan first es k) (entry es k).event (entry es k).increments) (omega arith))

    pub step_from : (i m n : ℕ) → 2 * i + m ≡ n → Step plan (Showing n) (state_from i m) (state_from i (suc m))
    unfolding state_from Showing
    step_from i zero n e =
        subst (λ x. Step x (Showing n) (after plan first es i) (middle (after plan first es i) (entry es i).event (entry es i).increments))
        (after-plan i) (first_step (after plan first es i) (entry es i).event (entry es i).increments (Showing n))
    step_from i (suc zero) n e =
        subst (λ x. Step x (Showing n) (middle (after plan first es i) (entry es i).event (entry es i).increments) (after plan first es (suc i)))
        (after-plan i)
        (subst
        (λ b. Step (after plan first es i).plan (Showing n) (middle (after plan first es i) (entry es i).event (entry es i).increments) b)
        (sym (after_next i))
        (step-shows (λ p k w. (i, omega arith, w)) (second-step (after plan first es i) (entry es i).event (entry es i).increments)))
    step_from i (suc (suc m)) n e = step_from (suc i) m n (omega arith)

    pub keeps-from : (i m p : ℕ) → Sound plan p → Keeps plan (station_at (state_from i m) p)
    unfolding state_from
    keeps-from i zero p h =
        let q = after-plan i in
        let k = valid-keeps (after plan first es i) (after-valid i) p (rw q h) in
        rw q at k
    keeps-from i (suc zero) p h =
        let q = after-plan i in
        let k = middle-keeps (after plan first es i) (after-valid i) p (rw q h) (entry es i).event (entry es i).increments in
        subst (λ x. Keeps x (station_at (middle (after plan first es i) (entry es i).event (entry es i).increments) p)) q k
    keeps-from i (suc (suc m)) p h = keeps-from (suc i) m p h

    -- how it begins
    pub fresh-begins : (p : ℕ) → Sound plan p → Begins plan (station_at (state_from 0 0) p)
    unfolding state_from after played fresh bad_first
    fresh-begins p h =
        let a = accepted plan first ok in
        let u = h.unmarked in
        let t = some_to-each (bad_first plan) first plan.stations p a.2 h.line in
        let b = inside plan.step (plan.step + plan.bound) (get_or first p 0) (rw u at t) in
        rw (fresh_at first p) (record { round = refl; signed = refl; gathered = refl; reading = b })

    -- the course of a run of an accepted setup
    unfoldable pub course : Course plan
    unfolding state_from after played fresh
    course = record {
      state = λ m. state_from 0 m;
      planned = planned plan (accepted plan first ok).0;
      showing = Showing;
      steps = λ m. step_from 0 m m (omega arith);
      keeps = λ m p h. keeps-from 0 m p h;
      begins = fresh-begins;
      empty = refl;
    }
