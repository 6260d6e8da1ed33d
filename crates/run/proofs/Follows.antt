-- The code follows the model: the run that it holds after an event is the run that document 01's step gives, with the same
-- answer, and the record stays valid. So it does over every list of events, from a fresh run on.
use Rattle.std.specs.Prelude.{ℕ, zero, suc, ◌*◌, ◌<◌, ◌≤◌, Bool, List, [], ◌∷◌, ◌≡◌, length, get_or}
use Rattle.std.proofs.Math.Bool.{true, false}
use Rattle.std.proofs.Math.Path.{refl}
use Rattle.std.proofs.Common.{ap, sym, ◌∙◌, lt_of_lt_of_le, arith, length-set, get_or-set_same, get_or-set_other, ext_get_or, pow_mono}
use Rattle.std.proofs.Math.Decide.{dec_lt}
use Rattle.std.proofs.Math.Dec.{eqb}
use borrow.Author.Tests.{eqb-true, eq-eqb}
use Rattle.clock.specs.Limits.{max_flight}
use Rattle.clock.specs.Pick.{pick, refuse-none}
use Rattle.setup.specs.declared.Plan.{Plan}
use Rattle.setup.specs.Setup.{setup_answer}
use Rattle.station.specs.declared.Station.{Station}
use Rattle.flight.specs.Message.{coded, Codable}
use Rattle.flight.specs.Members.{All, all_map}
use Rattle.flight.proofs.Coding.{length-coded, decode-coded}
use Rattle.event.specs.declared.Event.{Event}
use Rattle.line.specs.declared.Line.{Line}
use Rattle.line.specs.Run.{Run, no_station}
use Rattle.line.specs.Record.{bad_record}
use Rattle.line.specs.Event.{effect, step_answer, event_answer, step}
use Rattle.line.specs.Valid.{Valid}
use Rattle.line.proofs.Valid.{is-valid, fresh-valid}
use Rattle.line.proofs.ValidSteps.{effect-valid, effect-plan, step-valid}
use Rattle.line.specs.History.{Entry}
use Rattle.line.specs.History.{played as played_run}
use Rattle.line.specs.Held.{first_of, run_of, bad_line}
use Rattle.line.specs.HeldLaws.{first-length, place-some}
use Rattle.line.specs.Fresh.{line_for, seated_to, seated-length, fresh-run}
use Rattle.line.specs.Run.{fresh}
use Rattle.run.specs.Play.{placed_to, holding, comes, comes_words, play_answer, played, played_words}
use Rattle.run.specs.Limits.{held-is}
use Rattle.run.specs.Follows.{Kept, plays, plays_all}

-- ---- the record of a run holds it

-- the places are as many as before
pub placed-length : (table stations : List Station) (k : ℕ) → length (placed_to table stations k) ≡ length table
unfolding placed_to
placed-length table stations zero = refl
placed-length table stations (suc k) = length-set (placed_to table stations k) k (get_or stations k no_station) ∙ placed-length table stations k

-- each of the first k is in its place, where the table has one
pub placed_at : (table stations : List Station) (k i : ℕ) → i < length table → i < k → get_or (placed_to table stations k) i no_station ≡ get_or stations i no_station
unfolding placed_to
placed_at table stations zero i m h = absurd (omega arith)
placed_at table stations (suc k) i m h = elim (dec_lt i k) [
  | yes b ↦
      get_or-set_other (placed_to table stations k) k i (get_or stations k no_station) no_station (λ e. omega arith)
      ∙ placed_at table stations k i m b
  | no b ↦
      let s : i ≡ k = omega arith in
      rw s (get_or-set_same (placed_to table stations k) k (get_or stations k no_station) no_station (omega (arith, placed-length table stations k)))
]

-- so the first n are the stations
pub first-placed : (n k : ℕ) (table stations : List Station) → length stations ≡ n → n ≤ k → n ≤ length table
    → first_of n (placed_to table stations k) ≡ stations
first-placed n k table stations e m h =
    ext_get_or no_station (first_of n (placed_to table stations k)) stations (first-length n (placed_to table stations k) ∙ sym e)
    (λ i b.
    let l : i < n = omega (arith, first-length n (placed_to table stations k)) in
    sym (place-some n (placed_to table stations k) i l) ∙ placed_at table stations k i (omega arith) (omega arith))

-- words hold every message of a valid run
valid-codable : (r : Run) → Valid r → All Codable r.flight
valid-codable r v =
    all_map
    (λ m w.
    let few = v.rules.plan.stations.1 in
    let low = lt_of_lt_of_le w.signers (pow_mono few) in
    record {
      sender = omega (arith, w.sender.line);
      recipient = omega (arith, w.recipient.line);
      round = omega (arith, w.round.1);
      kind = omega (arith, w.kind);
      signers = omega arith;
      sent = omega (arith, w.sent, v.rules.time);
    })
    v.rules.flight

-- the record that holds a valid run has that run
pub holding-run : (l : Line) (words : List ℕ) (r : Run) → Valid r → r.plan ≡ l.plan → length l.stations ≡ 12
    → run_of (holding l r) (coded words r.flight) ≡ r
unfolding run_of holding
holding-run l words r v p twelve =
    let n : r.plan.stations ≡ l.plan.stations = ap (λ (x : Plan). x.stations) p in
    let seats =
    first-placed l.plan.stations l.plan.stations l.stations r.stations (v.rules.long ∙ n) (omega arith)
    (omega (arith, v.rules.plan.stations.1)) in
    let messages = decode-coded words (valid-codable r v) in
    λ j. record { plan = sym p j; time = r.time; stations = seats j; flight = messages j }

-- ---- one event

-- a record whose table has n stations, whose words are for 1,024 messages and whose run is valid is not refused
pub line-good : (l : Line) (words : List ℕ) → l.length ≡ l.plan.stations → length words ≡ 3 * max_flight → bad_record (run_of l words) ≡ false
    → bad_line l words ≡ false
unfolding bad_line
line-good l words a b v = rw (eq-eqb _ _ a, eq-eqb _ _ b, v) refl

-- and leaves at most 1,024 messages
effect-few : (r : Run) (e : Event) (increments : List ℕ) → Valid r → step_answer r e increments ≡ 0 → length (effect r e increments).flight ≤ max_flight
effect-few r e increments v z = (effect-valid r e increments v z).few

module _ (l : Line) (words : List ℕ) (e : Event) (increments : List ℕ) (ok : bad_line l words ≡ false) where
  good : bad_record (run_of l words) ≡ false
  good = is-valid (run_of l words) (held-is l words ok).valid

  -- the answer is the model's
  pub play-answer : (played l words e increments).answer ≡ event_answer (run_of l words) e increments
  unfolding comes play_answer event_answer
  play-answer = rw (ok, good) refl

  module _ (twelve : length l.stations ≡ 12) where
    -- the run is the model's
    pub play-run : run_of (played l words e increments).line (played_words l words e increments) ≡ step (run_of l words) e increments
    unfolding comes comes_words play_answer step event_answer run_of
    play-run = rw (ok, good) (go (eqb (step_answer (run_of l words) e increments) 0) refl)
      where
        go : (b : Bool) → eqb (step_answer (run_of l words) e increments) 0 ≡ b
            → run_of (pick b (holding l (effect (run_of l words) e increments)) l) (pick b (coded words (effect (run_of l words) e increments).flight) words)
            ≡ pick b (effect (run_of l words) e increments) (run_of l words)
        go true z =
            let h = held-is l words ok in
            let zero_is = eqb-true _ _ z in
            holding-run l words (effect (run_of l words) e increments) (effect-valid (run_of l words) e increments h.valid zero_is)
            (effect-plan (run_of l words) e increments h.valid zero_is) twelve
        go false z = refl

    -- the table keeps its places and the words their number
    play-size : (b : Bool) → eqb (play_answer l words e increments) 0 ≡ b
        → ((played l words e increments).line.length ≡ (played l words e increments).line.plan.stations)
        × (length (played_words l words e increments) ≡ 3 * max_flight)
        × (length (played l words e increments).line.stations ≡ 12)
    unfolding comes comes_words holding play_answer
    play-size true z =
        let h = held-is l words ok in
        let few = effect-few (run_of l words) e increments h.valid (answered z) in
        rw z (
          h.long,
          length-coded words (effect (run_of l words) e increments).flight (omega (arith, few, h.room)) ∙ h.room,
          placed-length l.stations (effect (run_of l words) e increments).stations l.plan.stations ∙ twelve,
        )
      where
        answered : eqb (play_answer l words e increments) 0 ≡ true → step_answer (run_of l words) e increments ≡ 0
        answered q = let n = refuse-none (bad_line l words) 9 (step_answer (run_of l words) e increments) (eqb-true _ _ q) in n.1
    play-size false z = let h = held-is l words ok in rw z (h.long, h.room, twelve)

    -- so the words are as many as before
    pub play-words : length (played_words l words e increments) ≡ length words
    play-words = (play-size (eqb (play_answer l words e increments) 0) refl).1 ∙ sym (held-is l words ok).room

    -- and the record stays valid
    pub play-keeps : (bad_line (played l words e increments).line (played_words l words e increments) ≡ false)
        × (length (played l words e increments).line.stations ≡ 12)
    play-keeps =
        let valid : bad_record (run_of (played l words e increments).line (played_words l words e increments)) ≡ false =
        ap bad_record play-run ∙ step-valid (run_of l words) e increments good in
        let s = play-size (eqb (play_answer l words e increments) 0) refl in
        (line-good (played l words e increments).line (played_words l words e increments) s.0 s.1 valid, s.2)

-- ---- a list of events

-- from a valid record on, the code holds the model's run after every list of events, and a valid record
pub plays-all : (k : Kept) (es : List Entry) → bad_line k.line k.words ≡ false → length k.line.stations ≡ 12
    → (run_of (plays_all k es).line (plays_all k es).words ≡ played_run (run_of k.line k.words) es)
    × (bad_line (plays_all k es).line (plays_all k es).words ≡ false)
unfolding plays_all played_run
plays-all k [] ok twelve = (refl, ok)
plays-all k (e ∷ es) ok twelve =
    let keeps = play-keeps k.line k.words e.event e.increments ok twelve in
    let rest = plays-all (plays k e) es keeps.0 keeps.1 in
    (rest.0 ∙ ap (λ (r : Run). played_run r es) (play-run k.line k.words e.event e.increments ok twelve), rest.1)

-- and so from the fresh run of an accepted setup
pub fresh-plays : (plan : Plan) (first words : List ℕ) (es : List Entry) → setup_answer plan first ≡ 0 → length words ≡ 3 * max_flight
    → run_of (plays_all (record { line = line_for plan plan.stations (seated_to first plan.stations); words = words }) es).line
    (plays_all (record { line = line_for plan plan.stations (seated_to first plan.stations); words = words }) es).words
    ≡ played_run (fresh plan first) es
fresh-plays plan first words es e room =
    let l : Line = line_for plan plan.stations (seated_to first plan.stations) in
    let same : run_of l words ≡ fresh plan first = fresh-run plan first words e in
    let ok : bad_line l words ≡ false = line-good l words refl room (ap bad_record same ∙ fresh-valid plan first e) in
    (plays-all (record { line = l; words = words }) es ok (seated-length first plan.stations)).0 ∙ ap (λ (r : Run). played_run r es) same
