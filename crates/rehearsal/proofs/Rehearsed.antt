-- The parts of a script put together are document 01's rehearsal: the lines that one part writes, and the lines of the rest from
-- where it ends, are the lines of the whole. Each event's line is the model's, since the code holds the model's run.
use Prim.Native.Nat.{ℕ, zero, suc, ◌+◌, ◌-◌, ◌≤◌}
use Rattle.std.specs.Prelude.{Bool, ◌≡◌, ltb, eqb, length, take}
use Rattle.std.proofs.Math.Bool.{true, false}
use mathlib.Core.List.{List, [], ◌++◌, append_assoc, append-nil}
use Rattle.std.proofs.Math.Path.{refl, ap, ap₂, sym}
use Rattle.std.proofs.Common.{◌∙◌, arith}
use Rattle.std.proofs.Math.ListN.{length-append}
use borrow.Author.Tests.{eqb-true, eqb-false, eq-eqb, ne_eqb}
use Rattle.clock.specs.Limits.{max_script}
use Rattle.clock.specs.Pick.{pick}
use Rattle.setup.specs.declared.Plan.{Plan}
use Rattle.setup.specs.Setup.{setup_answer}
use Rattle.event.specs.declared.Event.{Event}
use Rattle.number.proofs.Laws.{laid_none, laid_on}
use Rattle.script.specs.Read.{SetupRead}
use Rattle.line.specs.declared.Line.{Line}
use Rattle.line.specs.Run.{fresh}
use Rattle.line.specs.Event.{event_answer, step}
use Rattle.line.specs.Held.{run_of, bad_line}
use Rattle.line.specs.Fresh.{Begun}
use Rattle.line.specs.Fresh.{no_stations, no_plan, line_for, seated_to, begun, fresh-run}
use Rattle.text.specs.Text.{line_with, event_line, setup_line, script_line}
use Rattle.text.proofs.Laws.{end_same}
use Rattle.run.specs.Play.{comes, play_answer}
use Rattle.run.specs.Play.{played as event_played, played_words}
use Rattle.run.specs.Limits.{held-is, held-settled}
use Rattle.run.proofs.Follows.{play-answer, play-run, play-keeps}
use Rattle.run.specs.Part.{Standing, goes_on, line_of, after, stops, read_at, played_from, seated, standing, played}
use Rattle.run.proofs.PartLaws.{goes_number, line-of-most, seated-good, seated-twelve, seated-run}
use Rattle.rehearsal.specs.Opening.{Opening, closed, begins, opened, opening}
use Rattle.rehearsal.specs.Rehearsed.{line_then, lines_from, rest_of, setup_at, fresh_of, rehearsal, Wrote}

-- ---- a line shows the time and the rounds, and not the flight

line_same : (number answer : ℕ) (l : Line) (words : List ℕ) → event_line number answer (run_of l []) ≡ event_line number answer (run_of l words)
unfolding event_line run_of
line_same number answer l words = ap (line_with number answer) (end_same (run_of l []) (run_of l words) refl refl (λ i m. refl))

-- ---- one part

-- nothing is written
wrote_none : (bytes : List ℕ) (here : Standing) → Wrote bytes here here
wrote_none bytes here = record { lines = []; place = omega arith; out = sym (laid_none here.out here.place); whole = refl }

module _ (bytes : List ℕ) (here : Standing) (zero_is : here.answer ≡ 0) (most : ℕ) (fuel : suc most ≡ max_script - here.number)
    (some : ltb here.next (length bytes) ≡ true) where
  -- what is still to be written begins with the event's line
  rest-event : (read_at bytes here).answer ≡ 0
      → rest_of bytes here
      ≡ line_then (here.number + 1) (run_of here.line here.words) (read_at bytes here).event
      (take here.line.plan.stations (read_at bytes here).increments) (lines_from most bytes (read_at bytes here).next (here.number + 1))
  unfolding rest_of lines_from run_of
  rest-event e = rw (zero_is, ← fuel, some, eq-eqb (read_at bytes here).answer 0 e) refl

  -- or is the line that says where the script can't be read on
  rest-stops : ((read_at bytes here).answer ≡ 0 → ⊥) → rest_of bytes here ≡ script_line (read_at bytes here).answer
  unfolding rest_of lines_from run_of
  rest-stops e = rw (zero_is, ← fuel, some, ne_eqb (read_at bytes here).answer 0 e) refl

module _ (bytes : List ℕ) (here : Standing) (e : Event) (increments : List ℕ) (good : bad_line here.line here.words ≡ false) where
  -- the answer is the model's
  answer-is : play_answer here.line here.words e increments ≡ event_answer (run_of here.line here.words) e increments
  unfolding comes
  answer-is = play-answer here.line here.words e increments good

  module _ (twelve : length here.line.stations ≡ 12) where
    -- the line that the code writes is the model's
    line-is : line_of here e increments
        ≡ event_line (here.number + 1) (event_answer (run_of here.line here.words) e increments) (step (run_of here.line here.words) e increments)
    unfolding line_of
    line-is =
        let line = (event_played here.line here.words e increments).line in
        let words = played_words here.line here.words e increments in
        ap (λ (a : ℕ). event_line (here.number + 1) a (run_of line [])) answer-is
        ∙ line_same (here.number + 1) (event_answer (run_of here.line here.words) e increments) line words
        ∙ ap (event_line (here.number + 1) (event_answer (run_of here.line here.words) e increments))
        (play-run here.line here.words e increments good twelve)

    -- and so is what it goes on with
    then_is : (next most : ℕ) → most ≡ max_script - (here.number + 1)
        → rest_of bytes (after here e increments next)
        ≡ lines_from most bytes next (here.number + 1) (step (run_of here.line here.words) e increments)
    unfolding after rest_of
    then_is next most fuel =
        rw fuel (ap (lines_from (max_script - (here.number + 1)) bytes next (here.number + 1)) (play-run here.line here.words e increments good twelve))

-- the lines of a part
module _ (bytes : List ℕ) where
  -- one event, and what follows it
  wrote-more : (here : Standing) (e : Event) (increments : List ℕ) (next most : ℕ) (end : Standing) → bad_line here.line here.words ≡ false
      → length here.line.stations ≡ 12 → here.place + 320 ≤ length here.out → most ≡ max_script - (here.number + 1)
      → rest_of bytes here
      ≡ line_then (here.number + 1) (run_of here.line here.words) e increments (lines_from most bytes next (here.number + 1))
      → Wrote bytes (after here e increments next) end → Wrote bytes here end
  unfolding after
  wrote-more here e increments next most end good twelve room fuel rest w =
      let line : List ℕ = line_of here e increments in
      let few = line-of-most here good twelve e increments in
      record {
        lines = line ++ w.lines;
        place = w.place ∙ omega (arith, length-append line w.lines);
        out = w.out ∙ laid_on here.out here.place line (omega (arith, few, room)) w.lines;
        whole =
            append_assoc line w.lines (rest_of bytes end)
            ∙ ap (λ (x : List ℕ). line ++ x) w.whole
            ∙ ap₂ (λ (x y : List ℕ). x ++ y) (line-is bytes here e increments good twelve) (then_is bytes here e increments good twelve next most fuel)
            ∙ sym rest;
      }

  module _ (here : Standing) (z : here.answer ≡ 0) (most : ℕ) (fuel : suc most ≡ max_script - here.number)
      (good : bad_line here.line here.words ≡ false) (twelve : length here.line.stations ≡ 12) where
    abbrev e : Event
    e = (read_at bytes here).event

    abbrev increments : List ℕ
    increments = take here.line.plan.stations (read_at bytes here).increments

    -- an event, or the line that says where the script can't be read on
    wrote-turn : goes_on bytes here.next here.number here.out here.place ≡ true → (end : Standing)
        → Wrote bytes (after here e increments (read_at bytes here).next) end → (b : Bool) → eqb (read_at bytes here).answer 0 ≡ b
        → Wrote bytes here (pick b end (stops here (read_at bytes here).answer (read_at bytes here).next))
    unfolding rest_of stops
    wrote-turn g end w true t =
        let goes = goes_number bytes here.next here.number here.out here.place g in
        wrote-more here e increments (read_at bytes here).next most end good twelve goes.1 (omega arith)
        (rest-event bytes here z most fuel goes.3 (eqb-true (read_at bytes here).answer 0 t)) w
    wrote-turn g end w false t =
        let goes = goes_number bytes here.next here.number here.out here.place g in
        record {
          lines = script_line (read_at bytes here).answer;
          place = refl;
          out = refl;
          whole =
              rw t (append-nil (script_line (read_at bytes here).answer)
              ∙ sym (rest-stops bytes here z most fuel goes.3 (eqb-false (read_at bytes here).answer 0 t)));
        }

    -- or neither, where there is no event or no room
    wrote_on : (b : Bool) → goes_on bytes here.next here.number here.out here.place ≡ b → (end : Standing)
        → Wrote bytes (after here e increments (read_at bytes here).next) end
        → Wrote bytes here
        (pick b (pick (eqb (read_at bytes here).answer 0) end (stops here (read_at bytes here).answer (read_at bytes here).next)) here)
    wrote_on true g end w = wrote-turn g end w (eqb (read_at bytes here).answer 0) refl
    wrote_on false g end w = wrote_none bytes here

  -- from where the playing stands, at most so many events on
  pub wrote : (most : ℕ) (here : Standing) → here.answer ≡ 0 → most ≡ max_script - here.number → bad_line here.line here.words ≡ false
      → length here.line.stations ≡ 12 → Wrote bytes here (played_from most bytes here)
  unfolding played_from after
  wrote zero here z fuel good twelve = wrote_none bytes here
  wrote (suc most) here z fuel good twelve =
      let keeps =
      play-keeps here.line here.words (read_at bytes here).event (take here.line.plan.stations (read_at bytes here).increments) good twelve in
      wrote_on here z most fuel good twelve (goes_on bytes here.next here.number here.out here.place) refl _
      (wrote most
      (after here (read_at bytes here).event (take here.line.plan.stations (read_at bytes here).increments) (read_at bytes here).next)
      refl (omega arith) keeps.0 keeps.1)

-- ---- the parts of a script

-- seating a run changes nothing of what is still to be written
rest-seated : (l : Line) (words bytes : List ℕ) (at number : ℕ) (out : List ℕ) (from : ℕ) → l.plan.stations ≤ 12
    → rest_of bytes (standing 0 (seated l) words at number out from) ≡ rest_of bytes (standing 0 l words at number out from)
unfolding rest_of
rest-seated l words bytes at number out from few = ap (lines_from (max_script - number) bytes at number) (seated-run l words few)

-- a part writes its lines, and all that is still to be written follows
pub part-lines : (l : Line) (words bytes : List ℕ) (at number : ℕ) (out : List ℕ) (from : ℕ) → bad_line l words ≡ false
    → Wrote bytes (standing 0 l words at number out from) (played l words bytes at number out from)
unfolding played
part-lines l words bytes at number out from ok =
    let w = wrote bytes (max_script - number) (standing 0 (seated l) words at number out from) refl refl (seated-good l words ok) (seated-twelve l) in
    let few = (held-settled (held-is l words ok)).few in
    rw ok (record { lines = w.lines; place = w.place; out = w.out; whole = w.whole ∙ rest-seated l words bytes at number out from few })

-- ---- the whole rehearsal

-- an accepted setup begins the fresh run
begun-run : (plan : Plan) (first words : List ℕ) → (begun plan first).answer ≡ 0 → run_of (begun plan first).line words ≡ fresh plan first
unfolding begun
begun-run plan first words = go (eqb (setup_answer plan first) 0) refl
  where
    yes : Begun
    yes = record { answer = 0; line = line_for plan plan.stations (seated_to first plan.stations) }

    no : Begun
    no = record { answer = setup_answer plan first; line = line_for no_plan 0 no_stations }

    go : (b : Bool) → eqb (setup_answer plan first) 0 ≡ b → (pick b yes no).answer ≡ 0 → run_of (pick b yes no).line words ≡ fresh plan first
    go true e z = fresh-run plan first words (eqb-true (setup_answer plan first) 0 e)
    go false e z = absurd (eqb-false (setup_answer plan first) 0 e z)

opened-run : (r : SetupRead) (words : List ℕ) → (opened r).answer ≡ 0
    → run_of (opened r).line words ≡ fresh r.plan (take r.plan.stations r.first)
unfolding opened
opened-run r words = one (eqb r.answer 1)
  where
    stopped : Opening
    stopped = closed r.answer r.next (script_line r.answer)

    goes : Opening
    goes = begins r.next (begun r.plan (take r.plan.stations r.first))

    none : (b : Bool) → eqb r.answer 0 ≡ b → (pick b goes stopped).answer ≡ 0
        → run_of (pick b goes stopped).line words ≡ fresh r.plan (take r.plan.stations r.first)
    none true e z = begun-run r.plan (take r.plan.stations r.first) words z
    none false e z = absurd (eqb-false r.answer 0 e z)

    one : (b : Bool) → (pick b (closed 1 r.next (setup_line 1)) (pick (eqb r.answer 0) goes stopped)).answer ≡ 0
        → run_of (pick b (closed 1 r.next (setup_line 1)) (pick (eqb r.answer 0) goes stopped)).line words
        ≡ fresh r.plan (take r.plan.stations r.first)
    one true z = absurd (omega arith)
    one false z = none (eqb r.answer 0) refl z

-- so does an opened script
opening-run : (bytes words : List ℕ) → (opening bytes).answer ≡ 0 → run_of (opening bytes).line words ≡ fresh_of bytes
unfolding opening
opening-run bytes words = long (ltb max_script (length bytes))
  where
    long : (b : Bool) → (pick b (closed 26 (length bytes) (script_line 26)) (opened (setup_at bytes))).answer ≡ 0
        → run_of (pick b (closed 26 (length bytes) (script_line 26)) (opened (setup_at bytes))).line words ≡ fresh_of bytes
    long true z = absurd (omega arith)
    long false z = opened-run (setup_at bytes) words z

-- the first line of an opened script, and what is still to be written then, are the rehearsal: with `part-lines`, so are the parts
-- put together
pub rehearsal-is : (bytes words out : List ℕ) (place : ℕ) → (opening bytes).answer ≡ 0
    → (opening bytes).first ++ rest_of bytes (standing 0 (opening bytes).line words (opening bytes).next 0 out place) ≡ rehearsal bytes
unfolding rehearsal rest_of
rehearsal-is bytes words out place z = rw (z, opening-run bytes words z) refl

-- a script that does not open has the first line alone
pub rehearsal-stops : (bytes : List ℕ) → ((opening bytes).answer ≡ 0 → ⊥) → rehearsal bytes ≡ (opening bytes).first
unfolding rehearsal
rehearsal-stops bytes e = rw (ne_eqb (opening bytes).answer 0 e) (append-nil (opening bytes).first)
