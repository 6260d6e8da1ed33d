-- Laws of a part of a script: seating a run keeps it, each event of a valid record goes by the private step, and the record
-- stays valid, so one check is enough for all.
use Prim.Native.Nat.{ℕ, zero, suc, ◌+◌, ◌*◌, ◌-◌, ◌<◌, ◌≤◌}
use Rattle.std.specs.Prelude.{Bool, true, false, ◌&&◌, ◌||◌, not, ◌≡◌, ltb, eqb, get_or, set, drop}
use mathlib.Core.List.{List, []}
use Rattle.std.proofs.Math.Path.{refl, ap, sym, subst}
use Rattle.std.proofs.Common.{◌∙◌, add-one, arith, length-set, get_or-set_same, get_or-set_other}
use Rattle.std.proofs.Math.ListN.{length, take}
use Rattle.std.proofs.Math.Seq.{take-append_seam}
use borrow.Author.Tests.{ltb-true, eq-eqb, ne_eqb, eqb-true, eqb-false}
use Rattle.clock.specs.Limits.{max_script, max_flight}
use Rattle.clock.specs.Pick.{pick}
use Rattle.clock.specs.Tests.{both}
use Rattle.event.specs.declared.Event.{Event}
use Rattle.event.specs.Event.{hearer}
use Rattle.setup.specs.declared.Plan.{Plan}
use Rattle.number.specs.Number.{laid}
use Rattle.number.proofs.Laws.{length-laid}
use Rattle.script.specs.Read.{EventRead}
use Rattle.script.specs.Read.{read_event, as_event}
use Rattle.script.proofs.ReadLaws.{increments-long}
use Rattle.station.specs.declared.Station.{Station}
use Rattle.line.specs.declared.Line.{Line}
use Rattle.line.specs.Run.{Run, no_station, station_at}
use Rattle.line.specs.Event.{effect, step_answer}
use Rattle.line.specs.Record.{bad_record}
use Rattle.line.specs.Held.{first_of, station_of, run_of, bad_line}
use Rattle.line.specs.HeldLaws.{first-length, station-of}
use Rattle.line.specs.Fresh.{no_stations}
use Rattle.text.specs.Text.{event_end, line_with, event_line, script_line, roomy, fits, fits_end, printed, behind}
use Rattle.text.proofs.Laws.{fits-well, fits-end, end_same}
use Rattle.text.proofs.Room.{roomy-has, line-most, end-most}
use Rattle.run.specs.Hearing.{Heard}
use Rattle.run.specs.Play.{Played, placed_to, holding, comes, play_answer, stepped, stepped_words}
use Rattle.run.specs.Play.{played as event_played, played_words}
use Rattle.run.specs.Limits.{Held, held-is, held-settled, table-station}
use Rattle.run.specs.Hearing.{seats, seats-same, Noted, DoesBy, signed_to, signed-length, noted-all, recipient_or, line-heard}
use Rattle.run.proofs.Follows.{placed-length, first-placed, play-keeps, play-words}
use Rattle.run.specs.Ready.{Beside, Ready}
use Rattle.run.specs.Part.{Standing, goes_on, line_of, after, stops, read_at, played_from, seated, standing, played, part_of}

-- ---- seating

-- before the first turn
pub seated-none : (l : Line) → no_stations ≡ placed_to no_stations (first_of l.plan.stations l.stations) 0
unfolding placed_to
seated-none l = refl

-- one more in its place
pub seated-next : (l : Line) (i : ℕ) {table : List Station} {s : Station} → l.plan.stations ≤ 12
    → table ≡ placed_to no_stations (first_of l.plan.stations l.stations) i → s ≡ station_of l i
    → set table i s ≡ placed_to no_stations (first_of l.plan.stations l.stations) (i + 1)
unfolding placed_to
seated-next l i few e f = rw (add-one i, e, f, station-of l i few) refl

-- all of them
pub seated-all : (l : Line) (i : ℕ) {table : List Station} → i ≡ l.plan.stations
    → table ≡ placed_to no_stations (first_of l.plan.stations l.stations) i
    → record { plan = l.plan; time = l.time; length = l.length; stations = table; count = l.count } ≡ seated l
unfolding seated
seated-all l i {table} s e =
    let t : table ≡ placed_to no_stations (first_of l.plan.stations l.stations) l.plan.stations =
    e ∙ ap (placed_to no_stations (first_of l.plan.stations l.stations)) s in
    λ j. record { plan = l.plan; time = l.time; length = l.length; stations = t j; count = l.count }

-- its table has twelve places
pub seated-twelve : (l : Line) → length (seated l).stations ≡ 12
unfolding seated
seated-twelve l = placed-length no_stations (first_of l.plan.stations l.stations) l.plan.stations

-- the run is the same
pub seated-run : (l : Line) (words : List ℕ) → l.plan.stations ≤ 12 → run_of (seated l) words ≡ run_of l words
unfolding seated run_of
seated-run l words few =
    let same =
    first-placed l.plan.stations l.plan.stations no_stations (first_of l.plan.stations l.stations) (first-length l.plan.stations l.stations)
    (omega arith) few in
    λ j. record { plan = l.plan; time = l.time.0; stations = same j; flight = (run_of l words).flight }

-- and so is what 10 says of it
pub seated-good : (l : Line) (words : List ℕ) → bad_line l words ≡ false → bad_line (seated l) words ≡ false
unfolding bad_line run_of seated
seated-good l words e =
    let few : l.plan.stations ≤ 12 = (held-is l words e).valid.rules.plan.stations.1 in
    ap (λ (r : Run). not (eqb l.length l.plan.stations) || not (eqb (length words) (3 * max_flight)) || bad_record r) (seated-run l words few) ∙ e

-- ---- one event after the other

-- what the test tells
pub goes_number : (bytes : List ℕ) (next number : ℕ) (out : List ℕ) (place : ℕ) → goes_on bytes next number out place ≡ true
    → (number < max_script) × (place + 320 ≤ length out) × (roomy out place ≡ true) × (ltb next (length bytes) ≡ true)
unfolding goes_on
goes_number bytes next number out place g =
    let a = both (ltb next (length bytes) && ltb number max_script) (roomy out place) g in
    let b = both (ltb next (length bytes)) (ltb number max_script) a.0 in
    (ltb-true number max_script b.1, roomy-has out place a.1, a.1, b.0)

-- an event's line is no longer than the longest
pub line-of-most : (here : Standing) → bad_line here.line here.words ≡ false → length here.line.stations ≡ 12
    → (e : Event) (increments : List ℕ) → length (line_of here e increments) ≤ 320
unfolding line_of run_of
line-of-most here good twelve e increments =
    let keeps = play-keeps here.line here.words e increments good twelve in
    line-most _ _ (run_of (event_played here.line here.words e increments).line [])
    (held-is _ _ keeps.0).valid.rules.plan.stations.1

-- so far the playing is under way: the rest of it from here is the rest of it from the start, and the record is still valid
pub record Onward (bytes : List ℕ) (start here : Standing) : Type 0 where
  pub same : played_from (max_script - start.number) bytes start ≡ played_from (max_script - here.number) bytes here
  pub good : bad_line here.line here.words ≡ false
  pub twelve : length here.line.stations ≡ 12
  pub words : length here.words ≡ length start.words
  pub out : length here.out ≡ length start.out

module _ (bytes : List ℕ) (start here : Standing) (o : Onward bytes start here) where
  module _ (g : goes_on bytes here.next here.number here.out here.place ≡ true) where
    one_more : max_script - here.number ≡ suc (max_script - (here.number + 1))
    one_more = omega (arith, (goes_number bytes here.next here.number here.out here.place g).0)

    -- an event
    pub onward-after : (read_at bytes here).answer ≡ 0
        → Onward bytes start (after here (read_at bytes here).event (take here.line.plan.stations (read_at bytes here).increments) (read_at bytes here).next)
    unfolding played_from after
    onward-after z =
        let e : Event = (read_at bytes here).event in
        let increments : List ℕ = take here.line.plan.stations (read_at bytes here).increments in
        let keeps = play-keeps here.line here.words e increments o.good o.twelve in
        let room = (goes_number bytes here.next here.number here.out here.place g).1 in
        record {
          same = o.same ∙ rw (one_more, g, eq-eqb (read_at bytes here).answer 0 z) refl;
          good = keeps.0;
          twelve = keeps.1;
          words = play-words here.line here.words e increments o.good o.twelve ∙ o.words;
          out = length-laid here.out here.place (line_of here e increments) (omega (arith, room, line-of-most here o.good o.twelve e increments)) ∙ o.out;
        }

    -- or the script can't be read on
    pub onward_stops : ((read_at bytes here).answer ≡ 0 → ⊥)
        → played_from (max_script - start.number) bytes start ≡ stops here (read_at bytes here).answer (read_at bytes here).next
    unfolding played_from
    onward_stops z = o.same ∙ rw (one_more, g, ne_eqb (read_at bytes here).answer 0 z) refl

  -- there is no event, or no room
  pub onward-ends : goes_on bytes here.next here.number here.out here.place ≡ false → played_from (max_script - start.number) bytes start ≡ here
  unfolding played_from
  onward-ends g = o.same ∙ go (max_script - here.number)
    where
      go : (k : ℕ) → played_from k bytes here ≡ here
      go zero = refl
      go (suc k) = rw g refl

-- ---- the code's turn

-- the record is valid, so the private step gives what the public event gives
step-played : (l : Line) (words : List ℕ) (e : Event) (increments : List ℕ) → bad_line l words ≡ false
    → (stepped l words e increments ≡ event_played l words e increments) × (stepped_words l words e increments ≡ played_words l words e increments)
unfolding play_answer
step-played l words e increments ok = rw ok (refl, refl)

module _ (bytes : List ℕ) (start here : Standing) (o : Onward bytes start here)
    (g : goes_on bytes here.next here.number here.out here.place ≡ true) where
  -- the event's line has room
  end_fits : (e : Event) (increments : List ℕ)
      → fits_end (event_end (run_of (event_played here.line here.words e increments).line [])) here.out here.place ≡ true
  unfolding run_of
  end_fits e increments =
      let keeps = play-keeps here.line here.words e increments o.good o.twelve in
      let few = (held-is _ _ keeps.0).valid.rules.plan.stations.1 in
      let most = end-most (run_of (event_played here.line here.words e increments).line []) few in
      fits-end (event_end (run_of (event_played here.line here.words e increments).line [])) here.out here.place (omega (arith, most))
      (goes_number bytes here.next here.number here.out here.place g).2

  -- what was played and written is where it stands then
  is-after : (e : Event) (increments : List ℕ) (next : ℕ) (p : Played) (words : List ℕ) → p ≡ event_played here.line here.words e increments
      → words ≡ played_words here.line here.words e increments → (end : List ℕ) → end ≡ event_end (run_of p.line []) → (place : ℕ) (out : List ℕ)
      → place ≡ behind (fits_end end here.out here.place) here.place (line_with (here.number + 1) p.answer end)
      → out ≡ printed (fits_end end here.out here.place) here.out here.place (line_with (here.number + 1) p.answer end)
      → standing 0 p.line words next (here.number + 1) out place ≡ after here e increments next
  unfolding after line_of comes event_line
  is-after e increments next p words ep ew end ee place out el eo =
      let ends : List ℕ = event_end (run_of (event_played here.line here.words e increments).line []) in
      let same : end ≡ ends = ee ∙ ap (λ (x : Played). event_end (run_of x.line [])) ep in
      let le : place ≡ here.place + length (line_of here e increments) =
      el ∙ ap (λ (x : List ℕ). behind (fits_end x here.out here.place) here.place (line_with (here.number + 1) p.answer x)) same
      ∙ ap (λ (x : Played). behind (fits_end ends here.out here.place) here.place (line_with (here.number + 1) x.answer ends)) ep
      ∙ rw (end_fits e increments) refl in
      let oe : out ≡ laid here.out here.place (line_of here e increments) =
      eo ∙ ap (λ (x : List ℕ). printed (fits_end x here.out here.place) here.out here.place (line_with (here.number + 1) p.answer x)) same
      ∙ ap (λ (x : Played). printed (fits_end ends here.out here.place) here.out here.place (line_with (here.number + 1) x.answer ends)) ep
      ∙ rw (end_fits e increments) refl in
      λ j. record { answer = 0; line = (ep j).line; words = ew j; next = next; number = here.number + 1; out = oe j; place = le j }

  -- and so is what was read
  pub onward-next : (read : EventRead) → read ≡ read_at bytes here → read.answer ≡ 0
      → (p : Played) (words : List ℕ) → p ≡ stepped here.line here.words read.event (take here.line.plan.stations read.increments)
      → words ≡ stepped_words here.line here.words read.event (take here.line.plan.stations read.increments)
      → (end : List ℕ) → end ≡ event_end (run_of p.line []) → (place : ℕ) (out : List ℕ)
      → place ≡ behind (fits_end end here.out here.place) here.place (line_with (here.number + 1) p.answer end)
      → out ≡ printed (fits_end end here.out here.place) here.out here.place (line_with (here.number + 1) p.answer end)
      → Onward bytes start (standing 0 p.line words read.next (here.number + 1) out place)
  onward-next read er z p words ep ew end ee place out el eo =
      let increments : List ℕ = take here.line.plan.stations read.increments in
      let steps = step-played here.line here.words read.event increments o.good in
      let here_on =
      subst (λ (x : EventRead). x.answer ≡ 0 → Onward bytes start (after here x.event (take here.line.plan.stations x.increments) x.next))
      (sym er) (onward-after bytes start here o g) z in
      subst (Onward bytes start)
      (sym (is-after read.event increments read.next p words (ep ∙ steps.0) (ew ∙ steps.1) end ee place out el eo)) here_on

  -- or the script can't be read on, and the line says so
  pub onward-read : (read : EventRead) → read ≡ read_at bytes here → (read.answer ≡ 0 → ⊥) → (place : ℕ) (out : List ℕ)
      → place ≡ behind (roomy here.out here.place) here.place (script_line read.answer)
      → out ≡ printed (roomy here.out here.place) here.out here.place (script_line read.answer)
      → played_from (max_script - start.number) bytes start ≡ standing read.answer here.line here.words read.next here.number out place
  unfolding stops
  onward-read read er z place out el eo =
      let room = (goes_number bytes here.next here.number here.out here.place g).2 in
      let le : place ≡ here.place + length (script_line read.answer) = el ∙ rw room refl in
      let oe : out ≡ laid here.out here.place (script_line read.answer) = eo ∙ rw room refl in
      let stop =
      subst (λ (x : EventRead). (x.answer ≡ 0 → ⊥) → played_from (max_script - start.number) bytes start ≡ stops here x.answer x.next) (sym er)
      (onward_stops bytes start here o g) z in
      stop
      ∙ (λ j. record {
        answer = read.answer;
        line = here.line;
        words = here.words;
        next = read.next;
        number = here.number;
        out = sym oe j;
        place = sym le j;
      })

-- ---- what is kept beside the record

-- the end anew
module _ (l : Line) (few : l.plan.stations ≤ 12) (end : List ℕ) (room : length end ≡ 320) where
  end-roomy : fits l end 0 ≡ true
  end-roomy = fits-well l end 0 few (omega (arith, room))

  end_short : length (event_end (run_of l [])) ≤ 274
  unfolding run_of
  end_short = end-most (run_of l []) few

  pub end-made : (long : ℕ) (made : List ℕ) → long ≡ behind (fits l end 0) 0 (event_end (run_of l []))
      → made ≡ printed (fits l end 0) end 0 (event_end (run_of l []))
      → (length made ≡ 320) × (long ≤ 320) × (take long made ≡ event_end (run_of l []))
  unfolding laid
  end-made long made el em =
      let ends : List ℕ = event_end (run_of l []) in
      let more : long ≡ 0 + length ends = el ∙ rw end-roomy refl in
      let many : long ≡ length ends = omega (arith, more) in
      let laid-is : made ≡ laid end 0 ends = em ∙ rw end-roomy refl in (
        ap length laid-is ∙ length-laid end 0 ends (omega (arith, end_short, room)) ∙ room,
        omega (arith, end_short, many),
        (λ j. take (many j) (laid-is j)) ∙ take-append_seam ends (drop (0 + length ends) end),
      )

-- of a record and its rounds
pub beside-new : (n : ℕ) (l : Line) (signed signed₀ end made : List ℕ) (long : ℕ) → n ≡ l.plan.stations → l.plan.stations ≤ 12
    → length signed₀ ≡ 12 → signed ≡ signed_to l signed₀ l.plan.stations → length end ≡ 320
    → long ≡ behind (fits l end 0) 0 (event_end (run_of l [])) → made ≡ printed (fits l end 0) end 0 (event_end (run_of l []))
    → Beside n l signed made long
beside-new n l signed signed₀ end made long e few twelve es room el em =
    let anew = end-made l few end room long made el em in
    record {
      stations = e;
      noted = noted-all l signed₀ (omega (arith, few, twelve)) es;
      twelve = ap length es ∙ signed-length l signed₀ l.plan.stations ∙ twelve;
      room = anew.0;
      fits = anew.1;
      ends = anew.2;
    }

-- a valid record with all of it
pub ready-new : (l : Line) (words signed signed₀ end made : List ℕ) (long : ℕ) → bad_line l words ≡ false → length l.stations ≡ 12
    → length signed₀ ≡ 12 → signed ≡ signed_to l signed₀ l.plan.stations → length end ≡ 320
    → long ≡ behind (fits l end 0) 0 (event_end (run_of l [])) → made ≡ printed (fits l end 0) end 0 (event_end (run_of l []))
    → Ready l words signed made long
ready-new l words signed signed₀ end made long good twelve rounds es room el em = record {
  good = good;
  twelve = twelve;
  beside =
      beside-new l.plan.stations l signed signed₀ end made long refl (held-settled (held-is l words good)).few rounds es room el em;
}

-- at the start
pub ready-onward : {l : Line} {words signed end : List ℕ} {long : ℕ} → Ready l words signed end long
    → (bytes : List ℕ) (at number : ℕ) (out : List ℕ) (from : ℕ)
    → Onward bytes (standing 0 l words at number out from) (standing 0 l words at number out from)
ready-onward r bytes at number out from = record { same = refl; good = r.good; twelve = r.twelve; words = refl; out = refl }

-- what came of it is what was to be played
pub part-from : (bytes : List ℕ) (start end : Standing) → played_from (max_script - start.number) bytes start ≡ end
    → (part_of end ≡ part_of (played_from (max_script - start.number) bytes start))
    × ((end.words ≡ (played_from (max_script - start.number) bytes start).words) × (end.out ≡ (played_from (max_script - start.number) bytes start).out))
part-from bytes start end e = (ap part_of (sym e), (ap (λ (x : Standing). x.words) (sym e), ap (λ (x : Standing). x.out) (sym e)))

-- a step keeps the plan
pub step-plan : (l : Line) (words : List ℕ) (e : Event) (increments : List ℕ) → (stepped l words e increments).line.plan ≡ l.plan
unfolding comes holding
step-plan l words e increments = go (eqb (step_answer (run_of l words) e increments) 0)
  where
    go : (b : Bool) → (pick b (holding l (effect (run_of l words) e increments)) l).plan ≡ l.plan
    go true = refl
    go false = refl

-- one station in its new place
module _ {n : ℕ} {l : Line} {signed end : List ℕ} {long : ℕ} (b : Beside n l signed end long) (i : ℕ) (h : Heard)
    (k : i < l.plan.stations) where
  -- station j then
  seated-at : (j : ℕ) → j < l.plan.stations
      → station_at (run_of (seats l i h).line []) j ≡ get_or (set l.stations i h.station) j no_station
  seated-at j m = sym (table-station (seats l i h).line j m)

  ends_same : ((j : ℕ) → j < l.plan.stations → (station_at (run_of (seats l i h).line []) j).round ≡ (station_at (run_of l []) j).round)
      → event_end (run_of (seats l i h).line []) ≡ event_end (run_of l [])
  unfolding run_of
  ends_same rounds = end_same (run_of (seats l i h).line []) (run_of l []) refl refl rounds

  -- the one that heard, and each of the others
  seated-here : length l.stations ≡ 12 → l.plan.stations ≤ 12 → (j : ℕ) → j ≡ i → station_at (run_of (seats l i h).line []) j ≡ h.station
  seated-here twelve few j e =
      rw e (seated-at i k ∙ get_or-set_same l.stations i h.station no_station (omega (arith, twelve)))

  seated-other : (j : ℕ) → j < l.plan.stations → (j ≡ i → ⊥) → station_at (run_of (seats l i h).line []) j ≡ station_at (run_of l []) j
  seated-other j m e = seated-at j m ∙ get_or-set_other l.stations i j h.station no_station e ∙ table-station l j m

  pub seats-noted : length l.stations ≡ 12 → l.plan.stations ≤ 12 → Noted (seats l i h).line (set signed i h.station.signed)
  seats-noted twelve few = record { each = λ j m. go j m (eqb j i) refl }
    where
      go : (j : ℕ) → j < l.plan.stations → (x : Bool) → eqb j i ≡ x
          → get_or (set signed i h.station.signed) j 0 ≡ (station_at (run_of (seats l i h).line []) j).signed
      go j m true e =
          let same : j ≡ i = eqb-true j i e in
          ap (λ (y : ℕ). get_or (set signed i h.station.signed) y 0) same
          ∙ get_or-set_same signed i h.station.signed 0 (omega (arith, b.twelve))
          ∙ sym (ap (λ (s : Station). s.signed) (seated-here twelve few j same))
      go j m false e =
          let other = eqb-false j i e in
          get_or-set_other signed i j h.station.signed 0 other ∙ b.noted.each j m
          ∙ sym (ap (λ (s : Station). s.signed) (seated-other j m other))

  -- its end is the same where the round is
  pub seats-end : length l.stations ≡ 12 → l.plan.stations ≤ 12 → h.station.round ≡ (get_or l.stations i no_station).round
      → event_end (run_of (seats l i h).line []) ≡ event_end (run_of l [])
  seats-end twelve few q = ends_same (λ j m. go j m (eqb j i) refl)
    where
      go : (j : ℕ) → j < l.plan.stations → (x : Bool) → eqb j i ≡ x
          → (station_at (run_of (seats l i h).line []) j).round ≡ (station_at (run_of l []) j).round
      go j m true e =
          let same : j ≡ i = eqb-true j i e in
          ap (λ (s : Station). s.round) (seated-here twelve few j same) ∙ q
          ∙ ap (λ (s : Station). s.round) (table-station l i k ∙ ap (station_at (run_of l [])) (sym same))
      go j m false e = ap (λ (s : Station). s.round) (seated-other j m (eqb-false j i e))

-- ---- a turn of the code

-- an event is played: the record and the words are what its step gives, and what is kept beside them is theirs
pub record Turned (n : ℕ) (here : Standing) (e : Event) (increments : List ℕ) (answer : ℕ) (l : Line) (w signed end : List ℕ) (long : ℕ) : Type 0 where
  pub played : record { answer = answer; line = l } ≡ stepped here.line here.words e increments
  pub words : w ≡ stepped_words here.line here.words e increments
  pub beside : Beside n l signed end long

-- whichever way it came to that
pub turned_as : {n : ℕ} {here : Standing} {e : Event} {increments : List ℕ} {answer answer₁ : ℕ} {l l₁ : Line} {w w₁ signed signed₁ end end₁ : List ℕ}
    {long long₁ : ℕ} → Turned n here e increments answer l w signed end long
    → w₁ ≡ w → signed₁ ≡ signed → end₁ ≡ end → long₁ ≡ long → l₁ ≡ l → answer₁ ≡ answer
    → Turned n here e increments answer₁ l₁ w₁ signed₁ end₁ long₁
turned_as t ew es ee eg el ea = rw (ew, es, ee, eg, el, ea) t

module _ (bytes : List ℕ) (start here : Standing) (o : Onward bytes start here) {n : ℕ} {signed end : List ℕ} {long : ℕ}
    (b : Beside n here.line signed end long) where
  pub turn-held : Held here.line here.words
  turn-held = held-is _ _ o.good

  line-few : here.line.plan.stations ≤ 12
  line-few = (held-settled turn-held).few

  pub turn-few : n ≤ 12
  turn-few = omega (arith, b.stations, line-few)

  -- the script gives as many increments as there are stations
  pub turn-increments : (read : EventRead) → read ≡ as_event bytes (read_event n bytes here.next) → n ≤ length read.increments
  turn-increments read e =
      omega (arith, ap (λ (x : EventRead). length x.increments) e, increments-long bytes (read_event n bytes here.next), turn-few)

  pub turn-read : (read : EventRead) → read ≡ as_event bytes (read_event n bytes here.next) → read ≡ read_at bytes here
  turn-read read e = e ∙ ap (λ (k : ℕ). as_event bytes (read_event k bytes here.next)) b.stations

  pub turn-hearer : (i : ℕ) (e : Event) → i ≡ hearer n here.line.plan.faulty e
      → i ≡ hearer here.line.plan.stations here.line.plan.faulty e
  turn-hearer i e q = q ∙ ap (λ (k : ℕ). hearer k here.line.plan.faulty e) b.stations

  pub turn-nobody : (i : ℕ) (e : Event) → i ≡ hearer n here.line.plan.faulty e → n ≤ i
      → here.line.plan.stations ≤ hearer here.line.plan.stations here.line.plan.faulty e
  turn-nobody i e q m = omega (arith, turn-hearer i e q, m, b.stations)

  -- the line of the record is as long as before
  pub turn-plan : (p : Played) (e : Event) (increments : List ℕ) → p ≡ stepped here.line here.words e increments → p.line.plan.stations ≡ n
  turn-plan p e increments q =
      ap (λ (x : Played). x.line.plan.stations) q
      ∙ ap (λ (x : Plan). x.stations) (step-plan here.line here.words e increments) ∙ sym b.stations

  -- what is refused leaves all as it was
  pub turn-refused : (e : Event) (increments : List ℕ) (k : ℕ) (w : List ℕ)
      → record { answer = k; line = here.line } ≡ stepped here.line here.words e increments
      → w ≡ stepped_words here.line here.words e increments → Turned n here e increments k here.line w signed end long
  turn-refused e increments k w ep ew = record { played = ep; words = ew; beside = b }

  -- the event was heard by none
  pub turn-passes : (e : Event) (increments : List ℕ) (p : Played) (w : List ℕ) → p ≡ stepped here.line here.words e increments
      → w ≡ stepped_words here.line here.words e increments → (signed₁ : List ℕ)
      → signed₁ ≡ signed_to p.line signed p.line.plan.stations → (long₁ : ℕ) (made : List ℕ)
      → long₁ ≡ behind (fits p.line end 0) 0 (event_end (run_of p.line []))
      → made ≡ printed (fits p.line end 0) end 0 (event_end (run_of p.line []))
      → Turned n here e increments p.answer p.line w signed₁ made long₁
  turn-passes e increments p w ep ew signed₁ es long₁ made el em =
      let many = turn-plan p e increments ep in
      let few : p.line.plan.stations ≤ 12 = omega (arith, many, turn-few) in
      record {
        played = ep;
        words = ew;
        beside = beside-new n p.line signed₁ signed end made long₁ (sym many) few b.twelve es b.room el em;
      }

  -- station i heard it
  module _ (e : Event) (increments : List ℕ) (i : ℕ) (q : i ≡ hearer n here.line.plan.faulty e) (k : i < n) (h : Heard) (w : List ℕ)
      (d : DoesBy signed here.line.plan here.line.time here.line.count (recipient_or here.line.plan.stations e)
      (get_or here.line.stations i no_station) here.words e h w) where
    heard-step : (seats here.line i h ≡ stepped here.line here.words e increments) × (w ≡ stepped_words here.line here.words e increments)
    heard-step = line-heard turn-held e i (turn-hearer i e q) (omega (arith, k, b.stations)) increments signed b.noted h w d

    heard-noted : Noted (seats here.line i h).line (set signed i h.station.signed)
    heard-noted = seats-noted b i h (omega (arith, k, b.stations)) o.twelve line-few

    heard-twelve : length (set signed i h.station.signed) ≡ 12
    heard-twelve = length-set signed i h.station.signed ∙ b.twelve

    -- refused
    pub turn-unheard : h ≡ record { answer = h.answer; station = get_or here.line.stations i no_station; count = here.line.count }
        → Turned n here e increments h.answer here.line w signed end long
    turn-unheard same =
        let low : i < here.line.plan.stations = omega (arith, k, b.stations) in
        let still = seats-same here.line i _ h.answer low (table-station here.line i low) in
        turn-refused e increments h.answer w (sym still ∙ sym (ap (seats here.line i) same) ∙ heard-step.0) heard-step.1

    -- and starts a round
    pub turn-starts : (long₁ : ℕ) (made : List ℕ) → long₁ ≡ behind (fits (seats here.line i h).line end 0) 0 (event_end (run_of (seats here.line i h).line []))
        → made ≡ printed (fits (seats here.line i h).line end 0) end 0 (event_end (run_of (seats here.line i h).line []))
        → Turned n here e increments h.answer (seats here.line i h).line w (set signed i h.station.signed) made long₁
    turn-starts long₁ made el em =
        let anew = end-made (seats here.line i h).line line-few end b.room long₁ made el em in
        record {
          played = heard-step.0;
          words = heard-step.1;
          beside = record {
            stations = b.stations;
            noted = heard-noted;
            twelve = heard-twelve;
            room = anew.0;
            fits = anew.1;
            ends = anew.2;
          };
        }

    -- or stays in its round
    pub turn-stays : h.station.round ≡ (get_or here.line.stations i no_station).round
        → Turned n here e increments h.answer (seats here.line i h).line w (set signed i h.station.signed) end long
    turn-stays same = record {
      played = heard-step.0;
      words = heard-step.1;
      beside = record {
        stations = b.stations;
        noted = heard-noted;
        twelve = heard-twelve;
        room = b.room;
        fits = b.fits;
        ends = b.ends ∙ sym (seats-end b i h (omega (arith, k, b.stations)) o.twelve line-few same);
      };
    }

  -- once the event is played and its line written
  pub turn-shown : goes_on bytes here.next here.number here.out here.place ≡ true → (read : EventRead)
      → read ≡ as_event bytes (read_event n bytes here.next) → read.answer ≡ 0 → {answer : ℕ} {l : Line} {w signed₁ end₁ : List ℕ} {long₁ : ℕ}
      → Turned n here read.event (take n read.increments) answer l w signed₁ end₁ long₁ → (place : ℕ) (out : List ℕ)
      → place ≡ behind (fits_end (take long₁ end₁) here.out here.place) here.place (line_with (here.number + 1) answer (take long₁ end₁))
      → out ≡ printed (fits_end (take long₁ end₁) here.out here.place) here.out here.place (line_with (here.number + 1) answer (take long₁ end₁))
      → Onward bytes start (standing 0 l w read.next (here.number + 1) out place)
  turn-shown g read er z {answer} {l} {w} {signed₁} {end₁} {long₁} t place out el eo =
      let same : take n read.increments ≡ take here.line.plan.stations read.increments =
      ap (λ (k : ℕ). take k read.increments) b.stations in
      onward-next bytes start here o g read (turn-read read er) z (record { answer = answer; line = l }) w
      (t.played ∙ ap (stepped here.line here.words read.event) same) (t.words ∙ ap (stepped_words here.line here.words read.event) same)
      (take long₁ end₁) t.beside.ends place out el eo

-- ---- the whole part

module _ (l : Line) (words bytes : List ℕ) (at number : ℕ) (out : List ℕ) (from : ℕ) where
  -- 10
  pub part-bad : bad_line l words ≡ true
      → (record { answer = 10; line = l; next = at; number = number; place = from } ≡ part_of (played l words bytes at number out from))
      × ((words ≡ (played l words bytes at number out from).words) × (out ≡ (played l words bytes at number out from).out))
  unfolding played
  part-bad e = rw e (refl, (refl, refl))

  module _ (ok : bad_line l words ≡ false) {line : Line} (seat : line ≡ seated l) where
    -- at the start
    pub onward-start : Onward bytes (standing 0 line words at number out from) (standing 0 line words at number out from)
    onward-start = record {
      same = refl;
      good = ap (λ (x : Line). bad_line x words) seat ∙ seated-good l words ok;
      twelve = ap (λ (x : Line). length x.stations) seat ∙ seated-twelve l;
      words = refl;
      out = refl;
    }

    -- where the playing came to
    pub part-ends : (end : Standing) → played_from (max_script - number) bytes (standing 0 line words at number out from) ≡ end
        → (part_of end ≡ part_of (played l words bytes at number out from))
        × ((end.words ≡ (played l words bytes at number out from).words) × (end.out ≡ (played l words bytes at number out from).out))
    unfolding played
    part-ends end e =
        let whole : end ≡ played_from (max_script - number) bytes (standing 0 (seated l) words at number out from) =
        sym e ∙ ap (λ (x : Line). played_from (max_script - number) bytes (standing 0 x words at number out from)) seat in
        rw ok (ap part_of whole, (ap (λ (x : Standing). x.words) whole, ap (λ (x : Standing). x.out) whole))
