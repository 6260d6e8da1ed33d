-- On a table of one's own, what is refused leaves the table as it was.
use Rattle.std.specs.Prelude.{ℕ, List, ◌++◌, ◌≡◌, refl, take, drop}
use Rattle.std.proofs.Common.{ap, sym, ◌∙◌, ne_eqb, take-append-drop}
use Rattle.setup.specs.declared.Plan.{Plan}
use Rattle.station.specs.declared.Station.{Station}
use Rattle.event.specs.declared.Event.{Event}
use Rattle.line.specs.declared.Rest.{Rest}
use Rattle.seating.specs.Seating.{Answered}
use Rattle.table.specs.declared.Seats.{Seats}
use Rattle.table.specs.Table.{many, lent_of, turn, turned, begun, begun_table, played, played_table, begun_on, played_on}

-- the stations that were lent come back
kept : (seats : Seats) (a b : Answered) (table : List Station) → a ≡ b → table ≡ lent_of seats
    → record { answered = a; seats = seats } ≡ turned b seats table
kept seats a b table e f =
    ap (λ (x : Answered). record { answered = x; seats = seats }) e
    ∙ sym (ap (turn b seats) (ap (λ (t : List Station). t ++ drop (many seats) seats.places) f ∙ take-append-drop (many seats) seats.places))

module _ (seats : Seats) (k : ℕ) (z : k ≡ 0 → ⊥) (rest : Rest) (n : ℕ) (m : n ≡ many seats) where
  -- a fresh run
  pub begun-kept : (plan : Plan) (first : List ℕ) → record { answer = k; rest = rest } ≡ begun plan first (take n seats.places)
      → record { answered = record { answer = k; rest = rest }; seats = seats } ≡ begun_on seats plan first
  unfolding begun begun_table
  begun-kept plan first e =
      let is = e ∙ ap (λ (j : ℕ). begun plan first (take j seats.places)) m in
      kept seats _ _ _ is (rw (sym (ap (λ (x : Answered). x.answer) is), ne_eqb k 0 z) refl)

  -- an event
  pub played-kept : (before : Rest) (words : List ℕ) (e : Event) (increments : List ℕ)
      → record { answer = k; rest = rest } ≡ played before (take n seats.places) words e increments
      → record { answered = record { answer = k; rest = rest }; seats = seats } ≡ played_on seats before words e increments
  unfolding played played_table
  played-kept before words e increments q =
      let is = q ∙ ap (λ (j : ℕ). played before (take j seats.places) words e increments) m in
      kept seats _ _ _ is (rw (sym (ap (λ (x : Answered). x.answer) is), ne_eqb k 0 z) refl)
