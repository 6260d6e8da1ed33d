-- A record with nothing in it, as the library makes it by default: each field of it is zero.
use Rattle.std.proofs.Common.{◌<◌, List, ◌≡◌, sym, ◌∙◌, arith, ext_get_or}
use Rattle.std.specs.Array.{AllOfLen}
use Rattle.std.proofs.lemmas.List.{get_or-replicate}
use Rattle.station.specs.declared.Station.{Station}
use Rattle.setup.specs.declared.Plan.{Plan}
use Rattle.line.specs.declared.Line.{Line}
use Rattle.model.specs.Run.{no_station}
use Rattle.line.specs.Fresh.{line_for, no_plan, no_stations}

abbrev Empty : Station → Type 0
Empty s = (s.round ≡ 0) × ((s.reading.0 ≡ 0) × ((s.signed ≡ 0) × (s.gathered ≡ 0)))

abbrev Unplanned : Plan → Type 0
Unplanned p =
    (p.stations ≡ 0) × ((p.faults ≡ 0) × ((p.drift ≡ 0) × ((p.bound ≡ 0) × ((p.spread ≡ 0) × ((p.step ≡ 0) × ((p.period ≡ 0) × (p.faulty ≡ 0)))))))

empty : (s : Station) → Empty s → s ≡ no_station
empty s z = λ i. record {
  round = z.0 i;
  reading = record { 0 = z.1.0 i };
  signed = z.1.1.0 i;
  gathered = z.1.1.1 i;
}

empty-table : (table : List Station) → AllOfLen Empty table 12 → table ≡ no_stations
empty-table table all =
    ext_get_or no_station table no_stations all.long
    (λ i h.
    let b : i < 12 = omega (arith, all.long) in
    empty _ (all.at i no_station b) ∙ sym (get_or-replicate 12 i no_station no_station b))

unplanned : (p : Plan) → Unplanned p → p ≡ no_plan
unplanned p z = λ i. record {
  stations = z.0 i;
  faults = z.1.0 i;
  drift = z.1.1.0 i;
  bound = z.1.1.1.0 i;
  spread = z.1.1.1.1.0 i;
  step = z.1.1.1.1.1.0 i;
  period = z.1.1.1.1.1.1.0 i;
  faulty = z.1.1.1.1.1.1.1 i;
}

pub default-line : (l : Line) → Unplanned l.plan × ((l.time.0 ≡ 0) × ((l.length ≡ 0) × (AllOfLen Empty l.stations 12 × (l.count ≡ 0))))
    → l ≡ line_for no_plan 0 no_stations
default-line l z =
    let p : l.plan ≡ no_plan = unplanned l.plan z.0 in
    let t : l.stations ≡ no_stations = empty-table l.stations z.1.1.1.0 in
    λ i. record { plan = p i; time = record { 0 = z.1.0 i }; length = z.1.1.0 i; stations = t i; count = z.1.1.1.1 i }
