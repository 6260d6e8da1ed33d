-- `lent_places` are no more than there are.
use Rattle.std.proofs.Common.{◌≡◌, ◌∙◌, arith, min}
use Rattle.std.proofs.Math.Decide.{dec_lt}
use Rattle.table.specs.declared.Seats.{Seats}
use Rattle.table.specs.Table.{many, many-all, many-some}
use Rattle.table.proofs.lent_places.Goals as goal

many-min : (seats : Seats) → min seats.length 12 ≡ many seats
many-min seats = elim (dec_lt 12 seats.length) [
  | yes h ↦ omega arith ∙ many-all seats h
  | no h ↦ omega arith ∙ many-some seats (omega arith)
]

pub returns : goal.returns
returns c = c.min.ensures ∙ many-min c.args.seats
