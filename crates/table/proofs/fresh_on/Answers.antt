-- There are twelve places, and no more of them are lent.
use Rattle.std.proofs.Common.{arith, sym}
use Rattle.std.proofs.Math.Seq.{length-take-le}
use Rattle.table.specs.Table.{many-few}
use Rattle.std.proofs.lemmas.Result.{err_from_is_err_and}
use Rattle.refusal.proofs.Laws.{refused}
use Rattle.table.proofs.Kept.{begun-kept}
use Rattle.table.proofs.fresh_on.Goals as goal

pub slice_bounds-places-end : goal.slice_bounds-places-end
slice_bounds-places-end c =
    let few = many-few c.args.seats in
    omega (arith, c.lent_places-many.ensures)

pub slice_bounds-fresh-end : goal.slice_bounds-fresh-end
slice_bounds-fresh-end c =
    let few = many-few c.args.seats in
    sym (length-take-le c.lent_places-many.result c.args.seats.places (omega (arith, c.lent_places-many.ensures)))

pub returns-in_err-rest : goal.returns-in_err-rest
returns-in_err-rest c =
    let a = c.args in
    let p = err_from_is_err_and c.from_residual.result c.from_residual.ensures.1 in
    rw (p.1, p.2) (begun-kept a.seats _ (refused _) _ _ c.lent_places-many.ensures a.plan a.first.now c.in_err-rest.ensures.0)
