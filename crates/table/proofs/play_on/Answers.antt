-- There are twelve places, and no more of them are lent.
use Rattle.std.proofs.Common.{arith, sym}
use Rattle.std.proofs.Math.Seq.{length-take-le}
use Rattle.table.specs.Table.{many-few}
use Rattle.std.proofs.Common.{ℕ, take, ap, ◌∙◌}
use Rattle.std.proofs.lemmas.Result.{err_from_is_err_and}
use Rattle.refusal.proofs.Laws.{refused}
use Rattle.table.specs.Table.{played_words}
use Rattle.table.proofs.Kept.{played-kept}
use Rattle.table.proofs.play_on.Goals as goal

pub slice_bounds-places-end : goal.slice_bounds-places-end
slice_bounds-places-end c =
    let few = many-few c.args.seats in
    omega (arith, c.lent_places-many.ensures)

pub slice_bounds-play-end : goal.slice_bounds-play-end
slice_bounds-play-end c =
    let few = many-few c.args.seats in
    sym (length-take-le c.lent_places-many.result c.args.seats.places (omega (arith, c.lent_places-many.ensures)))

pub returns-in_err-rest : goal.returns-in_err-rest
returns-in_err-rest c =
    let a = c.args in
    let p = err_from_is_err_and c.from_residual.result c.from_residual.ensures.1 in
    let m = c.lent_places-many.ensures in
    rw (p.1, p.2) (
      played-kept a.seats _ (refused _) _ _ m a.rest a.words.now a.event a.increments.now c.in_err-rest.ensures.0,
      c.in_err-rest.ensures.2
          ∙ ap (λ (k : ℕ). played_words a.rest (take k a.seats.places) a.words.now a.event a.increments.now) m,
    )
