use Rattle.std.proofs.Common.{◌≡◌, arith}
use Rattle.row_spaces.proofs.LastRows.{HasPlaces-more, IsCoReduced-same}
use Rattle.row_spaces.proofs.quotients.places.Goals as goal

pub loop-column-preserved : goal.loop-column-preserved
loop-column-preserved c =
    rw c.in_ok-push.ensures.items
    (HasPlaces-more c.args.projection.now c.loop-column.column c.last_nonzero.result c.loop-column.places.items c.cols.ensures.matrix (omega arith) c.last_nonzero.ensures c.loop-column.invariant)

pub returns-clause-places : goal.returns-clause-places
returns-clause-places c =
    let end : c.loop-column.column ≡ c.args.projection.now.col_count = omega arith in
    IsCoReduced-same _ c.requires.0 _ (λ j l. c.loop-column.invariant.at c.requires.0 c.requires.1 j (omega (arith, end, l))) c.requires.1
