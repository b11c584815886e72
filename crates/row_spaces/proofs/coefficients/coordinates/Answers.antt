use Rattle.std.proofs.Common.{◌≡◌, ◌++◌, map, slice_index, ap, ◌∙◌}
use Rattle.linear_algebra.specs.Reduced.{pivots_of}
use Rattle.row_spaces.proofs.PivotEntries.{pivots_inside, picked_row, picked_coordinates}
use Rattle.row_spaces.proofs.coefficients.coordinates.Goals as goal

pub push_at-requires : goal.push_at-requires
push_at-requires c = λ k l.
    let b = c.args.basis.now in
    let ps : c.deref.result.now ≡ pivots_of b.rows = c.deref.ensures.value ∙ c.in_ok-pivots.ensures in
    rw (ps, c.requires.row.count) (pivots_inside b.field b.row_count b.col_count b.rows c.rows.ensures.matrix.grid c.requires.reduced.0 c.requires.reduced.1 k (rw ps at l))

pub returns-clause-row : goal.returns-clause-row
returns-clause-row c =
    let b = c.args.basis.now in
    let ps : c.deref.result.now ≡ pivots_of b.rows = c.deref.ensures.value ∙ c.in_ok-pivots.ensures in
    let is : c.push_at.new.entries.items ≡ map (slice_index c.args.x.now) (pivots_of b.rows) = c.in_ok-push_at.ensures ∙ ap (λ a. a ++ map (slice_index c.args.x.now) c.deref.result.now) c.in_ok-coefficients.ensures.items ∙ ap (map (slice_index c.args.x.now)) ps in
    rw is (picked_row b.field b.row_count b.col_count b.rows c.rows.ensures.matrix.grid c.requires.reduced.0 c.requires.reduced.1 c.args.x.now c.requires.row)

pub returns-clause-coordinates : goal.returns-clause-coordinates
returns-clause-coordinates c =
    let b = c.args.basis.now in
    let ps : c.deref.result.now ≡ pivots_of b.rows = c.deref.ensures.value ∙ c.in_ok-pivots.ensures in
    let is : c.push_at.new.entries.items ≡ map (slice_index c.args.x.now) (pivots_of b.rows) = c.in_ok-push_at.ensures ∙ ap (λ a. a ++ map (slice_index c.args.x.now) c.deref.result.now) c.in_ok-coefficients.ensures.items ∙ ap (map (slice_index c.args.x.now)) ps in
    rw is (picked_coordinates b.field b.row_count b.col_count b.rows c.rows.ensures.matrix.grid c.requires.reduced.0 c.requires.reduced.1 c.args.x.now c.requires.row c.requires.inside)
