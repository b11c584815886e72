use Rattle.std.proofs.Common.{◌≡◌, ◌∙◌, sym}
use Rattle.script_answers.specs.Written.{map_written}
use Rattle.written_modules.proofs.WrittenShapes.{stops_by, small_dims, map_fit_is, map_is, squares_by, map_shape_by, map_shape_is}
use Rattle.written_modules.proofs.maps.map_built.Goals as goal

pub written_matrices-requires-clause-row_counts : goal.written_matrices-requires-clause-row_counts
written_matrices-requires-clause-row_counts c = small_dims c.args.a.now.dims c.requires.a.shape.small

pub written_matrices-requires-clause-col_counts : goal.written_matrices-requires-clause-col_counts
written_matrices-requires-clause-col_counts c = small_dims c.args.b.now.dims c.requires.b.shape.small

pub written_matrices-requires-clause-fit : goal.written_matrices-requires-clause-fit
written_matrices-requires-clause-fit c = map_fit_is c.args.header.now c.args.a.now c.args.b.now c.args.lines.now c.requires.a_count c.requires.b_count ∙ c.requires.fit

pub map_holds-requires-clause-matrices : goal.map_holds-requires-clause-matrices
map_holds-requires-clause-matrices c =
    let h = c.args.header.now in
    let a = c.args.a.now in
    let b = c.args.b.now in
    let is : c.in_ok-matrices.matrices ≡ map_written h a b c.args.lines.now = c.in_ok-matrices.ensures ∙ map_is h a b c.args.lines.now c.requires.a_count c.requires.b_count in
    map_shape_by h a b c.in_ok-matrices.matrices (map_written h a b c.args.lines.now) is (map_shape_is h a b c.args.lines.now c.requires.a.shape.small c.requires.b.shape.small c.requires.lines c.requires.fit)

pub returns-in-Err-clause-tested : goal.returns-in-Err-clause-tested
returns-in-Err-clause-tested c =
    let h = c.args.header.now in
    let a = c.args.a.now in
    let b = c.args.b.now in
    let is : c.in_ok-matrices.matrices ≡ map_written h a b c.args.lines.now = c.in_ok-matrices.ensures ∙ map_is h a b c.args.lines.now c.requires.a_count c.requires.b_count in
    stops_by _ _ c.in-Err.stop (squares_by h a b c.args.lines.now c.in_ok-matrices.matrices is) c.in-Err.ensures.tested

pub returns-clause-tested : goal.returns-clause-tested
returns-clause-tested c =
    let h = c.args.header.now in
    let a = c.args.a.now in
    let b = c.args.b.now in
    let is : c.in_ok-matrices.matrices ≡ map_written h a b c.args.lines.now = c.in_ok-matrices.ensures ∙ map_is h a b c.args.lines.now c.requires.a_count c.requires.b_count in
    sym (squares_by h a b c.args.lines.now c.in_ok-matrices.matrices is) ∙ c.in_default.ensures.tested

pub returns-clause-written : goal.returns-clause-written
returns-clause-written c = c.in_ok-matrices.ensures ∙ map_is c.args.header.now c.args.a.now c.args.b.now c.args.lines.now c.requires.a_count c.requires.b_count
