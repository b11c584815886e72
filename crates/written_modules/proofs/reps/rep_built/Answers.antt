use Rattle.std.proofs.Common.{◌≡◌, ◌∙◌, sym}
use Rattle.std.proofs.lemmas.List.Elements.{same_from_all_zip}
use Rattle.module_types.specs.declared.Module.{Module}
use Rattle.module_types.specs.declared.Side.TheVariants.{Right}
use Rattle.script_answers.specs.Written.{rep_written}
use Rattle.written_modules.proofs.WrittenShapes.{stops_by, small_rows, small_cols, rep_is, module_by, holds_by, rep_shape_is}
use Rattle.written_modules.proofs.reps.rep_built.Goals as goal

pub written_matrices-requires-clause-row_counts : goal.written_matrices-requires-clause-row_counts
written_matrices-requires-clause-row_counts c = small_rows c.args.header.now c.args.dims.now c.args.counts.now.rows c.requires.small c.requires.rows

pub written_matrices-requires-clause-col_counts : goal.written_matrices-requires-clause-col_counts
written_matrices-requires-clause-col_counts c = small_cols c.args.header.now c.args.dims.now c.args.counts.now.cols c.requires.small c.requires.cols

pub rep_holds-requires-clause-m : goal.rep_holds-requires-clause-m
rep_holds-requires-clause-m c =
    let h = c.args.header.now in
    let same : c.in_ok-copy.copy ≡ c.args.dims.now = same_from_all_zip _ _ _ c.in_ok-copy.ensures.cases (λ x y e. e) in
    let m : Module = record { side = Right; dims = c.in_ok-copy.copy; matrices = c.in_ok-matrices.matrices } in
    let is : m ≡ rep_written h c.args.dims.now c.args.lines.now = rep_is h c.args.dims.now c.in_ok-copy.copy c.args.counts.now.rows c.args.counts.now.cols c.args.names.now c.args.lines.now c.in_ok-matrices.matrices same c.requires.names c.requires.rows c.requires.cols c.in_ok-matrices.ensures in
    module_by h m (rep_written h c.args.dims.now c.args.lines.now) is (rep_shape_is h c.args.dims.now c.args.lines.now c.requires.counted c.requires.small c.requires.lines c.requires.fit)

pub returns-in-Err-clause-tested : goal.returns-in-Err-clause-tested
returns-in-Err-clause-tested c =
    let h = c.args.header.now in
    let same : c.in_ok-copy.copy ≡ c.args.dims.now = same_from_all_zip _ _ _ c.in_ok-copy.ensures.cases (λ x y e. e) in
    let m : Module = record { side = Right; dims = c.in_ok-copy.copy; matrices = c.in_ok-matrices.matrices } in
    let is : m ≡ rep_written h c.args.dims.now c.args.lines.now = rep_is h c.args.dims.now c.in_ok-copy.copy c.args.counts.now.rows c.args.counts.now.cols c.args.names.now c.args.lines.now c.in_ok-matrices.matrices same c.requires.names c.requires.rows c.requires.cols c.in_ok-matrices.ensures in
    stops_by _ _ c.in-Err.stop (holds_by h m (rep_written h c.args.dims.now c.args.lines.now) is) c.in-Err.ensures.tested

pub returns-clause-tested : goal.returns-clause-tested
returns-clause-tested c =
    let h = c.args.header.now in
    let same : c.in_ok-copy.copy ≡ c.args.dims.now = same_from_all_zip _ _ _ c.in_ok-copy.ensures.cases (λ x y e. e) in
    let m : Module = record { side = Right; dims = c.in_ok-copy.copy; matrices = c.in_ok-matrices.matrices } in
    let is : m ≡ rep_written h c.args.dims.now c.args.lines.now = rep_is h c.args.dims.now c.in_ok-copy.copy c.args.counts.now.rows c.args.counts.now.cols c.args.names.now c.args.lines.now c.in_ok-matrices.matrices same c.requires.names c.requires.rows c.requires.cols c.in_ok-matrices.ensures in
    sym (holds_by h m (rep_written h c.args.dims.now c.args.lines.now) is) ∙ c.in_default.ensures.tested

pub returns-clause-written : goal.returns-clause-written
returns-clause-written c =
    let h = c.args.header.now in
    let same : c.in_ok-copy.copy ≡ c.args.dims.now = same_from_all_zip _ _ _ c.in_ok-copy.ensures.cases (λ x y e. e) in
    rep_is h c.args.dims.now c.in_ok-copy.copy c.args.counts.now.rows c.args.counts.now.cols c.args.names.now c.args.lines.now c.in_ok-matrices.matrices same c.requires.names c.requires.rows c.requires.cols c.in_ok-matrices.ensures
