use Rattle.std.proofs.Common.{◌<◌, ◌∙◌, ap, sym, subst}
use Rattle.quiver_paths.specs.Quiver.{vertex_count}
use Rattle.module_types.specs.Algebras.{algebra_at}
use Rattle.module_types.specs.SimpleModules.{dim_of_simple}
use Rattle.term_rows.proofs.AddedWords.{source_below, target_below}
use Rattle.standard_modules.proofs.SimpleLists.{zero_matrix_is}
use Rattle.standard_modules.proofs.simples.zero_matrix.Goals as goal

pub simple_dim-rows-requires : goal.simple_dim-rows-requires
simple_dim-rows-requires c = let h = c.args.header.now in subst (λ v. v < vertex_count h.quiver) (sym c.source_at.ensures) (source_below c.args.side h c.args.arrow c.requires.ends c.requires.arrow)

pub simple_dim-cols-requires : goal.simple_dim-cols-requires
simple_dim-cols-requires c = let h = c.args.header.now in subst (λ v. v < vertex_count h.quiver) (sym c.target_at.ensures) (target_below c.args.side h c.args.arrow c.requires.ends c.requires.arrow)

pub returns : goal.returns
returns c =
    let h = c.args.header.now in
    let Q = (algebra_at c.args.side h).quiver in
    zero_matrix_is h.field Q c.args.v c.args.arrow c.simple_dim-rows.result c.simple_dim-cols.result c.in_ok-matrix.matrix
    (c.simple_dim-rows.ensures.dim ∙ ap (dim_of_simple Q c.args.v) c.source_at.ensures) (c.simple_dim-cols.ensures.dim ∙ ap (dim_of_simple Q c.args.v) c.target_at.ensures) c.in_ok-matrix.ensures
