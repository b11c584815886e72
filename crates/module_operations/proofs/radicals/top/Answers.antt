use Rattle.module_types.specs.Readings.{read}
use Rattle.module_operations.specs.ArrowSpans.{arrow_size, arrow_family}
use Rattle.module_operations.proofs.ArrowStacks.{all_vertices, narrow_bases}
use Rattle.module_operations.proofs.ComputedQuotients.{top_quotients, top_projections, top_by}
use Rattle.module_operations.proofs.radicals.top.Goals as goal

pub cokernel_projections-requires : goal.cokernel_projections-requires
cokernel_projections-requires c =
    let h = c.args.header.now in
    let a = c.args.a.now in
    narrow_bases h a c.requires.small.shape (arrow_size (read h a)) (arrow_family (read h a)) _ c.in_ok-bases.bases c.in_ok-bases.ensures

pub quotient_module-requires-clause-quotients : goal.quotient_module-requires-clause-quotients
quotient_module-requires-clause-quotients c =
    let h = c.args.header.now in
    let a = c.args.a.now in
    let F = all_vertices h a c.in_ok-bases.bases c.in_ok-bases.ensures in
    top_quotients h a c.in_ok-bases.bases F c.requires.allowed c.in_ok-matrices.matrices (top_projections h a c.in_ok-bases.bases F c.in_ok-matrices.matrices c.in_ok-matrices.ensures)

pub returns : goal.returns
returns c =
    let h = c.args.header.now in
    let a = c.args.a.now in
    let F = all_vertices h a c.in_ok-bases.bases c.in_ok-bases.ensures in
    top_by h a c.in_ok-bases.bases F c.in_ok-module.module c.in_ok-matrices.matrices c.requires.small c.in_ok-module.ensures
    (top_projections h a c.in_ok-bases.bases F c.in_ok-matrices.matrices c.in_ok-matrices.ensures)
