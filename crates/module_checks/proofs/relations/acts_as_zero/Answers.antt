use Rattle.std.proofs.Common.{◌≡◌, ◌∙◌, arith}
use Rattle.std.specs.Prelude.{slice_index}
use Rattle.linear_algebra.proofs.BlockFamilies.{total_grows}
use Rattle.std.proofs.lemmas.Grind.{get_or_default_zero}
use Rattle.std.specs.Prelude.{length}
use Rattle.module_checks.proofs.RelationRows.{vertex_inside, relation_fails, relation_holds}
use Rattle.module_checks.proofs.relations.acts_as_zero.Goals as goal

pub index-i-end-requires : goal.index-i-end-requires
index-i-end-requires c = vertex_inside c.args.header.now c.requires.allowed c.args.r c.requires.relation c.args.m.now c.requires.m c.index-relation.result.now c.index.result.now c.index-relation.ensures c.index.ensures c.first_vertex-from.result c.first_vertex-from.ensures

pub is_zero_in_row-requires-clause-inside : goal.is_zero_in_row-requires-clause-inside
is_zero_in_row-requires-clause-inside c =
    let dims = c.args.m.now.dims in
    let g = total_grows (slice_index dims) (length dims) c.first_vertex-from.result (vertex_inside c.args.header.now c.requires.allowed c.args.r c.requires.relation c.args.m.now c.requires.m c.index-relation.result.now c.index.result.now c.index-relation.ensures c.index.ensures c.first_vertex-from.result c.first_vertex-from.ensures) in
    let d : c.index-i-end.result.now ≡ slice_index dims c.first_vertex-from.result = (c.index-i-end.ensures ∙ get_or_default_zero c.args.m.now.dims c.first_vertex-from.result c.index-i-end.result.now (vertex_inside c.args.header.now c.requires.allowed c.args.r c.requires.relation c.args.m.now c.requires.m c.index-relation.result.now c.index.result.now c.index-relation.ensures c.index.ensures c.first_vertex-from.result c.first_vertex-from.ensures)) in
    omega (arith, g, d, c.loop-i-test.true, c.requires.room, c.loop-i.auto.row)

pub returns-then-not-is_zero_in_row-clause-zero : goal.returns-then-not-is_zero_in_row-clause-zero
returns-then-not-is_zero_in_row-clause-zero c = relation_fails c.args.header.now c.requires.allowed c.args.r c.requires.relation c.args.m.now c.requires.m c.index-relation.result.now c.index.result.now c.index-relation.ensures c.index.ensures c.first_vertex-from.result c.first_vertex-from.ensures c.index-i-end.result.now c.loop-i.i (c.index-i-end.ensures ∙ get_or_default_zero c.args.m.now.dims c.first_vertex-from.result c.index-i-end.result.now (vertex_inside c.args.header.now c.requires.allowed c.args.r c.requires.relation c.args.m.now c.requires.m c.index-relation.result.now c.index.result.now c.index-relation.ensures c.index.ensures c.first_vertex-from.result c.first_vertex-from.ensures)) c.loop-i-test.true c.if-not-is_zero_in_row.ensures.zero

pub returns-clause-zero : goal.returns-clause-zero
returns-clause-zero c = relation_holds c.args.header.now c.requires.allowed c.args.r c.requires.relation c.args.m.now c.requires.m c.index-relation.result.now c.index.result.now c.index-relation.ensures c.index.ensures c.first_vertex-from.result c.first_vertex-from.ensures c.index-i-end.result.now c.loop-i.i (c.index-i-end.ensures ∙ get_or_default_zero c.args.m.now.dims c.first_vertex-from.result c.index-i-end.result.now (vertex_inside c.args.header.now c.requires.allowed c.args.r c.requires.relation c.args.m.now c.requires.m c.index-relation.result.now c.index.result.now c.index-relation.ensures c.index.ensures c.first_vertex-from.result c.first_vertex-from.ensures)) (omega (arith, c.loop-i-test.false)) c.loop-i.invariant.zero
