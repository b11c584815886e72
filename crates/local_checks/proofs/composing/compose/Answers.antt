use Rattle.std.proofs.Common.{ℕ, ◌+◌, ◌*◌, length, sym, ap, ap₂, ◌∙◌, arith}
use Rattle.module_types.specs.Algebras.{algebra_at}
use Rattle.local_checks.proofs.Composites.{block_room, composite_of_module, block_products_more, total_more, other_default}
use Rattle.local_checks.proofs.composing.compose.Goals as goal

pub compose_block-requires-clause-left_inside : goal.compose_block-requires-clause-left_inside
compose_block-requires-clause-left_inside c =
    block_room c.args.header.now.field (algebra_at c.args.m.now.side c.args.header.now).quiver c.args.m.now c.requires.m c.loop-v.v c.loop-v.from c.index.result.now (length c.args.left.now)
    (omega (arith, c.loop-v-test.true, c.len-v-end.ensures)) c.loop-v.invariant.from (other_default c.args.m.now.dims c.loop-v.v c.index.result.now (omega (arith, c.loop-v-test.true, c.len-v-end.ensures)) c.index.ensures) c.requires.left.count

pub compose_block-requires-clause-right_inside : goal.compose_block-requires-clause-right_inside
compose_block-requires-clause-right_inside c =
    block_room c.args.header.now.field (algebra_at c.args.m.now.side c.args.header.now).quiver c.args.m.now c.requires.m c.loop-v.v c.loop-v.from c.index.result.now (length c.args.right.now)
    (omega (arith, c.loop-v-test.true, c.len-v-end.ensures)) c.loop-v.invariant.from (other_default c.args.m.now.dims c.loop-v.v c.index.result.now (omega (arith, c.loop-v-test.true, c.len-v-end.ensures)) c.index.ensures) c.requires.right.count

pub compose_block-requires-clause-inside : goal.compose_block-requires-clause-inside
compose_block-requires-clause-inside c =
    block_room c.args.header.now.field (algebra_at c.args.m.now.side c.args.header.now).quiver c.args.m.now c.requires.m c.loop-v.v c.loop-v.from c.index.result.now (length c.loop-v.out)
    (omega (arith, c.loop-v-test.true, c.len-v-end.ensures)) c.loop-v.invariant.from (other_default c.args.m.now.dims c.loop-v.v c.index.result.now (omega (arith, c.loop-v-test.true, c.len-v-end.ensures)) c.index.ensures) c.loop-v.invariant.out.count

pub overflow_add-from : goal.overflow_add-from
overflow_add-from c =
    let r = block_room c.args.header.now.field (algebra_at c.args.m.now.side c.args.header.now).quiver c.args.m.now c.requires.m c.loop-v.v c.loop-v.from c.index.result.now (length c.args.left.now)
    (omega (arith, c.loop-v-test.true, c.len-v-end.ensures)) c.loop-v.invariant.from (other_default c.args.m.now.dims c.loop-v.v c.index.result.now (omega (arith, c.loop-v-test.true, c.len-v-end.ensures)) c.index.ensures) c.requires.left.count in
    omega (arith, r)

pub loop-v-preserved : goal.loop-v-preserved
loop-v-preserved c = record {
  out = record { count = c.compose_block.auto.out ∙ c.loop-v.invariant.out.count; elements = c.compose_block.ensures.elements };
  from = ap₂ (λ (a b : ℕ). a + b) c.loop-v.invariant.from (ap (λ (a : ℕ). a * a) (other_default c.args.m.now.dims c.loop-v.v c.index.result.now (omega (arith, c.loop-v-test.true, c.len-v-end.ensures)) c.index.ensures)) ∙ sym (total_more c.loop-v.v c.args.m.now.dims);
  blocks = block_products_more c.args.header.now.field c.args.m.now.dims c.loop-v.v c.loop-v.from c.index.result.now c.args.left.now c.args.right.now c.loop-v.out c.compose_block.new.out
      c.loop-v.invariant.blocks c.loop-v.invariant.from (other_default c.args.m.now.dims c.loop-v.v c.index.result.now (omega (arith, c.loop-v-test.true, c.len-v-end.ensures)) c.index.ensures) c.compose_block.ensures.written;
}

pub returns-clause-product : goal.returns-clause-product
returns-clause-product c =
    composite_of_module c.args.header.now.field (algebra_at c.args.m.now.side c.args.header.now).quiver c.args.m.now c.requires.m c.loop-v.v c.args.left.now c.args.right.now c.loop-v.out
    (omega (arith, c.loop-v-test.false, c.loop-v.auto.v-end, c.len-v-end.ensures)) c.requires.left.elements c.requires.right.elements c.loop-v.invariant.out.elements
    c.requires.left.count c.requires.right.count c.loop-v.invariant.out.count c.loop-v.invariant.blocks
