use Rattle.std.proofs.Common.{◌*◌, length, arith}
use Rattle.module_types.specs.Algebras.{algebra_at}
use Rattle.local_checks.proofs.Composites.{block_room, other_default}
use Rattle.local_checks.proofs.Places.{lent_elements}
use Rattle.functional_checks.proofs.GeneratorValues.{block_inside, block_length, block_of_module}
use Rattle.functional_checks.proofs.values.block_at.Goals as goal

pub overflow_add-from : goal.overflow_add-from
overflow_add-from c =
    let r = block_room c.args.header.now.field (algebra_at c.args.m.now.side c.args.header.now).quiver c.args.m.now c.requires.m c.loop-w.w c.loop-w.from c.index.result.now (length c.args.element.now)
    (omega (arith, c.loop-w-test.true, c.requires.vertex)) c.loop-w.invariant.from (other_default c.args.m.now.dims c.loop-w.w c.index.result.now (omega (arith, c.loop-w-test.true, c.requires.vertex)) c.index.ensures) c.requires.element.count in
    omega (arith, r)

pub part-requires : goal.part-requires
part-requires c = record {
  inside = block_inside c.args.header.now.field (algebra_at c.args.m.now.side c.args.header.now).quiver c.args.m.now c.requires.m c.args.v c.loop-w.w c.loop-w.from c.index-2.result.now c.args.element.now (omega (arith, c.loop-w-test.false, c.loop-w.auto.w-end)) c.requires.vertex
      c.loop-w.invariant.from (other_default c.args.m.now.dims c.args.v c.index-2.result.now c.requires.vertex c.index-2.ensures) c.requires.element.elements c.requires.element.count;
}

pub returns-clause-count : goal.returns-clause-count
returns-clause-count c =
    rw c.part.ensures (block_length c.args.header.now.field (algebra_at c.args.m.now.side c.args.header.now).quiver c.args.m.now c.requires.m c.args.v c.loop-w.w c.loop-w.from c.index-2.result.now c.args.element.now (omega (arith, c.loop-w-test.false, c.loop-w.auto.w-end)) c.requires.vertex
    c.loop-w.invariant.from (other_default c.args.m.now.dims c.args.v c.index-2.result.now c.requires.vertex c.index-2.ensures) c.requires.element.elements c.requires.element.count)

pub returns-clause-elements : goal.returns-clause-elements
returns-clause-elements c =
    rw c.part.ensures (lent_elements c.args.header.now.field c.args.element.now c.loop-w.from (c.index-2.result.now * c.index-2.result.now)
    (block_inside c.args.header.now.field (algebra_at c.args.m.now.side c.args.header.now).quiver c.args.m.now c.requires.m c.args.v c.loop-w.w c.loop-w.from c.index-2.result.now c.args.element.now (omega (arith, c.loop-w-test.false, c.loop-w.auto.w-end)) c.requires.vertex
    c.loop-w.invariant.from (other_default c.args.m.now.dims c.args.v c.index-2.result.now c.requires.vertex c.index-2.ensures) c.requires.element.elements c.requires.element.count) c.requires.element.elements)

pub returns-clause-block : goal.returns-clause-block
returns-clause-block c =
    rw c.part.ensures (block_of_module c.args.header.now.field (algebra_at c.args.m.now.side c.args.header.now).quiver c.args.m.now c.requires.m c.args.v c.loop-w.w c.loop-w.from c.index-2.result.now c.args.element.now (omega (arith, c.loop-w-test.false, c.loop-w.auto.w-end)) c.requires.vertex
    c.loop-w.invariant.from (other_default c.args.m.now.dims c.args.v c.index-2.result.now c.requires.vertex c.index-2.ensures) c.requires.element.elements c.requires.element.count)
