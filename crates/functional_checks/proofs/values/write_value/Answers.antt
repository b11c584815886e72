use Rattle.std.proofs.Common.{refl, ◌<◌, ◌∙◌, sym, length, arith, ap}
use Rattle.std.proofs.lemmas.List.{length-take-le}
use Rattle.module_types.specs.TermMatrices.{count}
use Rattle.local_checks.specs.Families.{family}
use Rattle.local_checks.proofs.Composites.{other_default}
use Rattle.local_checks.proofs.Places.{lent_length, lent_elements}
use Rattle.functional_checks.proofs.ValuesAtGenerators.{zero_elements, no_generator, vertex_inside, size_small, row_size, row_elements, block_size, part_inside, start_behind, generator_more}
use Rattle.functional_checks.proofs.values.write_value.Goals as goal

pub loop-j-init : goal.loop-j-init
loop-j-init c = record {
  from = refl;
  elements = zero_elements c.args.header.now.field c.args.value.now c.requires.value;
  value = no_generator c.args.header.now c.args.m.now c.args.cover.now c.args.functional.now (family c.args.header.now c.args.m.now c.args.element.now) c.args.value.now c.requires.value;
}

pub block_at-requires-clause-vertex : goal.block_at-requires-clause-vertex
block_at-requires-clause-vertex c =
    let inside : c.loop-j.j < count c.args.cover.now = omega (arith, c.loop-j-test.true, c.len-j-end.ensures) in
    let at = other_default c.args.cover.now.vertices c.loop-j.j c.index.result.now inside c.index.ensures in
    vertex_inside c.args.header.now c.args.m.now c.args.cover.now c.requires.m c.requires.cover c.loop-j.j c.index.result.now inside at

pub overflow_add-from : goal.overflow_add-from
overflow_add-from c =
    let inside : c.loop-j.j < count c.args.cover.now = omega (arith, c.loop-j-test.true, c.len-j-end.ensures) in
    let at = other_default c.args.cover.now.vertices c.loop-j.j c.index.result.now inside c.index.ensures in
    let is = other_default c.args.m.now.dims c.index.result.now c.index-in-loop-j.result.now (vertex_inside c.args.header.now c.args.m.now c.args.cover.now c.requires.m c.requires.cover c.loop-j.j c.index.result.now inside at) c.index-in-loop-j.ensures in
    let r = part_inside c.args.header.now c.args.m.now c.args.cover.now c.requires.m c.requires.cover c.loop-j.j c.index.result.now inside at c.index-in-loop-j.result.now is c.args.functional.now c.loop-j.from c.requires.functional c.loop-j.invariant.from in omega (arith, r)

pub part-requires : goal.part-requires
part-requires c =
    let inside : c.loop-j.j < count c.args.cover.now = omega (arith, c.loop-j-test.true, c.len-j-end.ensures) in
    let at = other_default c.args.cover.now.vertices c.loop-j.j c.index.result.now inside c.index.ensures in
    let is = other_default c.args.m.now.dims c.index.result.now c.index-in-loop-j.result.now (vertex_inside c.args.header.now c.args.m.now c.args.cover.now c.requires.m c.requires.cover c.loop-j.j c.index.result.now inside at) c.index-in-loop-j.ensures in
    record { inside = part_inside c.args.header.now c.args.m.now c.args.cover.now c.requires.m c.requires.cover c.loop-j.j c.index.result.now inside at c.index-in-loop-j.result.now is c.args.functional.now c.loop-j.from c.requires.functional c.loop-j.invariant.from }

pub slice_bounds-add_value-end : goal.slice_bounds-add_value-end
slice_bounds-add_value-end c =
    let inside : c.loop-j.j < count c.args.cover.now = omega (arith, c.loop-j-test.true, c.len-j-end.ensures) in
    let at = other_default c.args.cover.now.vertices c.loop-j.j c.index.result.now inside c.index.ensures in
    let is = other_default c.args.m.now.dims c.index.result.now c.index-in-loop-j.result.now (vertex_inside c.args.header.now c.args.m.now c.args.cover.now c.requires.m c.requires.cover c.loop-j.j c.index.result.now inside at) c.index-in-loop-j.ensures in
    let r = size_small c.args.header.now c.args.m.now c.args.cover.now c.requires.m c.requires.cover c.loop-j.j c.index.result.now inside at c.index-in-loop-j.result.now is in omega (arith, r, c.requires.image, c.loop-j.auto.image)

pub slice_bounds-add_value-end-in-loop-j : goal.slice_bounds-add_value-end-in-loop-j
slice_bounds-add_value-end-in-loop-j c =
    let inside : c.loop-j.j < count c.args.cover.now = omega (arith, c.loop-j-test.true, c.len-j-end.ensures) in
    let at = other_default c.args.cover.now.vertices c.loop-j.j c.index.result.now inside c.index.ensures in
    let is = other_default c.args.m.now.dims c.index.result.now c.index-in-loop-j.result.now (vertex_inside c.args.header.now c.args.m.now c.args.cover.now c.requires.m c.requires.cover c.loop-j.j c.index.result.now inside at) c.index-in-loop-j.ensures in
    sym (length-take-le c.index-in-loop-j.result.now c.loop-j.image (let r = size_small c.args.header.now c.args.m.now c.args.cover.now c.requires.m c.requires.cover c.loop-j.j c.index.result.now inside at c.index-in-loop-j.result.now is in omega (arith, r, c.requires.image, c.loop-j.auto.image)))

pub add_value-requires-clause-row : goal.add_value-requires-clause-row
add_value-requires-clause-row c =
    let inside : c.loop-j.j < count c.args.cover.now = omega (arith, c.loop-j-test.true, c.len-j-end.ensures) in
    let at = other_default c.args.cover.now.vertices c.loop-j.j c.index.result.now inside c.index.ensures in
    let is = other_default c.args.m.now.dims c.index.result.now c.index-in-loop-j.result.now (vertex_inside c.args.header.now c.args.m.now c.args.cover.now c.requires.m c.requires.cover c.loop-j.j c.index.result.now inside at) c.index-in-loop-j.ensures in
    row_elements c.args.header.now c.args.m.now c.args.cover.now c.requires.m c.requires.cover c.loop-j.j c.index.result.now inside at c.index-in-loop-j.result.now is c.index-in-loop-j-2.result.now c.deref.result.now (c.deref.ensures ∙ c.index-in-loop-j-2.ensures)

pub add_value-requires-clause-block_count : goal.add_value-requires-clause-block_count
add_value-requires-clause-block_count c =
    let inside : c.loop-j.j < count c.args.cover.now = omega (arith, c.loop-j-test.true, c.len-j-end.ensures) in
    let at = other_default c.args.cover.now.vertices c.loop-j.j c.index.result.now inside c.index.ensures in
    let is = other_default c.args.m.now.dims c.index.result.now c.index-in-loop-j.result.now (vertex_inside c.args.header.now c.args.m.now c.args.cover.now c.requires.m c.requires.cover c.loop-j.j c.index.result.now inside at) c.index-in-loop-j.ensures in
    block_size c.args.header.now c.args.m.now c.args.cover.now c.requires.m c.requires.cover c.loop-j.j c.index.result.now inside at c.index-in-loop-j.result.now is (length c.block_at.result.now) c.deref.result.now c.block_at.ensures.count (row_size c.args.header.now c.args.m.now c.args.cover.now c.requires.m c.requires.cover c.loop-j.j c.index.result.now inside at c.index-in-loop-j.result.now is c.index-in-loop-j-2.result.now c.deref.result.now (c.deref.ensures ∙ c.index-in-loop-j-2.ensures))

pub add_value-requires-clause-column : goal.add_value-requires-clause-column
add_value-requires-clause-column c =
    let inside : c.loop-j.j < count c.args.cover.now = omega (arith, c.loop-j-test.true, c.len-j-end.ensures) in
    let at = other_default c.args.cover.now.vertices c.loop-j.j c.index.result.now inside c.index.ensures in
    let is = other_default c.args.m.now.dims c.index.result.now c.index-in-loop-j.result.now (vertex_inside c.args.header.now c.args.m.now c.args.cover.now c.requires.m c.requires.cover c.loop-j.j c.index.result.now inside at) c.index-in-loop-j.ensures in
    rw c.part.ensures (lent_elements c.args.header.now.field c.args.functional.now c.loop-j.from c.index-in-loop-j.result.now (part_inside c.args.header.now c.args.m.now c.args.cover.now c.requires.m c.requires.cover c.loop-j.j c.index.result.now inside at c.index-in-loop-j.result.now is c.args.functional.now c.loop-j.from c.requires.functional c.loop-j.invariant.from) (record { small = c.requires.functional.small }))

pub add_value-requires-clause-column_count : goal.add_value-requires-clause-column_count
add_value-requires-clause-column_count c =
    let inside : c.loop-j.j < count c.args.cover.now = omega (arith, c.loop-j-test.true, c.len-j-end.ensures) in
    let at = other_default c.args.cover.now.vertices c.loop-j.j c.index.result.now inside c.index.ensures in
    let is = other_default c.args.m.now.dims c.index.result.now c.index-in-loop-j.result.now (vertex_inside c.args.header.now c.args.m.now c.args.cover.now c.requires.m c.requires.cover c.loop-j.j c.index.result.now inside at) c.index-in-loop-j.ensures in
    ap length c.part.ensures ∙ lent_length c.args.functional.now c.loop-j.from c.index-in-loop-j.result.now (part_inside c.args.header.now c.args.m.now c.args.cover.now c.requires.m c.requires.cover c.loop-j.j c.index.result.now inside at c.index-in-loop-j.result.now is c.args.functional.now c.loop-j.from c.requires.functional c.loop-j.invariant.from) ∙ sym (row_size c.args.header.now c.args.m.now c.args.cover.now c.requires.m c.requires.cover c.loop-j.j c.index.result.now inside at c.index-in-loop-j.result.now is c.index-in-loop-j-2.result.now c.deref.result.now (c.deref.ensures ∙ c.index-in-loop-j-2.ensures))

pub add_value-requires-clause-image_count : goal.add_value-requires-clause-image_count
add_value-requires-clause-image_count c =
    let inside : c.loop-j.j < count c.args.cover.now = omega (arith, c.loop-j-test.true, c.len-j-end.ensures) in
    let at = other_default c.args.cover.now.vertices c.loop-j.j c.index.result.now inside c.index.ensures in
    let is = other_default c.args.m.now.dims c.index.result.now c.index-in-loop-j.result.now (vertex_inside c.args.header.now c.args.m.now c.args.cover.now c.requires.m c.requires.cover c.loop-j.j c.index.result.now inside at) c.index-in-loop-j.ensures in
    length-take-le c.index-in-loop-j.result.now c.loop-j.image (let r = size_small c.args.header.now c.args.m.now c.args.cover.now c.requires.m c.requires.cover c.loop-j.j c.index.result.now inside at c.index-in-loop-j.result.now is in omega (arith, r, c.requires.image, c.loop-j.auto.image)) ∙ sym (row_size c.args.header.now c.args.m.now c.args.cover.now c.requires.m c.requires.cover c.loop-j.j c.index.result.now inside at c.index-in-loop-j.result.now is c.index-in-loop-j-2.result.now c.deref.result.now (c.deref.ensures ∙ c.index-in-loop-j-2.ensures))

pub loop-j-preserved : goal.loop-j-preserved
loop-j-preserved c =
    let inside : c.loop-j.j < count c.args.cover.now = omega (arith, c.loop-j-test.true, c.len-j-end.ensures) in
    let at = other_default c.args.cover.now.vertices c.loop-j.j c.index.result.now inside c.index.ensures in
    let is = other_default c.args.m.now.dims c.index.result.now c.index-in-loop-j.result.now (vertex_inside c.args.header.now c.args.m.now c.args.cover.now c.requires.m c.requires.cover c.loop-j.j c.index.result.now inside at) c.index-in-loop-j.ensures in
    record {
      from = start_behind c.args.header.now c.args.m.now c.args.cover.now c.requires.m c.requires.cover c.loop-j.j c.index.result.now inside at c.index-in-loop-j.result.now is c.args.functional.now c.loop-j.from c.requires.functional c.loop-j.invariant.from;
      elements = c.add_value.ensures.value;
      value = generator_more c.args.header.now c.args.m.now c.args.cover.now c.requires.m c.requires.cover c.loop-j.j c.index.result.now inside at c.index-in-loop-j.result.now is c.args.functional.now c.loop-j.from c.requires.functional c.loop-j.invariant.from (family c.args.header.now c.args.m.now c.args.element.now) c.index-in-loop-j-2.result.now c.deref.result.now c.block_at.result.now c.loop-j.value c.add_value.new.value
          (c.deref.ensures ∙ c.index-in-loop-j-2.ensures) c.block_at.ensures.block (rw c.part.ensures at c.add_value.ensures.sum) c.loop-j.invariant.value;
    }
