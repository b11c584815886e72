use Rattle.std.proofs.Common.{◌≡◌, ◌<◌, ◌+◌, length, refl, sym, ap, ◌∙◌, subst, arith}
use Rattle.linear_algebra.specs.BlockFamilies.{total}
use Rattle.extension_checks.specs.Asking.{HoldsRows}
use Rattle.extension_checks.specs.Following.{value_dims, row_entries}
use Rattle.extension_checks.proofs.Lines.{holds-none}
use Rattle.extension_checks.proofs.FollowValues.{value_small}
use Rattle.extension_checks.proofs.FollowBlocks.{next_is_vertex, place_inside, place_next, part_next}
use Rattle.extension_checks.proofs.coboundaries.write_line.Goals as goal

pub value_dimension-count-requires-clause-vertices : goal.value_dimension-count-requires-clause-vertices
value_dimension-count-requires-clause-vertices c = next_is_vertex c.args.table.now.header c.args.table.now.words c.args.b.now.side c.args.first.now c.args.next.now c.requires.terms

pub copy_numbers-requires-clause-within : goal.copy_numbers-requires-clause-within
copy_numbers-requires-clause-within c =
    let s = value_small c.args.table.now.header c.args.table.now.words c.args.b.now c.requires.b c.args.next.now c.loop-i.i in
    omega (arith, s, c.value_dimension-count.ensures, c.requires.sum, c.loop-i.auto.sum, c.write_value.auto.sum)

pub copy_numbers-requires-clause-inside : goal.copy_numbers-requires-clause-inside
copy_numbers-requires-clause-inside c =
    let l : c.loop-i.i < length c.args.next.now.vertices = omega (arith, c.loop-i-test.true, c.len-i-end.ensures) in
    let p = place_inside c.args.table.now.header c.args.table.now.words c.args.b.now c.args.next.now c.loop-i.i c.loop-i.at c.value_dimension-count.result c.args.unknowns l c.loop-i.invariant.at c.value_dimension-count.ensures c.requires.unknowns in
    omega (arith, p, c.requires.line, c.loop-i.auto.line)

pub overflow_add-at : goal.overflow_add-at
overflow_add-at c =
    let l : c.loop-i.i < length c.args.next.now.vertices = omega (arith, c.loop-i-test.true, c.len-i-end.ensures) in
    let p = place_inside c.args.table.now.header c.args.table.now.words c.args.b.now c.args.next.now c.loop-i.i c.loop-i.at c.value_dimension-count.result c.args.unknowns l c.loop-i.invariant.at c.value_dimension-count.ensures c.requires.unknowns in
    omega (arith, p, c.ranges.unknowns.fits)

pub loop-i-init : goal.loop-i-init
loop-i-init c = record { at = refl; line = λ t. holds-none c.args.unknowns _ _ 1 c.args.line.now; elements = c.requires.elements }

pub loop-i-preserved : goal.loop-i-preserved
loop-i-preserved c = record {
  at = place_next c.args.table.now.header c.args.table.now.words c.args.b.now c.args.next.now c.loop-i.i c.loop-i.at c.value_dimension-count.result c.loop-i.invariant.at c.value_dimension-count.ensures;
  line = λ t.
      part_next c.args.table.now.header c.args.table.now.words c.args.b.now t c.args.first.now c.args.next.now c.loop-i.i c.args.j c.args.c c.loop-i.at c.value_dimension-count.result c.args.unknowns c.write_value.new.sum c.loop-i.line c.copy_numbers.new.into
      c.loop-i.invariant.at c.value_dimension-count.ensures (c.loop-i.invariant.line t) (c.write_value.ensures.value t) c.copy_numbers.ensures.written;
  elements = c.copy_numbers.ensures.elements c.args.table.now.header.field c.write_value.ensures.elements c.loop-i.invariant.elements;
}

pub returns-clause-line : goal.returns-clause-line
returns-clause-line c = λ t.
    let e : c.loop-i.i ≡ length c.args.next.now.vertices = omega (arith, c.loop-i-test.false, c.loop-i.auto.i-end, c.len-i-end.ensures) in
    let all : c.loop-i.at ≡ c.args.unknowns = c.loop-i.invariant.at ∙ ap (λ n. total n (value_dims c.args.table.now.header c.args.table.now.words c.args.b.now c.args.next.now)) e ∙ sym c.requires.unknowns in
    subst (λ p. HoldsRows c.args.unknowns (row_entries c.args.table.now.header c.args.table.now.words c.args.b.now t c.args.first.now c.args.next.now) (total c.args.j (value_dims c.args.table.now.header c.args.table.now.words c.args.b.now c.args.first.now) + c.args.c) 1 p c.loop-i.line) all
    (c.loop-i.invariant.line t)
