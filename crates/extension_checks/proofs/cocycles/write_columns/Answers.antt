use Rattle.std.proofs.Common.{◌≡◌, ◌+◌, subst, arith}
use Rattle.linear_algebra.specs.BlockFamilies.{total}
use Rattle.extension_checks.specs.Asking.{HoldsRows}
use Rattle.extension_checks.specs.Following.{value_dims, column_entries}
use Rattle.extension_checks.proofs.FollowValues.{value_small}
use Rattle.extension_checks.proofs.FollowBlocks.{place_inside, column_next}
use Rattle.extension_checks.proofs.cocycles.write_columns.Goals as goal

pub write_value-requires-clause-coordinate : goal.write_value-requires-clause-coordinate
write_value-requires-clause-coordinate c = omega (arith, c.loop-c-test.true, c.requires.count)

pub overflow_add-at : goal.overflow_add-at
overflow_add-at c =
    let p = place_inside c.args.table.now.header c.args.table.now.words c.args.b.now c.args.first.now c.args.j c.args.at c.args.count c.args.unknowns c.requires.generator c.requires.at c.requires.count c.requires.unknowns in
    omega (arith, p, c.loop-c-test.true, c.ranges.unknowns.fits)

pub put_column-requires-clause-within : goal.put_column-requires-clause-within
put_column-requires-clause-within c =
    let s = value_small c.args.table.now.header c.args.table.now.words c.args.b.now c.requires.b c.args.next.now c.args.i in
    omega (arith, s, c.requires.height, c.requires.sum, c.loop-c.auto.sum, c.write_value.auto.sum)

pub put_column-requires-clause-place : goal.put_column-requires-clause-place
put_column-requires-clause-place c =
    let p = place_inside c.args.table.now.header c.args.table.now.words c.args.b.now c.args.first.now c.args.j c.args.at c.args.count c.args.unknowns c.requires.generator c.requires.at c.requires.count c.requires.unknowns in
    omega (arith, p, c.loop-c-test.true)

pub loop-c-init : goal.loop-c-init
loop-c-init c = record {
  columns = λ t f.
      let e : c.args.at ≡ c.args.at + 0 = omega arith in
      subst (λ p. HoldsRows c.args.unknowns (column_entries c.args.table.now.header c.args.table.now.words c.args.b.now t c.args.first.now c.args.next.now) (total c.args.i (value_dims c.args.table.now.header c.args.table.now.words c.args.b.now c.args.next.now)) c.args.height p c.args.block.now) e f;
  elements = c.requires.elements;
}

pub loop-c-preserved : goal.loop-c-preserved
loop-c-preserved c = record {
  columns = λ t f.
      column_next c.args.table.now.header c.args.table.now.words c.args.b.now t c.args.first.now c.args.next.now c.args.i c.args.j c.loop-c.c c.args.at c.args.height c.args.unknowns c.write_value.new.sum c.loop-c.block c.put_column.new.block
      c.requires.at c.requires.height (c.loop-c.invariant.columns t f) (c.write_value.ensures.value t) c.put_column.ensures.written;
  elements = c.put_column.ensures.elements c.args.table.now.header.field c.write_value.ensures.elements c.loop-c.invariant.elements;
}

pub returns-clause-columns : goal.returns-clause-columns
returns-clause-columns c = λ t f.
    let e : c.args.at + c.loop-c.c ≡ c.args.at + c.args.count = omega (arith, c.loop-c-test.false, c.loop-c.auto.c-end) in
    subst (λ p. HoldsRows c.args.unknowns (column_entries c.args.table.now.header c.args.table.now.words c.args.b.now t c.args.first.now c.args.next.now) (total c.args.i (value_dims c.args.table.now.header c.args.table.now.words c.args.b.now c.args.next.now)) c.args.height p c.loop-c.block) e
    (c.loop-c.invariant.columns t f)
