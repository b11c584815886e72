use Rattle.std.proofs.Common.{◌≡◌, ◌+◌, subst, arith}
use Rattle.linear_algebra.specs.BlockFamilies.{total}
use Rattle.extension_checks.specs.Asking.{AskRows}
use Rattle.extension_checks.specs.Following.{value_dims, row_entries}
use Rattle.extension_checks.proofs.Lines.{AskRows-more}
use Rattle.extension_checks.proofs.coboundaries.fold_generator.Goals as goal

pub write_line-requires-clause-coordinate : goal.write_line-requires-clause-coordinate
write_line-requires-clause-coordinate c = omega (arith, c.loop-c-test.true, c.requires.count)

pub fold_block-used-requires-clause-inside : goal.fold_block-used-requires-clause-inside
fold_block-used-requires-clause-inside c = omega (arith, c.requires.line, c.loop-c.auto.line, c.write_line.auto.line)

pub loop-c-init : goal.loop-c-init
loop-c-init c = record {
  taken = c.requires.taken;
  asked = λ t a.
      let base = total c.args.j (value_dims c.args.table.now.header c.args.table.now.words c.args.b.now c.args.first.now) in
      let e : base ≡ base + 0 = omega arith in
      subst (AskRows c.args.table.now.header.field c.args.unknowns 1025 c.args.entries.now (row_entries c.args.table.now.header c.args.table.now.words c.args.b.now t c.args.first.now c.args.next.now)) e a;
  elements = c.requires.elements;
}

pub loop-c-preserved : goal.loop-c-preserved
loop-c-preserved c = record {
  taken = c.fold_block-used.ensures.taken;
  asked = λ t a.
      let f = row_entries c.args.table.now.header c.args.table.now.words c.args.b.now t c.args.first.now c.args.next.now in
      let base = total c.args.j (value_dims c.args.table.now.header c.args.table.now.words c.args.b.now c.args.first.now) in
      let e : base + c.loop-c.c + 1 ≡ base + (c.loop-c.c + 1) = omega arith in
      subst (AskRows c.args.table.now.header.field c.args.unknowns 1025 c.fold_block-used.new.entries f) e
      (AskRows-more c.args.table.now.header.field c.args.unknowns 1025 f (base + c.loop-c.c) 1 c.write_line.new.line c.loop-c.entries c.fold_block-used.new.entries (c.loop-c.invariant.asked t a) c.fold_block-used.ensures.more (c.write_line.ensures.line t));
  elements = c.write_line.ensures.elements;
}

pub returns-clause-asked : goal.returns-clause-asked
returns-clause-asked c = λ t a.
    let f = row_entries c.args.table.now.header c.args.table.now.words c.args.b.now t c.args.first.now c.args.next.now in
    let base = total c.args.j (value_dims c.args.table.now.header c.args.table.now.words c.args.b.now c.args.first.now) in
    let e : base + c.loop-c.c ≡ base + c.args.count = omega (arith, c.loop-c-test.false, c.loop-c.auto.c-end) in
    subst (AskRows c.args.table.now.header.field c.args.unknowns 1025 c.loop-c.entries f) e (c.loop-c.invariant.asked t a)
