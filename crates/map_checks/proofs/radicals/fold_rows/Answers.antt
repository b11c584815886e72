use Rattle.std.proofs.Common.{arith}
use Rattle.map_checks.proofs.ArrowRows.{RowsMet-none, RowsMet-more}
use Rattle.map_checks.proofs.radicals.fold_rows.Goals as goal

pub loop-i-init : goal.loop-i-init
loop-i-init c = record {
  used = c.requires.used;
  elements = c.requires.elements;
  clear = c.requires.clear;
  more = RowsMet-none c.args.field c.args.unknowns c.args.rows c.args.matrix.now c.args.entries.now;
}

pub loop-i-preserved : goal.loop-i-preserved
loop-i-preserved c = record {
  used = omega (arith, c.make_room-used.ensures.result);
  elements = c.write_row.ensures.elements;
  clear = c.write_row.ensures.clear;
  more = RowsMet-more c.args.field c.args.unknowns c.args.rows c.loop-i.i c.args.matrix.now c.args.entries.now c.loop-i.entries c.make_room-used.new.entries c.write_row.new.entries c.loop-i.invariant.more c.make_room-used.ensures.same c.write_row.ensures.more;
}
