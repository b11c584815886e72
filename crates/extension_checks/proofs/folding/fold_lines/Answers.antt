use Rattle.std.proofs.Common.{◌*◌, arith}
use Rattle.extension_checks.proofs.Lines.{line_written, line_clear, MeetsLines-none, MeetsLines-more}
use Rattle.extension_checks.proofs.folding.fold_lines.Goals as goal

pub loop-z-init : goal.loop-z-init
loop-z-init c = record { taken = c.requires.taken; more = MeetsLines-none c.args.field c.args.unknowns c.args.rows c.args.block.now c.args.entries.now }

pub loop-z-preserved : goal.loop-z-preserved
loop-z-preserved c =
    let q = c.args.field in
    let n = c.args.unknowns in
    let m = c.args.rows in
    let u = c.make_room-used.result in
    record {
      taken = record {
        within = omega (arith, c.make_room-used.ensures.result);
        elements = c.copy_numbers.ensures.elements q c.requires.elements c.make_room-used.ensures.elements;
        clear = line_clear q n m u (c.loop-z.z * n) c.args.block.now c.make_room-used.new.entries c.copy_numbers.new.into c.copy_numbers.ensures.written c.make_room-used.ensures.clear c.make_room-used.ensures.result;
      };
      more = MeetsLines-more q n m c.loop-z.z c.args.block.now c.args.entries.now c.loop-z.entries c.make_room-used.new.entries c.copy_numbers.new.into c.loop-z.invariant.more c.make_room-used.ensures.same
          (line_written q n m u (c.loop-z.z * n) c.args.block.now c.make_room-used.new.entries c.copy_numbers.new.into c.copy_numbers.ensures.written c.make_room-used.ensures.clear c.make_room-used.ensures.result);
    }
