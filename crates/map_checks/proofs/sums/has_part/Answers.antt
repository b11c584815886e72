use Rattle.module_types.specs.Algebras.{algebra_at}
use Rattle.map_checks.proofs.BlockParts.{room_read, read_room}
use Rattle.map_checks.proofs.sums.has_part.Goals as goal

pub returns-then-not-has_room : goal.returns-then-not-has_room
returns-then-not-has_room c h = c.if-not-has_room.ensures (read_room c.args.header.now.field (algebra_at c.args.side c.args.header.now).quiver c.args.s.now c.args.part.now c.args.starts.now c.requires.s.counted h.fits)

pub returns : goal.returns
returns c = record {
  fits = room_read c.args.header.now.field (algebra_at c.args.side c.args.header.now).quiver c.args.s.now c.args.part.now c.args.starts.now c.requires.s.counted c.if-not-has_room.ensures;
  blocks = c.if-not-has_blocks.ensures;
}
