use Rattle.std.proofs.Common.{◌∙◌, sym}
use Rattle.module_types.specs.Shapes.{dimension}
use Rattle.module_faults.proofs.DualSides.{dual_shape, dual_dimension, level_of_dual, room_for}
use Rattle.module_faults.proofs.long_paths.first_path_with.Goals as goal

pub levels-requires-clause-m : goal.levels-requires-clause-m
levels-requires-clause-m c = dual_shape c.args.header.now c.args.m.now c.args.dual.now c.requires.side c.requires.m c.requires.dual

pub levels-requires-clause-room : goal.levels-requires-clause-room
levels-requires-clause-room c =
    room_for (dimension c.args.dual.now.dims) c.dimension-unknowns.result c.deref_mut-2.result.now c.deref_mut-3.result.now
    (dual_dimension c.args.header.now c.args.m.now c.args.dual.now c.requires.side c.requires.m c.requires.dual ∙ sym c.dimension-unknowns.ensures)
    (c.deref_mut-2.ensures.len ∙ c.in_ok-entries.ensures.len) (c.deref_mut-3.ensures.len ∙ c.in_ok-pivots.ensures.len)

pub first_path-requires-clause-levels : goal.first_path-requires-clause-levels
first_path-requires-clause-levels c = λ j d l. level_of_dual c.args.header.now c.args.m.now c.args.dual.now c.requires.side c.requires.m c.requires.dual j _ (c.in_ok-levels.ensures.each j d l)
