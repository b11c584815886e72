use Rattle.module_types.specs.declared.Side.TheVariants.{Right}
use Rattle.module_faults.proofs.DualSides.{at_own_side, dual_right, dual_right_shape, back_again, searched_left}
use Rattle.module_faults.proofs.long_paths.first_long_path.Goals as goal

pub returns-in-Right : goal.returns-in-Right
returns-in-Right c = at_own_side c.args.header.now c.args.m.now Right c.in_ok-found-in-Right.found c.in-Right.is c.in_ok-found-in-Right.ensures

pub first_path_with-requires-in-Left-clause-side : goal.first_path_with-requires-in-Left-clause-side
first_path_with-requires-in-Left-clause-side c = dual_right c.args.header.now c.args.m.now c.in_ok-dual.dual c.in-Left.is c.requires.m c.in_ok-dual.ensures

pub first_path_with-requires-in-Left-clause-m : goal.first_path_with-requires-in-Left-clause-m
first_path_with-requires-in-Left-clause-m c = dual_right_shape c.args.header.now c.args.m.now c.in_ok-dual.dual c.in-Left.is c.requires.m c.in_ok-dual.ensures

pub first_path_with-requires-in-Left-clause-dual : goal.first_path_with-requires-in-Left-clause-dual
first_path_with-requires-in-Left-clause-dual c = back_again c.args.header.now c.args.m.now c.in_ok-dual.dual c.in-Left.is c.requires.m c.in_ok-dual.ensures

pub returns : goal.returns
returns c = searched_left c.args.header.now c.args.m.now c.in_ok-dual.dual c.in-Left.is c.requires.m c.in_ok-dual.ensures c.in_ok-found-in-Left.found c.in_ok-found-in-Left.ensures
