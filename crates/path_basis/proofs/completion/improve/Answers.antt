use Rattle.std.proofs.Common.{arith}
use Rattle.path_basis.proofs.Kept.{ordered_steps, numbered_rules}
use Rattle.path_basis.proofs.completion.improve.Goals as goal

pub drop_steps_if_many-requires-clause-ordered : goal.drop_steps_if_many-requires-clause-ordered
drop_steps_if_many-requires-clause-ordered c = ordered_steps c.args.header.now _ c.requires.completion.lawful.are

pub drop_steps_if_many-requires-clause-numbered : goal.drop_steps_if_many-requires-clause-numbered
drop_steps_if_many-requires-clause-numbered c = numbered_rules c.args.header.now _ _ c.requires.completion.derived

pub drop_steps_if_many-requires-clause-few : goal.drop_steps_if_many-requires-clause-few
drop_steps_if_many-requires-clause-few c = (let r = c.requires.completion.room in omega (arith, r))
