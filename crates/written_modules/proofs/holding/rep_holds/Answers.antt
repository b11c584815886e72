use Rattle.module_faults.proofs.SmallModules.{where_none, module_over}
use Rattle.written_modules.proofs.Relations.{where_some, own_shape, rep_fails_relation, rep_fails_bound, rep_passes}
use Rattle.written_modules.proofs.holding.rep_holds.Goals as goal

pub first_failing_relation-requires-clause-m : goal.first_failing_relation-requires-clause-m
first_failing_relation-requires-clause-m c = own_shape c.args.header.now c.args.m.now c.requires.side c.requires.m

pub first_long_path-requires-clause-m : goal.first_long_path-requires-clause-m
first_long_path-requires-clause-m c = own_shape c.args.header.now c.args.m.now c.requires.side c.requires.m

pub returns-in-Some-clause-tested : goal.returns-in-Some-clause-tested
returns-in-Some-clause-tested c =
    rep_fails_relation c.args.header.now c.requires.allowed c.args.m.now c.requires.side c.in-Some.relation
    (where_some _ _ c.in_ok-relation.field-0 c.in-Some.relation c.in-Some.is c.in_ok-relation.ensures)

pub returns-in-Some-2-clause-tested : goal.returns-in-Some-2-clause-tested
returns-in-Some-2-clause-tested c =
    rep_fails_bound c.args.header.now c.requires.allowed c.args.m.now c.requires.side c.in-Some-2.path
    (where_none _ _ c.in_ok-relation.field-0 c.in_default.is c.in_ok-relation.ensures) (where_some _ _ c.in_ok-path.field-0 c.in-Some-2.path c.in-Some-2.is c.in_ok-path.ensures)

pub returns-clause-tested : goal.returns-clause-tested
returns-clause-tested c =
    rep_passes c.args.header.now c.requires.allowed c.args.m.now c.requires.side
    (where_none _ _ c.in_ok-relation.field-0 c.in_default.is c.in_ok-relation.ensures) (where_none _ _ c.in_ok-path.field-0 c.in_default-2.is c.in_ok-path.ensures)

pub returns-clause-small : goal.returns-clause-small
returns-clause-small c = record {
  shape = own_shape c.args.header.now c.args.m.now c.requires.side c.requires.m;
  over = module_over c.args.header.now c.requires.allowed c.args.m.now (where_none _ _ c.in_ok-relation.field-0 c.in_default.is c.in_ok-relation.ensures) (where_none _ _ c.in_ok-path.field-0 c.in_default-2.is c.in_ok-path.ensures);
}
