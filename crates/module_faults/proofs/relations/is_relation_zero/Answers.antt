use Rattle.std.proofs.Common.{arith}
use Rattle.module_faults.proofs.RelationActs.{lent_allowed, lent_shape, lent_count, zero_of_lent, lent_of_zero, relation_is, zero_by_length, some_short}
use Rattle.module_faults.proofs.relations.is_relation_zero.Goals as goal

pub returns-then-not-has_short_term-clause-zero : goal.returns-then-not-has_short_term-clause-zero
returns-then-not-has_short_term-clause-zero c =
    let h = c.args.header.now in
    zero_by_length h c.args.m.now c.args.r c.index.result.now (relation_is h c.args.r c.index.result.now c.requires.relation c.index.ensures) c.if-not-has_short_term.ensures

pub acts_as_zero-requires-clause-allowed : goal.acts_as_zero-requires-clause-allowed
acts_as_zero-requires-clause-allowed c = lent_allowed c.args.header.now c.args.short.now c.requires.allowed c.requires.short

pub acts_as_zero-requires-clause-m : goal.acts_as_zero-requires-clause-m
acts_as_zero-requires-clause-m c = lent_shape c.args.header.now c.args.short.now c.requires.allowed c.requires.short c.args.m.now c.requires.m

pub acts_as_zero-requires-clause-relation : goal.acts_as_zero-requires-clause-relation
acts_as_zero-requires-clause-relation c = let e = lent_count c.args.header.now c.args.short.now c.requires.allowed c.requires.short in omega (arith, e, c.requires.relation)

pub returns-then-not-acts_as_zero-clause-zero : goal.returns-then-not-acts_as_zero-clause-zero
returns-then-not-acts_as_zero-clause-zero c z =
    let h = c.args.header.now in
    let some = some_short h c.args.r c.index.result.now (relation_is h c.args.r c.index.result.now c.requires.relation c.index.ensures) c.if-not-has_short_term.ensures in
    c.if-not-acts_as_zero.ensures.zero (lent_of_zero h c.args.short.now c.requires.allowed c.requires.short c.args.m.now c.args.r c.requires.relation some z)

pub returns-clause-zero : goal.returns-clause-zero
returns-clause-zero c =
    let h = c.args.header.now in
    let some = some_short h c.args.r c.index.result.now (relation_is h c.args.r c.index.result.now c.requires.relation c.index.ensures) c.if-not-has_short_term.ensures in
    zero_of_lent h c.args.short.now c.requires.allowed c.requires.short c.args.m.now c.args.r c.requires.relation some c.if-not-acts_as_zero.ensures.zero
