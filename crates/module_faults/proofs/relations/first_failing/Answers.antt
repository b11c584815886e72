use Rattle.std.proofs.Common.{inl, inr, sym, subst, arith}
use Rattle.std.proofs.lemmas.Bool.{cases_eq}
use Rattle.module_faults.specs.RelationActions.{IsRelationZero}
use Rattle.module_faults.proofs.FirstRelations.{first_at}
use Rattle.module_faults.proofs.relations.first_failing.Goals as goal

pub loop-r-preserved : goal.loop-r-preserved
loop-r-preserved c = record {
  zero = record {
    each = λ s l. elim (cases_eq s c.loop-r.r) [
      | inl e ↦ subst (IsRelationZero c.args.header.now c.args.m.now) (sym e) c.if-not-is_relation_zero.ensures.zero
      | inr d ↦ c.loop-r.invariant.zero.each s (omega arith)
    ];
  };
  next_elements = c.is_relation_zero.ensures.next_elements;
}

pub returns-then-not-is_relation_zero : goal.returns-then-not-is_relation_zero
returns-then-not-is_relation_zero c = first_at c.args.header.now c.args.m.now c.loop-r.r (omega (arith, c.loop-r-test.true, c.len-r-end.ensures)) c.loop-r.invariant.zero c.if-not-is_relation_zero.ensures.zero
