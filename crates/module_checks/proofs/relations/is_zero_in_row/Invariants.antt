use Rattle.fp_linear.specs.Slices.{AreElements}
use Rattle.module_types.specs.Readings.{read}
use Rattle.module_checks.proofs.Walks.{HoldsTerms}
use Rattle.module_checks.proofs.relations.is_zero_in_row.Given as goal

abbrev pub invariant-loop-k : goal.invariant-loop-k
invariant-loop-k l = record {
  terms : HoldsTerms (read l.header l.m) l.m.side l.relation.terms l.k l.i l.sum;
  elements : AreElements l.header.field l.sum;
  next_elements : AreElements l.header.field l.next;
}
