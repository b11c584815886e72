use Rattle.std.proofs.Common.{arith}
use Rattle.module_types.specs.Readings.{read}
use Rattle.module_checks.proofs.Walks.{terms-none, terms-more, term_is}
use Rattle.module_checks.proofs.relations.is_zero_in_row.Goals as goal

pub loop-k-init : goal.loop-k-init
loop-k-init c = record {
  terms = terms-none (read c.args.header.now c.args.m.now) c.args.m.now.side c.args.relation.now.terms c.args.i c.clear.new.entries c.clear.ensures.clear;
  elements = c.clear.ensures.elements c.args.header.now.field;
  next_elements = c.requires.next_elements;
}

pub loop-k-preserved : goal.loop-k-preserved
loop-k-preserved c = record {
  terms = terms-more (read c.args.header.now c.args.m.now) c.args.m.now.side c.args.relation.now.terms c.loop-k.k c.args.i c.index.result.now c.loop-k.sum c.add_term.new.sum
      (term_is c.args.relation.now.terms c.loop-k.k c.index.result.now (omega (arith, c.len-k-end.ensures)) c.index.ensures) c.loop-k.invariant.terms c.add_term.ensures.added;
  elements = c.add_term.ensures.elements;
  next_elements = c.add_term.ensures.next_elements;
}
