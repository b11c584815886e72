use Rattle.std.proofs.Common.{inl, inr, sym, ◌∙◌, arith}
use Rattle.std.proofs.lemmas.Bool.{cases_lt}
use Rattle.module_checks.proofs.Walks.{row-past}
use Rattle.term_rows.proofs.modules.row_times.Goals as goal

pub returns-clause-times : goal.returns-clause-times
returns-clause-times c = record {
  at = λ j. elim (cases_lt j c.loop-j.j) [
    | inl l ↦ c.loop-j.invariant.done j l
    | inr l ↦ c.loop-j.invariant.rest j l ∙ sym (row-past c.args.field c.args.matrix.now.row_count c.args.row.now c.args.matrix.now j c.cols-j-end.ensures.matrix.grid (omega (arith, c.cols-j-end.ensures.count)))
  ];
}
