use Rattle.std.proofs.Common.{suc, subst, arith}
use Rattle.claim_conditions.specs.Conditions.{IsAnswer}
use Rattle.claim_conditions.specs.Modules.{Sides}
use Rattle.claim_conditions.specs.ResolutionConditions.{resolution_conditions}
use Rattle.path_algebra.specs.declared.Header.{Header}
use Rattle.report_types.specs.Verdicts.{sides_by}
use Rattle.claim_check.proofs.Named.{module_there}
use Rattle.claim_check.proofs.OverTable.{over_table}
use Rattle.claim_check.proofs.ResolutionClaims.{are_terms, are_small, over_header, resolution_room}
use Rattle.claim_check.proofs.terms.first_failing_resolution_claim.Goals as goal

pub first_failing_resolution-answer-requires-clause-table : goal.first_failing_resolution-answer-requires-clause-table
first_failing_resolution-answer-requires-clause-table c = c.requires.table.is

pub first_failing_resolution-answer-requires-clause-a : goal.first_failing_resolution-answer-requires-clause-a
first_failing_resolution-answer-requires-clause-a c =
    over_header c.args.report.now c.args.table.now c.requires.table c.module_at-whole.result.now
    (module_there c.args.report.now c.requires.report c.args.a c.module_at-whole.result.now c.requires.block.named c.module_at-whole.ensures)

pub first_failing_resolution-answer-requires-clause-terms : goal.first_failing_resolution-answer-requires-clause-terms
first_failing_resolution-answer-requires-clause-terms c =
    are_terms c.args.report.now c.args.table.now c.requires.table c.args.a c.args.n c.args.terms.now c.requires.block c.module_at-whole.result.now c.module_at-whole.ensures (suc c.args.n) (omega arith)

pub first_failing_resolution-answer-requires-clause-small : goal.first_failing_resolution-answer-requires-clause-small
first_failing_resolution-answer-requires-clause-small c =
    are_small c.args.report.now c.args.table.now c.requires.table c.args.a c.args.n c.args.terms.now c.requires.block c.module_at-whole.result.now c.module_at-whole.ensures
    (module_there c.args.report.now c.requires.report c.args.a c.module_at-whole.result.now c.requires.block.named c.module_at-whole.ensures) (suc c.args.n) (omega arith)

pub first_failing_resolution-answer-requires-clause-room : goal.first_failing_resolution-answer-requires-clause-room
first_failing_resolution-answer-requires-clause-room c = resolution_room c.args.a c.args.n c.args.terms.now c.args.table.now.header c.args.table.now.words c.args.bytes.now c.args.numbers.now c.requires.table.is c.requires.room

pub returns : goal.returns
returns c w =
    subst (λ m. IsAnswer (resolution_conditions c.args.report.now.header (sides_by w) m c.args.terms.now c.args.n) c.first_failing_resolution-answer.result) c.module_at-whole.ensures
    (over_table c.args.report.now.header c.args.table.now c.requires.table.header c.requires.table.is
    (λ (h : Header) (T : Sides h). IsAnswer (resolution_conditions h T c.module_at-whole.result.now c.args.terms.now c.args.n) c.first_failing_resolution-answer.result)
    c.first_failing_resolution-answer.ensures w)
