use Rattle.std.proofs.Common.{sym, ap, ◌∙◌, arith}
use Rattle.std.specs.Prelude.{⊤}
use Rattle.path_algebra.specs.declared.Header.{Header}
use Rattle.claim_conditions.specs.Conditions.{IsAnswer}
use Rattle.claim_conditions.specs.Modules.{Sides}
use Rattle.claim_conditions.specs.TranslateConditions.{transpose_conditions}
use Rattle.report_types.specs.Numbers.{module_of, claim_of}
use Rattle.report_types.specs.Verdicts.{sides_by}
use Rattle.claim_check.proofs.Named.{module_there}
use Rattle.claim_check.proofs.OverTable.{over_table}
use Rattle.claim_check.proofs.ResolutionClaims.{are_terms, over_header, resolution_named}
use Rattle.claim_check.proofs.TranslateClaims.{transpose_answer, projection_shape, small_across, length_is}
use Rattle.claim_check.proofs.terms.first_failing_transpose_claim.Goals as goal

pub first_failing_transpose-answer-requires-clause-table : goal.first_failing_transpose-answer-requires-clause-table
first_failing_transpose-answer-requires-clause-table c = c.requires.table.is

pub first_failing_transpose-answer-requires-clause-n : goal.first_failing_transpose-answer-requires-clause-n
first_failing_transpose-answer-requires-clause-n c = over_header c.args.report.now c.args.table.now c.requires.table c.module_at-transpose.result.now (module_there c.args.report.now c.requires.report c.args.n c.module_at-transpose.result.now c.requires.block.is_module c.module_at-transpose.ensures)

pub first_failing_transpose-answer-requires-clause-terms : goal.first_failing_transpose-answer-requires-clause-terms
first_failing_transpose-answer-requires-clause-terms c =
    let e = length_is (claim_of c.args.report.now.records c.args.c) c.resolution_at-of.result.0 c.resolution_at-of.result.1 1 c.resolution_at-of.result.2.now c.resolution_at-of.ensures c.requires.block.presentation.resolution.length in
    are_terms c.args.report.now c.args.table.now c.requires.table c.resolution_at-of.result.0 c.resolution_at-of.result.1 c.resolution_at-of.result.2.now
    (resolution_named c.args.report.now c.requires.report c.args.c c.resolution_at-of.result.0 c.resolution_at-of.result.1 c.resolution_at-of.result.2.now c.requires.block.presentation.resolution.named c.resolution_at-of.ensures)
    c.module_at-whole.result.now (c.module_at-whole.ensures ∙ ap (module_of c.args.report.now.records) (sym c.if-of-a.false)) 2 (omega (arith, e))

pub first_failing_transpose-answer-requires-clause-small : goal.first_failing_transpose-answer-requires-clause-small
first_failing_transpose-answer-requires-clause-small c =
    small_across c.args.report.now c.args.table.now c.requires.table c.args.c c.resolution_at-of.result.0 c.resolution_at-of.result.1 c.resolution_at-of.result.2.now c.resolution_at-of.ensures c.module_at-whole.result.now (c.module_at-whole.ensures ∙ ap (module_of c.args.report.now.records) (sym c.if-of-a.false))
    (resolution_named c.args.report.now c.requires.report c.args.c c.resolution_at-of.result.0 c.resolution_at-of.result.1 c.resolution_at-of.result.2.now c.requires.block.presentation.resolution.named c.resolution_at-of.ensures)
    (length_is (claim_of c.args.report.now.records c.args.c) c.resolution_at-of.result.0 c.resolution_at-of.result.1 1 c.resolution_at-of.result.2.now c.resolution_at-of.ensures c.requires.block.presentation.resolution.length)
    c.requires.block.presentation

pub first_failing_transpose-answer-requires-clause-rows : goal.first_failing_transpose-answer-requires-clause-rows
first_failing_transpose-answer-requires-clause-rows c =
    projection_shape c.args.report.now c.args.table.now c.requires.table c.args.c c.resolution_at-of.result.0 c.resolution_at-of.result.1 c.resolution_at-of.result.2.now c.resolution_at-of.ensures c.module_at-whole.result.now (c.module_at-whole.ensures ∙ ap (module_of c.args.report.now.records) (sym c.if-of-a.false))
    c.args.n c.args.rows.now c.module_at-transpose.result.now c.module_at-transpose.ensures c.requires.block.shape

pub returns : goal.returns
returns c w =
    transpose_answer c.args.report.now.header (sides_by w) c.args.report.now.records c.args.c c.resolution_at-of.result.0 c.resolution_at-of.result.1 c.resolution_at-of.result.2.now c.resolution_at-of.ensures
    c.first_failing_transpose-answer.result c.args.n c.args.a c.args.rows.now c.module_at-transpose.result.now c.module_at-whole.result.now c.module_at-transpose.ensures c.module_at-whole.ensures c.if-of-a.false
    (over_table c.args.report.now.header c.args.table.now c.requires.table.header c.requires.table.is
    (λ (h : Header) (T : Sides h). IsAnswer (transpose_conditions ⊤ h T c.module_at-transpose.result.now c.module_at-whole.result.now c.resolution_at-of.result.2.now c.args.rows.now) c.first_failing_transpose-answer.result)
    c.first_failing_transpose-answer.ensures w)
