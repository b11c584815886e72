use Rattle.std.proofs.Common.{suc, sym, ap, ◌∙◌, arith}
use Rattle.std.specs.Prelude.{⊤}
use Rattle.path_algebra.specs.declared.Header.{Header}
use Rattle.claim_conditions.specs.Conditions.{IsAnswer}
use Rattle.claim_conditions.specs.Modules.{Sides}
use Rattle.claim_conditions.specs.ExtensionConditions.{extension_conditions}
use Rattle.report_types.specs.Numbers.{module_of, claim_of}
use Rattle.report_types.specs.Verdicts.{sides_by}
use Rattle.claim_check.proofs.Named.{module_there}
use Rattle.claim_check.proofs.OverTable.{over_table}
use Rattle.claim_check.proofs.ResolutionClaims.{are_small, are_terms, over_header, resolution_named}
use Rattle.claim_check.proofs.TranslateClaims.{extension_answer, coordinates_are, length_is}
use Rattle.claim_check.proofs.terms.first_failing_extension_claim.Goals as goal

pub first_failing_extension-answer-requires-clause-table : goal.first_failing_extension-answer-requires-clause-table
first_failing_extension-answer-requires-clause-table c = c.requires.table.is

pub first_failing_extension-answer-requires-clause-b : goal.first_failing_extension-answer-requires-clause-b
first_failing_extension-answer-requires-clause-b c =
    over_header c.args.report.now c.args.table.now c.requires.table c.module_at-target.result.now (module_there c.args.report.now c.requires.report c.args.b c.module_at-target.result.now c.requires.block.second c.module_at-target.ensures)

pub first_failing_extension-answer-requires-clause-terms : goal.first_failing_extension-answer-requires-clause-terms
first_failing_extension-answer-requires-clause-terms c =
    let e = length_is (claim_of c.args.report.now.records c.args.c) c.resolution_at-of.result.0 c.resolution_at-of.result.1 (suc c.args.n) c.resolution_at-of.result.2.now c.resolution_at-of.ensures c.requires.block.resolution.length in
    are_terms c.args.report.now c.args.table.now c.requires.table c.resolution_at-of.result.0 c.resolution_at-of.result.1 c.resolution_at-of.result.2.now
    (resolution_named c.args.report.now c.requires.report c.args.c c.resolution_at-of.result.0 c.resolution_at-of.result.1 c.resolution_at-of.result.2.now c.requires.block.resolution.named c.resolution_at-of.ensures)
    c.module_at-source.result.now (c.module_at-source.ensures ∙ ap (module_of c.args.report.now.records) (sym c.if-of-a.false)) (suc (suc c.args.n)) (omega (arith, e))

pub first_failing_extension-answer-requires-clause-small : goal.first_failing_extension-answer-requires-clause-small
first_failing_extension-answer-requires-clause-small c =
    let e = length_is (claim_of c.args.report.now.records c.args.c) c.resolution_at-of.result.0 c.resolution_at-of.result.1 (suc c.args.n) c.resolution_at-of.result.2.now c.resolution_at-of.ensures c.requires.block.resolution.length in
    are_small c.args.report.now c.args.table.now c.requires.table c.resolution_at-of.result.0 c.resolution_at-of.result.1 c.resolution_at-of.result.2.now
    (resolution_named c.args.report.now c.requires.report c.args.c c.resolution_at-of.result.0 c.resolution_at-of.result.1 c.resolution_at-of.result.2.now c.requires.block.resolution.named c.resolution_at-of.ensures)
    c.module_at-source.result.now (c.module_at-source.ensures ∙ ap (module_of c.args.report.now.records) (sym c.if-of-a.false))
    (module_there c.args.report.now c.requires.report c.args.a c.module_at-source.result.now c.requires.block.first c.module_at-source.ensures) (suc c.args.n) (omega (arith, e))

pub first_failing_extension-answer-requires-clause-coordinates : goal.first_failing_extension-answer-requires-clause-coordinates
first_failing_extension-answer-requires-clause-coordinates c =
    coordinates_are c.args.report.now c.args.table.now c.requires.table c.args.c c.resolution_at-of.result.0 c.resolution_at-of.result.1 c.args.n c.args.b c.resolution_at-of.result.2.now c.args.rows.now.col_count c.module_at-source.result.now c.module_at-target.result.now
    c.resolution_at-of.ensures c.module_at-target.ensures c.requires.block.are_rows.shape.col_count

pub returns : goal.returns
returns c w =
    extension_answer c.args.report.now.header (sides_by w) c.args.report.now.records c.args.c c.resolution_at-of.result.0 c.resolution_at-of.result.1 c.resolution_at-of.result.2.now c.resolution_at-of.ensures
    c.first_failing_extension-answer.result c.args.n c.args.a c.args.b c.args.rows.now c.module_at-source.result.now c.module_at-target.result.now c.module_at-source.ensures c.module_at-target.ensures c.if-of-a.false
    (over_table c.args.report.now.header c.args.table.now c.requires.table.header c.requires.table.is
    (λ (h : Header) (T : Sides h). IsAnswer (extension_conditions ⊤ h T c.module_at-source.result.now c.module_at-target.result.now c.resolution_at-of.result.2.now c.args.n c.args.rows.now) c.first_failing_extension-answer.result)
    c.first_failing_extension-answer.ensures w)
