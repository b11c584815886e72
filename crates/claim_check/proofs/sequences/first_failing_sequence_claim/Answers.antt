use Rattle.std.proofs.Common.{sym, ap, ◌∙◌, arith}
use Rattle.std.specs.Prelude.{⊤}
use Rattle.path_algebra.specs.declared.Header.{Header}
use Rattle.claim_conditions.specs.Conditions.{IsAnswer}
use Rattle.claim_conditions.specs.Modules.{Sides}
use Rattle.claim_conditions.specs.SequenceConditions.{sequence_conditions}
use Rattle.report_types.specs.Numbers.{module_of, claim_of}
use Rattle.report_types.specs.Verdicts.{sides_by}
use Rattle.claim_check.proofs.Named.{module_there, map_there}
use Rattle.claim_check.proofs.ByNumbers.{map_block, source_is, target_is}
use Rattle.claim_check.proofs.OverTable.{over_table}
use Rattle.claim_check.proofs.LocalClaims.{hom_named, few_rows, few_unknowns, rows_of_families, ideal_columns}
use Rattle.claim_check.proofs.ResolutionClaims.{are_terms, over_header, resolution_named}
use Rattle.claim_check.proofs.TranslateClaims.{embedding_shape, small_across, length_is}
use Rattle.claim_check.proofs.SequenceClaims.{local_named, terms_of_end, homs_of_end, sequence_answer, map_over, field_over, families_over, functional_over, sequence_bytes, middle_over, few_generators}
use Rattle.claim_check.proofs.sequences.first_failing_sequence_claim.Goals as goal

pub first_failing_sequence-answer-requires-clause-table : goal.first_failing_sequence-answer-requires-clause-table
first_failing_sequence-answer-requires-clause-table c =
    c.requires.table.is

pub first_failing_sequence-answer-requires-clause-n : goal.first_failing_sequence-answer-requires-clause-n
first_failing_sequence-answer-requires-clause-n c =
    over_header c.args.report.now c.args.table.now c.requires.table c.module_at-begins.result.now (module_there c.args.report.now c.requires.report c.args.n c.module_at-begins.result.now c.requires.block.first.is_module c.module_at-begins.ensures)

pub first_failing_sequence-answer-requires-clause-e : goal.first_failing_sequence-answer-requires-clause-e
first_failing_sequence-answer-requires-clause-e c =
    over_header c.args.report.now c.args.table.now c.requires.table c.module_at-between.result.now (module_there c.args.report.now c.requires.report c.args.e c.module_at-between.result.now c.requires.block.second.is_module c.module_at-between.ensures)

pub first_failing_sequence-answer-requires-clause-a : goal.first_failing_sequence-answer-requires-clause-a
first_failing_sequence-answer-requires-clause-a c =
    over_header c.args.report.now c.args.table.now c.requires.table c.module_at-ends.result.now (module_there c.args.report.now c.requires.report c.args.a c.module_at-ends.result.now c.requires.block.ends c.module_at-ends.ensures)

pub first_failing_sequence-answer-requires-clause-f : goal.first_failing_sequence-answer-requires-clause-f
first_failing_sequence-answer-requires-clause-f c =
    map_over c.args.report.now c.args.table.now c.requires.table c.module_at-begins.result.now c.module_at-between.result.now c.map_at-first.result.now.matrices
    (map_there c.args.report.now.header c.args.report.now.records c.map_at-first.result.now c.module_at-begins.result.now c.module_at-between.result.now
    (map_block c.args.report.now c.requires.report c.args.f c.requires.block.first.is_map c.map_at-first.result.now c.map_at-first.ensures)
    (source_is c.args.report.now.records c.args.f c.args.n c.args.e c.map_at-first.result.now c.map_at-first.ensures c.if-not-names_sequence.ensures.first c.module_at-begins.result.now c.module_at-begins.ensures)
    (target_is c.args.report.now.records c.args.f c.args.n c.args.e c.map_at-first.result.now c.map_at-first.ensures c.if-not-names_sequence.ensures.first c.module_at-between.result.now c.module_at-between.ensures))

pub first_failing_sequence-answer-requires-clause-g : goal.first_failing_sequence-answer-requires-clause-g
first_failing_sequence-answer-requires-clause-g c =
    map_over c.args.report.now c.args.table.now c.requires.table c.module_at-between.result.now c.module_at-ends.result.now c.map_at-second.result.now.matrices
    (map_there c.args.report.now.header c.args.report.now.records c.map_at-second.result.now c.module_at-between.result.now c.module_at-ends.result.now
    (map_block c.args.report.now c.requires.report c.args.g c.requires.block.second.is_map c.map_at-second.result.now c.map_at-second.ensures)
    (source_is c.args.report.now.records c.args.g c.args.e c.args.a c.map_at-second.result.now c.map_at-second.ensures c.if-not-names_sequence.ensures.second c.module_at-between.result.now c.module_at-between.ensures)
    (target_is c.args.report.now.records c.args.g c.args.e c.args.a c.map_at-second.result.now c.map_at-second.ensures c.if-not-names_sequence.ensures.second c.module_at-ends.result.now c.module_at-ends.ensures))

pub first_failing_sequence-answer-requires-clause-terms : goal.first_failing_sequence-answer-requires-clause-terms
first_failing_sequence-answer-requires-clause-terms c =
    let e = length_is (claim_of c.args.report.now.records c.args.c) c.resolution_at-of.result.0 c.resolution_at-of.result.1 1 c.resolution_at-of.result.2.now c.resolution_at-of.ensures c.requires.block.presentation.resolution.length in
    are_terms c.args.report.now c.args.table.now c.requires.table c.resolution_at-of.result.0 c.resolution_at-of.result.1 c.resolution_at-of.result.2.now
    (resolution_named c.args.report.now c.requires.report c.args.c c.resolution_at-of.result.0 c.resolution_at-of.result.1 c.resolution_at-of.result.2.now c.requires.block.presentation.resolution.named c.resolution_at-of.ensures)
    c.module_at-ends.result.now (c.module_at-ends.ensures ∙ ap (module_of c.args.report.now.records) (sym (terms_of_end c.args.report.now.records c.args.n c.args.e c.args.a c.args.f c.args.g c.args.c c.args.l c.resolution_at-of.result.0 c.resolution_at-of.result.1 c.resolution_at-of.result.2.now c.resolution_at-of.ensures c.if-not-names_sequence.ensures))) 2 (omega (arith, e))

pub first_failing_sequence-answer-requires-clause-small : goal.first_failing_sequence-answer-requires-clause-small
first_failing_sequence-answer-requires-clause-small c =
    small_across c.args.report.now c.args.table.now c.requires.table c.args.c c.resolution_at-of.result.0 c.resolution_at-of.result.1 c.resolution_at-of.result.2.now c.resolution_at-of.ensures c.module_at-ends.result.now
    (c.module_at-ends.ensures ∙ ap (module_of c.args.report.now.records) (sym (terms_of_end c.args.report.now.records c.args.n c.args.e c.args.a c.args.f c.args.g c.args.c c.args.l c.resolution_at-of.result.0 c.resolution_at-of.result.1 c.resolution_at-of.result.2.now c.resolution_at-of.ensures c.if-not-names_sequence.ensures)))
    (resolution_named c.args.report.now c.requires.report c.args.c c.resolution_at-of.result.0 c.resolution_at-of.result.1 c.resolution_at-of.result.2.now c.requires.block.presentation.resolution.named c.resolution_at-of.ensures)
    (length_is (claim_of c.args.report.now.records c.args.c) c.resolution_at-of.result.0 c.resolution_at-of.result.1 1 c.resolution_at-of.result.2.now c.resolution_at-of.ensures c.requires.block.presentation.resolution.length)
    c.requires.block.presentation

pub first_failing_sequence-answer-requires-clause-few : goal.first_failing_sequence-answer-requires-clause-few
first_failing_sequence-answer-requires-clause-few c =
    few_generators c.args.report.now c.resolution_at-of.result.0 c.resolution_at-of.result.1 c.resolution_at-of.result.2.now
    (resolution_named c.args.report.now c.requires.report c.args.c c.resolution_at-of.result.0 c.resolution_at-of.result.1 c.resolution_at-of.result.2.now c.requires.block.presentation.resolution.named c.resolution_at-of.ensures)

pub first_failing_sequence-answer-requires-clause-basis_field : goal.first_failing_sequence-answer-requires-clause-basis_field
first_failing_sequence-answer-requires-clause-basis_field c =
    field_over c.args.report.now c.args.table.now c.requires.table c.hom_at-x.result.2.now
    (hom_named c.args.report.now c.requires.report c.args.a c.local_at-module.result.1 c.hom_at-x.result.0 c.hom_at-x.result.1 c.hom_at-x.result.2.now c.local_at-module.result.2.now c.local_at-module.ensures.0 (local_named c.args.report.now c.requires.report c.args.l c.local_at-module.result.0 c.local_at-module.result.1 c.local_at-module.result.2.now c.local_at-module.ensures.0 c.local_at-module.ensures.1 c.requires.block.named c.local_at-module.ensures.2).named c.hom_at-x.ensures).are_rows.shape.field

pub first_failing_sequence-answer-requires-clause-ideal_field : goal.first_failing_sequence-answer-requires-clause-ideal_field
first_failing_sequence-answer-requires-clause-ideal_field c =
    field_over c.args.report.now c.args.table.now c.requires.table c.local_at-module.result.2.now (local_named c.args.report.now c.requires.report c.args.l c.local_at-module.result.0 c.local_at-module.result.1 c.local_at-module.result.2.now c.local_at-module.ensures.0 c.local_at-module.ensures.1 c.requires.block.named c.local_at-module.ensures.2).are_rows.shape.field

pub first_failing_sequence-answer-requires-clause-unknowns : goal.first_failing_sequence-answer-requires-clause-unknowns
first_failing_sequence-answer-requires-clause-unknowns c =
    families_over c.args.report.now c.args.table.now c.requires.table c.hom_at-x.result.2.now.col_count c.module_at-ends.result.now
    (rows_of_families c.args.report.now c.requires.report c.args.a c.local_at-module.result.1 c.hom_at-x.result.0 c.hom_at-x.result.1 c.hom_at-x.result.2.now c.local_at-module.result.2.now c.local_at-module.ensures.0 (local_named c.args.report.now c.requires.report c.args.l c.local_at-module.result.0 c.local_at-module.result.1 c.local_at-module.result.2.now c.local_at-module.ensures.0 c.local_at-module.ensures.1 c.requires.block.named c.local_at-module.ensures.2).named c.hom_at-x.ensures
    c.module_at-ends.result.now c.module_at-ends.ensures (homs_of_end c.args.report.now.records c.args.n c.args.e c.args.a c.args.f c.args.g c.args.c c.args.l c.local_at-module.result.0 c.local_at-module.result.1 c.hom_at-x.result.0 c.hom_at-x.result.1 c.local_at-module.ensures.0 c.local_at-module.result.2.now c.hom_at-x.result.2.now c.local_at-module.ensures.1 c.local_at-module.ensures.2 c.hom_at-x.ensures c.if-not-names_sequence.ensures))

pub first_failing_sequence-answer-requires-clause-coordinates : goal.first_failing_sequence-answer-requires-clause-coordinates
first_failing_sequence-answer-requires-clause-coordinates c =
    ideal_columns c.args.report.now c.requires.report c.args.a c.local_at-module.result.1 c.hom_at-x.result.0 c.hom_at-x.result.1 c.hom_at-x.result.2.now c.local_at-module.result.2.now c.local_at-module.ensures.0 (local_named c.args.report.now c.requires.report c.args.l c.local_at-module.result.0 c.local_at-module.result.1 c.local_at-module.result.2.now c.local_at-module.ensures.0 c.local_at-module.ensures.1 c.requires.block.named c.local_at-module.ensures.2).named c.hom_at-x.ensures
    (local_named c.args.report.now c.requires.report c.args.l c.local_at-module.result.0 c.local_at-module.result.1 c.local_at-module.result.2.now c.local_at-module.ensures.0 c.local_at-module.ensures.1 c.requires.block.named c.local_at-module.ensures.2).are_rows

pub first_failing_sequence-answer-requires-clause-functional : goal.first_failing_sequence-answer-requires-clause-functional
first_failing_sequence-answer-requires-clause-functional c =
    functional_over c.args.report.now c.args.table.now c.requires.table c.args.a c.args.c c.resolution_at-of.result.0 c.resolution_at-of.result.1 c.resolution_at-of.result.2.now c.args.phi.now c.module_at-ends.result.now c.module_at-ends.ensures c.resolution_at-of.ensures c.requires.block.functional

pub first_failing_sequence-answer-requires-clause-left : goal.first_failing_sequence-answer-requires-clause-left
first_failing_sequence-answer-requires-clause-left c =
    embedding_shape c.args.report.now c.args.table.now c.requires.table c.args.c c.resolution_at-of.result.0 c.resolution_at-of.result.1 c.resolution_at-of.result.2.now c.resolution_at-of.ensures c.module_at-ends.result.now
    (c.module_at-ends.ensures ∙ ap (module_of c.args.report.now.records) (sym (terms_of_end c.args.report.now.records c.args.n c.args.e c.args.a c.args.f c.args.g c.args.c c.args.l c.resolution_at-of.result.0 c.resolution_at-of.result.1 c.resolution_at-of.result.2.now c.resolution_at-of.ensures c.if-not-names_sequence.ensures)))
    c.args.n c.args.left.now c.module_at-begins.result.now c.module_at-begins.ensures c.requires.block.left_shape

pub first_failing_sequence-answer-requires-clause-middle : goal.first_failing_sequence-answer-requires-clause-middle
first_failing_sequence-answer-requires-clause-middle c =
    middle_over c.args.report.now c.args.table.now c.requires.table c.args.e c.args.a c.args.c c.resolution_at-of.result.0 c.resolution_at-of.result.1 c.resolution_at-of.result.2.now c.args.middle.now c.module_at-between.result.now c.module_at-ends.result.now c.module_at-between.ensures
    c.module_at-ends.ensures c.resolution_at-of.ensures
    (c.module_at-ends.ensures ∙ ap (module_of c.args.report.now.records) (sym (terms_of_end c.args.report.now.records c.args.n c.args.e c.args.a c.args.f c.args.g c.args.c c.args.l c.resolution_at-of.result.0 c.resolution_at-of.result.1 c.resolution_at-of.result.2.now c.resolution_at-of.ensures c.if-not-names_sequence.ensures)))
    c.requires.block.middle_shape

pub first_failing_sequence-answer-requires-clause-entries : goal.first_failing_sequence-answer-requires-clause-entries
first_failing_sequence-answer-requires-clause-entries c =
    sequence_bytes c.args.report.now c.args.table.now c.requires.table c.args.n c.args.e c.args.a c.args.f c.args.g c.args.c c.args.l c.args.phi.now c.args.left.now c.args.middle.now c.hom_at-x.result.2.now.row_count c.hom_at-x.result.2.now.col_count c.args.bytes.now c.args.numbers.now
    (few_rows c.args.report.now c.requires.report c.args.a c.local_at-module.result.1 c.hom_at-x.result.0 c.hom_at-x.result.1 c.hom_at-x.result.2.now c.local_at-module.result.2.now c.local_at-module.ensures.0 (local_named c.args.report.now c.requires.report c.args.l c.local_at-module.result.0 c.local_at-module.result.1 c.local_at-module.result.2.now c.local_at-module.ensures.0 c.local_at-module.ensures.1 c.requires.block.named c.local_at-module.ensures.2).named c.hom_at-x.ensures)
    (few_unknowns c.args.report.now c.requires.report c.args.a c.local_at-module.result.1 c.hom_at-x.result.0 c.hom_at-x.result.1 c.hom_at-x.result.2.now c.local_at-module.result.2.now c.local_at-module.ensures.0 (local_named c.args.report.now c.requires.report c.args.l c.local_at-module.result.0 c.local_at-module.result.1 c.local_at-module.result.2.now c.local_at-module.ensures.0 c.local_at-module.ensures.1 c.requires.block.named c.local_at-module.ensures.2).named c.hom_at-x.ensures)
    c.requires.room

pub returns : goal.returns
returns c w =
    sequence_answer c.args.report.now.header (sides_by w) c.args.report.now.records c.args.n c.args.e c.args.a c.args.f c.args.g c.args.c c.args.l record { functional = c.args.phi.now; left = c.args.left.now; middle = c.args.middle.now } c.first_failing_sequence-answer.result
    c.module_at-begins.result.now c.module_at-between.result.now c.module_at-ends.result.now c.map_at-first.result.now c.map_at-second.result.now
    c.module_at-begins.ensures c.module_at-between.ensures c.module_at-ends.ensures c.map_at-first.ensures c.map_at-second.ensures
    c.resolution_at-of.result.0 c.resolution_at-of.result.1 c.resolution_at-of.result.2.now c.local_at-module.result.0 c.local_at-module.result.1 c.hom_at-x.result.0 c.hom_at-x.result.1 c.local_at-module.ensures.0 c.local_at-module.result.2.now c.hom_at-x.result.2.now c.local_at-module.ensures.1
    c.resolution_at-of.ensures c.local_at-module.ensures.2 c.hom_at-x.ensures c.if-not-names_sequence.ensures
    (over_table c.args.report.now.header c.args.table.now c.requires.table.header c.requires.table.is
    (λ (h : Header) (T : Sides h). IsAnswer (sequence_conditions ⊤ h T c.module_at-begins.result.now c.module_at-between.result.now c.module_at-ends.result.now c.map_at-first.result.now.matrices c.map_at-second.result.now.matrices c.resolution_at-of.result.2.now
    c.hom_at-x.result.2.now c.local_at-module.result.2.now record { functional = c.args.phi.now; left = c.args.left.now; middle = c.args.middle.now }) c.first_failing_sequence-answer.result)
    c.first_failing_sequence-answer.ensures w)
