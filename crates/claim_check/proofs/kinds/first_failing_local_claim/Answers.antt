use Rattle.claim_check.proofs.Named.{module_there}
use Rattle.claim_check.proofs.LocalClaims.{hom_named, few_rows, few_unknowns, rows_of_families, ideal_columns, ideal_few, local_room, not_of_module, local_answer}
use Rattle.claim_check.proofs.kinds.first_failing_local_claim.Goals as goal

pub returns-then-not-are_of : goal.returns-then-not-are_of
returns-then-not-are_of c T =
    not_of_module c.args.report.now.header c.args.report.now.records c.args.m c.args.c c.hom_at-a.result.0 c.hom_at-a.result.1 c.hom_at-a.result.2.now c.args.ideal.now c.args.power c.args.residue
    c.hom_at-a.ensures c.if-not-are_of.ensures

pub first_failing_local-requires-clause-m : goal.first_failing_local-requires-clause-m
first_failing_local-requires-clause-m c = module_there c.args.report.now c.requires.report c.args.m c.module_at-whole.result.now c.requires.block.is_module c.module_at-whole.ensures

pub first_failing_local-requires-clause-field : goal.first_failing_local-requires-clause-field
first_failing_local-requires-clause-field c =
    (hom_named c.args.report.now c.requires.report c.args.m c.args.c c.hom_at-a.result.0 c.hom_at-a.result.1 c.hom_at-a.result.2.now c.args.ideal.now c.args.power c.requires.block.named
    c.hom_at-a.ensures).are_rows.shape.field

pub first_failing_local-requires-clause-unknowns : goal.first_failing_local-requires-clause-unknowns
first_failing_local-requires-clause-unknowns c =
    rows_of_families c.args.report.now c.requires.report c.args.m c.args.c c.hom_at-a.result.0 c.hom_at-a.result.1 c.hom_at-a.result.2.now c.args.ideal.now c.args.power c.requires.block.named
    c.hom_at-a.ensures c.module_at-whole.result.now c.module_at-whole.ensures c.if-not-are_of.ensures

pub first_failing_local-requires-clause-few : goal.first_failing_local-requires-clause-few
first_failing_local-requires-clause-few c =
    few_rows c.args.report.now c.requires.report c.args.m c.args.c c.hom_at-a.result.0 c.hom_at-a.result.1 c.hom_at-a.result.2.now c.args.ideal.now c.args.power c.requires.block.named c.hom_at-a.ensures

pub first_failing_local-requires-clause-coordinates : goal.first_failing_local-requires-clause-coordinates
first_failing_local-requires-clause-coordinates c =
    ideal_columns c.args.report.now c.requires.report c.args.m c.args.c c.hom_at-a.result.0 c.hom_at-a.result.1 c.hom_at-a.result.2.now c.args.ideal.now c.args.power c.requires.block.named
    c.hom_at-a.ensures c.requires.block.are_rows

pub first_failing_local-requires-clause-few_in_ideal : goal.first_failing_local-requires-clause-few_in_ideal
first_failing_local-requires-clause-few_in_ideal c =
    ideal_few c.args.report.now c.requires.report c.args.m c.args.c c.hom_at-a.result.0 c.hom_at-a.result.1 c.hom_at-a.result.2.now c.args.ideal.now c.args.power c.requires.block.named
    c.hom_at-a.ensures c.requires.block.are_rows

pub first_failing_local-requires-clause-room : goal.first_failing_local-requires-clause-room
first_failing_local-requires-clause-room c =
    local_room c.hom_at-a.result.2.now.col_count c.args.bytes.now c.args.numbers.now c.args.m c.args.c c.args.ideal.now c.args.power c.args.residue
    (few_unknowns c.args.report.now c.requires.report c.args.m c.args.c c.hom_at-a.result.0 c.hom_at-a.result.1 c.hom_at-a.result.2.now c.args.ideal.now c.args.power c.requires.block.named
    c.hom_at-a.ensures) c.requires.room

pub returns : goal.returns
returns c T =
    local_answer c.args.report.now.header c.args.report.now.records c.args.m c.args.c c.hom_at-a.result.0 c.hom_at-a.result.1 c.hom_at-a.result.2.now c.args.ideal.now c.args.power c.args.residue
    c.hom_at-a.ensures c.module_at-whole.result.now c.first_failing_local.result c.module_at-whole.ensures c.if-not-are_of.ensures c.first_failing_local.ensures
