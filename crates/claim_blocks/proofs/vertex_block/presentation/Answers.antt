use Rattle.std.proofs.Common.{◌<◌, refl, arith, subst}
use Rattle.report_types.specs.Limits.{term_limit}
use Rattle.claim_blocks.specs.Counts.{table_dimension}
use Rattle.claim_blocks.proofs.VertexBlocks.{table_of, large_dual, presentation_of}
use Rattle.claim_blocks.proofs.vertex_block.presentation.Goals as goal

pub returns-in_default : goal.returns-in_default
returns-in_default c = λ fits.
    let h = c.args.context.now.header in
    let rs = c.args.context.now.records in
    let n = c.args.resolution in
    let vs = c.vertices-first.result.now in
    let is = table_of h rs n c.resolved.result c.side.result c.other-side.result c.in_ok-table.table c.resolved.ensures c.side.ensures c.other-side.ensures c.in_ok-table.ensures in
    large_dual h rs n 0 vs c.vertices-first.ensures (λ j l. c.are_bytes.ensures j) (subst (λ t. term_limit < table_dimension t vs) is (rw c.in_default.is at c.in_ok-_small.ensures)) (omega arith) fits

pub returns-in_default-2 : goal.returns-in_default-2
returns-in_default-2 c = λ fits.
    let h = c.args.context.now.header in
    let rs = c.args.context.now.records in
    let n = c.args.resolution in
    let vs = c.vertices-second.result.now in
    let is = table_of h rs n c.resolved.result c.side.result c.other-side.result c.in_ok-table.table c.resolved.ensures c.side.ensures c.other-side.ensures c.in_ok-table.ensures in
    large_dual h rs n 1 vs c.vertices-second.ensures (λ j l. c.are_bytes-2.ensures j) (subst (λ t. term_limit < table_dimension t vs) is (rw c.in_default-2.is at c.in_ok-dims.ensures)) (omega arith) fits

pub returns : goal.returns
returns c =
    let h = c.args.context.now.header in
    let rs = c.args.context.now.records in
    let is = table_of h rs c.args.resolution c.resolved.result c.side.result c.other-side.result c.in_ok-table.table c.resolved.ensures c.side.ensures c.other-side.ensures c.in_ok-table.ensures in
    let small = rw c.in-Some.is at c.in_ok-_small.ensures in
    presentation_of h rs c.args.resolution c.in_ok-table.table c.vertices-first.result.now c.vertices-second.result.now c.in-Some-2.dims (c.if-not-has_length.ensures.0 refl) is c.vertices-first.ensures c.vertices-second.ensures
    c.are_bytes.ensures c.are_bytes-2.ensures small.0 (rw c.in-Some-2.is at c.in_ok-dims.ensures)
