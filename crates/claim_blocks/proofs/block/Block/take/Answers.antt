use Rattle.std.proofs.Common.{sym, subst}
use Rattle.std.specs.Prelude.{MatchBool}
use Rattle.claim_blocks.specs.declared.block.Block.{Block}
use Rattle.claim_blocks.specs.declared.block.Block.TheVariants as block
use Rattle.claim_blocks.specs.Blocks.{BlockStep}
use Rattle.claim_blocks.specs.RowBlocks.{RowBlockStep}
use Rattle.claim_blocks.specs.SequenceBlocks.{SequenceStep}
use Rattle.claim_blocks.specs.VertexBlocks.{VertexStep}
use Rattle.claim_blocks.proofs.BlockLaws.{within_taken}
use Rattle.claim_blocks.proofs.block.Block.take.Goals as goal

pub returns-in_ok-taken-in-Rows : goal.returns-in_ok-taken-in-Rows
returns-in_ok-taken-in-Rows c =
    let next = c.take.new.self in
    let taken = c.in_ok-taken-in-Rows.taken in
    subst (λ (b : Block). MatchBool taken (BlockStep c.args.header.now b c.args.tokens (block.Rows next)) ((q : Block) → BlockStep c.args.header.now b c.args.tokens q → ⊥)) (sym c.in-Rows.is)
    (within_taken (RowBlockStep c.in-Rows.block c.args.tokens) block.Rows taken next c.in_ok-taken-in-Rows.ensures)

pub returns-in_ok-taken-in-Vertices : goal.returns-in_ok-taken-in-Vertices
returns-in_ok-taken-in-Vertices c =
    let next = c.take-in-Vertices.new.self in
    let taken = c.in_ok-taken-in-Vertices.taken in
    subst (λ (b : Block). MatchBool taken (BlockStep c.args.header.now b c.args.tokens (block.Vertices next)) ((q : Block) → BlockStep c.args.header.now b c.args.tokens q → ⊥)) (sym c.in-Vertices.is)
    (within_taken (VertexStep c.args.header.now c.in-Vertices.block c.args.tokens) block.Vertices taken next c.in_ok-taken-in-Vertices.ensures)

pub returns-in_ok-taken-in-Sequence : goal.returns-in_ok-taken-in-Sequence
returns-in_ok-taken-in-Sequence c =
    let next = c.take-in-Sequence.new.self in
    let taken = c.in_ok-taken-in-Sequence.taken in
    subst (λ (b : Block). MatchBool taken (BlockStep c.args.header.now b c.args.tokens (block.Sequence next)) ((q : Block) → BlockStep c.args.header.now b c.args.tokens q → ⊥)) (sym c.in-Sequence.is)
    (within_taken (SequenceStep c.args.header.now c.in-Sequence.block c.args.tokens) block.Sequence taken next c.in_ok-taken-in-Sequence.ensures)
