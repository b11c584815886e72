use Rattle.claim_blocks.specs.PartMatrices.{FitsMatrix, next_line, with_matrix}
use Rattle.claim_blocks.specs.declared.part_matrices.PartMatrices.{PartMatrices}
use Rattle.claim_blocks.proofs.TakenLines.{takes_within, takes_not_within}
use Rattle.claim_blocks.proofs.vertex_block.VertexBlock.take.Goals as goal

pub returns-then-not-taken : goal.returns-then-not-taken
returns-then-not-taken c =
    let b = c.args.self.now in
    let h = c.args.header.now in
    takes_not_within (FitsMatrix h b.matrices) (next_line h b.matrices) (with_matrix b.matrices) (λ (m : PartMatrices). record b { matrices = m }) c.args.tokens (rw c.if-not-taken.true at c.in_ok-taken.ensures)

pub returns : goal.returns
returns c =
    let b = c.args.self.now in
    let h = c.args.header.now in
    takes_within (FitsMatrix h b.matrices) (next_line h b.matrices) (with_matrix b.matrices) (λ (m : PartMatrices). record b { matrices = m }) c.args.tokens c.take.new.self (rw c.if-not-taken.false at c.in_ok-taken.ensures)
