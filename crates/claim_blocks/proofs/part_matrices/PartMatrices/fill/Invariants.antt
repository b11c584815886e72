use Rattle.claim_blocks.specs.PartMatrices.{Filling}
use Rattle.claim_blocks.proofs.part_matrices.PartMatrices.fill.Given as goal

abbrev pub invariant-loop-i : goal.invariant-loop-i
invariant-loop-i l = Filling l.fn.self l.self l._i l._i-end
