use Rattle.std.proofs.Common.{arith}
use Rattle.claim_blocks.proofs.vertex_block.are_bytes.Goals as goal

pub returns : goal.returns
returns c = λ j. let b = c.type_inv.items j in omega (arith, b)
