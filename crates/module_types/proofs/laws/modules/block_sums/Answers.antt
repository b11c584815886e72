use Rattle.module_types.proofs.BlockSums.{rep_of-block_sum, block_sum-side, block_sum-shape, block_sum-module, block_sum_over, block_sum-dims, block_sum-upper, block_sum-lower}
use Rattle.module_types.proofs.laws.modules.block_sums.Goals as goal

pub returns-clause-read : goal.returns-clause-read
returns-clause-read c = λ q Q a b. rep_of-block_sum q Q a b

pub returns-clause-side : goal.returns-clause-side
returns-clause-side c = λ q Q a b. block_sum-side q Q a b

pub returns-clause-shape : goal.returns-clause-shape
returns-clause-shape c = λ q Q a b s t h. block_sum-shape q Q a b s t h

pub returns-clause-module : goal.returns-clause-module
returns-clause-module c = λ q A a b m n. block_sum-module A a b m n

pub returns-clause-dims : goal.returns-clause-dims
returns-clause-dims c = λ q Q a b v l. block_sum-dims q Q a b v l

pub returns-clause-upper : goal.returns-clause-upper
returns-clause-upper c = λ q Q a b r i j l. block_sum-upper q Q a b r i j l

pub returns-clause-lower : goal.returns-clause-lower
returns-clause-lower c = λ q Q a b r i j. block_sum-lower q Q a b r i j

pub returns-clause-over : goal.returns-clause-over
returns-clause-over c = λ h a b e m n. block_sum_over h a b e m n
