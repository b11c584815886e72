use Rattle.module_types.proofs.BlockSums.{rep_of-block_sum_of, block_sum_of-none, block_sum_of-push, block_sum_of-shape, block_sum_of-module, block_sum_of-side, block_sum_of_over}
use Rattle.module_types.proofs.laws.modules.block_sums_of_lists.Goals as goal

pub returns-clause-read : goal.returns-clause-read
returns-clause-read c = λ q Q side parts. rep_of-block_sum_of q Q side parts

pub returns-clause-none : goal.returns-clause-none
returns-clause-none c = λ q Q side. block_sum_of-none q Q side

pub returns-clause-push : goal.returns-clause-push
returns-clause-push c = λ q Q side parts m. block_sum_of-push q Q side parts m

pub returns-clause-shape : goal.returns-clause-shape
returns-clause-shape c = λ q Q side parts h. block_sum_of-shape q Q side parts h

pub returns-clause-module : goal.returns-clause-module
returns-clause-module c = λ q A side parts m. block_sum_of-module A side parts m

pub returns-clause-side : goal.returns-clause-side
returns-clause-side c = λ q Q side parts. block_sum_of-side q Q side parts

pub returns-clause-over : goal.returns-clause-over
returns-clause-over c = λ h side parts e. block_sum_of_over h side parts e
