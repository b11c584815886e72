use Rattle.std.specs.Prelude.{◌+◌}
use Rattle.std.proofs.Common.{sym, ap, ◌∙◌}
use Rattle.linear_algebra.proofs.Dimension.{rank_is}
use Rattle.local_modules.proofs.FrobeniusFields.{frobenius_linear}
use Rattle.local_modules.proofs.FrobeniusRanks.{injective_rank, rank_injective, fixed_line_rank, rank_fixed_line}
use Rattle.local_modules.proofs.algebras.frobenius_of_a_commutative_algebra.Goals as goal

pub returns-clause-sums : goal.returns-clause-sums
returns-clause-sums c = λ q A m. (frobenius_linear A m).sum

pub returns-clause-multiples : goal.returns-clause-multiples
returns-clause-multiples c = λ q A m. (frobenius_linear A m).multiple

pub returns-clause-injective_by_rank : goal.returns-clause-injective_by_rank
returns-clause-injective_by_rank c = λ q A m f e. rank_injective A m (rank_is f ∙ e)

pub returns-clause-rank_of_injective : goal.returns-clause-rank_of_injective
returns-clause-rank_of_injective c = λ q A m h f. sym (rank_is f) ∙ injective_rank A m h

pub returns-clause-line_by_rank : goal.returns-clause-line_by_rank
returns-clause-line_by_rank c = λ q A m f e. rank_fixed_line A m (ap (λ r. 1 + r) (rank_is f) ∙ e)

pub returns-clause-rank_of_line : goal.returns-clause-rank_of_line
returns-clause-rank_of_line c = λ q A m v n e h f. sym (ap (λ r. 1 + r) (rank_is f)) ∙ fixed_line_rank A m v n e h
