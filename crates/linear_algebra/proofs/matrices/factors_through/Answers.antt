-- By a rank factorisation.
use Rattle.linear_algebra.proofs.Solving.{factors_through as factors}
use Rattle.linear_algebra.proofs.matrices.factors_through.Goals as goal

pub returns : goal.returns
returns c = λ q m n k f b h. factors f b h
