-- The rank of a matrix. (Any textbook of linear algebra.)
use Rattle.std.specs.Prelude.{ℕ}
use Rattle.linear_algebra.specs.Field.{Gf}
use Rattle.linear_algebra.specs.Matrix.{Mat}
use Rattle.linear_algebra.specs.RankExists.{rank_factorisation}

-- The rank of f: the size of a rank factorisation of f, that is, the dimension of the span of its rows. Each rank factorisation has this
-- size.
unfoldable pub rank : {q : Gf} {m n : ℕ} → Mat q m n → ℕ
rank f = (rank_factorisation f).size
