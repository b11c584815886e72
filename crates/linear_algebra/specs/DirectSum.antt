-- The direct sum of matrices: two blocks on the diagonal, or a family of them.
use Rattle.std.specs.Prelude.{ℕ, zero, suc, ◌+◌}
use Rattle.linear_algebra.specs.Field.{Gf}
use Rattle.linear_algebra.specs.Matrix.{Mat, zeros, stack, beside}
use Rattle.linear_algebra.specs.BlockFamilies.{total}

unfoldable pub diagonal : {q : Gf} {m n k l : ℕ} → Mat q m n → Mat q k l → Mat q (m + k) (n + l)
diagonal {q} {m} {n} {k} {l} a b = stack (beside a (zeros q m l)) (beside (zeros q k n) b)

unfoldable pub diagonal_all : {q : Gf} (k : ℕ) (rows columns : ℕ → ℕ) → ((v : ℕ) → Mat q (rows v) (columns v)) → Mat q (total k rows) (total k columns)
diagonal_all {q} zero rows columns a = zeros q zero zero
diagonal_all (suc k) rows columns a = diagonal (diagonal_all k rows columns a) (a k)
