-- Rows of a module at given vertices, as generators modulo the radical. (Assem, Simson, Skowroński, volume 1, chapter I, 3 and 5, and III, 2.)
use Rattle.std.specs.Prelude.{ℕ, zero, ◌+◌, ◌<◌, ◌≡◌, ◌≢◌, ◌⊎◌, cond, eqb}
use Rattle.std.proofs.Common.{inl, inr, refl, ap}
use Rattle.std.proofs.lemmas.Bool.{cases_eq}
use Rattle.linear_algebra.specs.Field.{Gf}
use Rattle.linear_algebra.specs.Matrix.{Mat, Row, zeros, reshape, ◌⊞◌, ◌·◌}
use Rattle.linear_algebra.specs.BlockFamilies.{total}
use Rattle.representations.specs.Quiver.{Quiver, BoundQuiver}
use Rattle.representations.specs.Rep.{Rep}
use Rattle.representations.specs.Radical.{IsInRadical}
use Rattle.projectives.specs.Words.{Words, IsWordBasis}
use Rattle.projectives.specs.Projective.{of_rows}
use Rattle.projectives.specs.Families.{projectives}

-- The number of those among v 0, .., v (k − 1) that are w.
abbrev pub count_at : ℕ → (ℕ → ℕ) → ℕ → ℕ
count_at k v w = total k (λ j. cond (eqb (v j) w) 1 zero)

-- A row x of X at v, as a row at w: zero where w is another vertex.
abbrev pub placed : {q : Gf} {Q : Quiver} (X : Rep q Q) (v w : ℕ) → (v ≡ w) ⊎ (v ≢ w) → Row q (X.dim v) → Row q (X.dim w)
placed X v w (inl e) x = reshape refl (ap X.dim e) x
placed {q} X v w (inr d) x = zeros q 1 (X.dim w)

-- Rows x 0, .., x (k − 1) of X at the vertices v 0, .., v (k − 1): those at the vertex w, and zero rows in the places of the others.
unfoldable pub rows_at : {q : Gf} {Q : Quiver} (X : Rep q Q) (k : ℕ) (v : ℕ → ℕ) (x : (j : ℕ) → Row q (X.dim (v j))) (w : ℕ) → Mat q k (X.dim w)
rows_at X k v x w = of_rows k (λ j. placed X (v j) w (cases_eq (v j) w) (x j))

-- Independent modulo the radical: where a combination of those at a vertex lies in the radical, its coefficients are zero.
abbrev pub IsIndependentModuloRadical : {q : Gf} {Q : Quiver} (X : Rep q Q) (k : ℕ) (v : ℕ → ℕ) → ((j : ℕ) → Row q (X.dim (v j))) → Type 0
IsIndependentModuloRadical {q} {Q} X k v x =
    (w : ℕ) → w < Q.vertices → (c : Row q k) → IsInRadical X w (c · rows_at X k v x w) → (j : ℕ) → j < k → v j ≡ w → c.at 0 j ≡ zero

-- A combination of the rows of f up to the radical.
pub record IsInSpanModuloRadical {q : Gf} {Q : Quiver} (X : Rep q Q) (w : ℕ) {k : ℕ} (f : Mat q k (X.dim w)) (y : Row q (X.dim w)) : Type 0 where
  pub by : Row q k
  pub rest : Row q (X.dim w)
  pub in_radical : IsInRadical X w rest
  pub is : by · f ⊞ rest ≡ y

-- They span the module modulo the radical.
abbrev pub SpansModuloRadical : {q : Gf} {Q : Quiver} (X : Rep q Q) (k : ℕ) (v : ℕ → ℕ) → ((j : ℕ) → Row q (X.dim (v j))) → Type 0
SpansModuloRadical {q} X k v x = (w : ℕ) (y : Row q (X.dim w)) → IsInSpanModuloRadical X w (rows_at X k v x w) y

-- The coefficients of a row of the sum of projective modules at the trivial words are zero: the words from v j to w stand after those from
-- v 0, .., v (j − 1).
abbrev pub VanishesAtTrivialWords : {q : Gf} (A : BoundQuiver) (W : Words q A.quiver) (B : IsWordBasis A W) (k : ℕ) (v : ℕ → ℕ) (w : ℕ) → Row q ((projectives W k v).dim w) → Type 0
VanishesAtTrivialWords A W B k v w x = (j : ℕ) → j < k → v j ≡ w → x.at 0 (total j (λ i. W.count (v i) w) + B.place (v j)) ≡ zero
