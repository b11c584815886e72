-- Homomorphisms out of a sum of projective modules in coordinates, and bases of extensions. (Assem, Simson, Skowroński, volume 1, appendix A, 4.)
use Rattle.std.specs.Prelude.{ℕ, ◌≡◌}
use Rattle.linear_algebra.specs.Field.{Gf}
use Rattle.linear_algebra.specs.Matrix.{Mat, Row, ◌·◌}
use Rattle.linear_algebra.specs.LinearMaps.{matrix_of}
use Rattle.linear_algebra.specs.BlockFamilies.{total, beside_all, column_block}
use Rattle.representations.specs.Quiver.{Quiver, BoundQuiver}
use Rattle.representations.specs.Rep.{Rep, IsMod}
use Rattle.representations.specs.Hom.{Hom, ◌≫◌, ◌⊕◌, zero_hom}
use Rattle.projectives.specs.Words.{Words, IsWordBasis}
use Rattle.projectives.specs.Families.{projectives}
use Rattle.projectives.specs.HomRows.{value, hom_of_rows}
use Rattle.projectives.specs.BasisModulo.{IsReducedModulo}

-- The number of coordinates of a homomorphism to X: the dimensions of X at the vertices of the generators.
abbrev pub coordinate_count : {q : Gf} {Q : Quiver} → Rep q Q → (k : ℕ) → (ℕ → ℕ) → ℕ
coordinate_count X k v = total k (λ j. X.dim (v j))

module _ {q : Gf} (A : BoundQuiver) (W : Words q A.quiver) (B : IsWordBasis A W) where
  -- The coordinates: the values of the generators, one after another; and the homomorphism with given coordinates.
  unfoldable pub coordinate_row : (k : ℕ) (v : ℕ → ℕ) {X : Rep q A.quiver} → Hom (projectives W k v) X → Row q (coordinate_count X k v)
  coordinate_row k v {X} y = beside_all k (λ j. X.dim (v j)) (λ j. value A W B k v y j)

  unfoldable pub hom_of_row : (k : ℕ) (v : ℕ → ℕ) (X : Rep q A.quiver) → IsMod A X → Row q (coordinate_count X k v) → Hom (projectives W k v) X
  hom_of_row k v X M x = hom_of_rows A W B k v X M (λ j. column_block k (λ j. X.dim (v j)) j x)

  -- Composition with d : P → P', which takes Hom (P', X) to Hom (P, X), in coordinates.
  unfoldable pub composition_matrix : (k : ℕ) (v : ℕ → ℕ) (h : ℕ) (u : ℕ → ℕ) (X : Rep q A.quiver) → IsMod A X → Hom (projectives W k v) (projectives W h u) → Mat q (coordinate_count X h u) (coordinate_count X k v)
  composition_matrix k v h u X M d = matrix_of (λ x. coordinate_row k v (d ≫ hom_of_row h u X M x))

  -- A basis of the extensions by X at the middle of P'' → P → P', by d' and d, in coordinates: its rows are cocycles, homomorphisms P → X that are zero after
  -- d'; each cocycle is a combination of them and a coboundary, d and then a homomorphism P' → X, with exactly one row of coefficients; and it is reduced
  -- modulo the coboundaries. For the degree 0, P' is the empty sum.
  pub record IsExtensionBasis (j : ℕ) (t : ℕ → ℕ) (k : ℕ) (v : ℕ → ℕ) (h : ℕ) (u : ℕ → ℕ) (X : Rep q A.quiver) (M : IsMod A X) (d' : Hom (projectives W j t) (projectives W k v)) (d : Hom (projectives W k v) (projectives W h u)) {n : ℕ} (rows : Mat q n (coordinate_count X k v)) : Type 0 where
    pub cocycles : (c : Row q n) → d' ≫ hom_of_row k v X M (c · rows) ≡ zero_hom (projectives W j t) X
    pub spans : (y : Hom (projectives W k v) X) → d' ≫ y ≡ zero_hom (projectives W j t) X
        → (c : Row q n) × (b : Hom (projectives W h u) X) × (hom_of_row k v X M (c · rows) ⊕ d ≫ b ≡ y)
    pub once : (c e : Row q n) (b : Hom (projectives W h u) X) → hom_of_row k v X M (c · rows) ⊕ d ≫ b ≡ hom_of_row k v X M (e · rows) → c ≡ e
    pub reduced : IsReducedModulo (composition_matrix k v h u X M d) rows

  -- The same with its size and its rows in it.
  pub record ExtensionBasis (j : ℕ) (t : ℕ → ℕ) (k : ℕ) (v : ℕ → ℕ) (h : ℕ) (u : ℕ → ℕ) (X : Rep q A.quiver) (M : IsMod A X) (d' : Hom (projectives W j t) (projectives W k v)) (d : Hom (projectives W k v) (projectives W h u)) : Type 0 where
    pub size : ℕ
    pub rows : Mat q size (coordinate_count X k v)
    pub cocycles : (c : Row q size) → d' ≫ hom_of_row k v X M (c · rows) ≡ zero_hom (projectives W j t) X
    pub spans : (y : Hom (projectives W k v) X) → d' ≫ y ≡ zero_hom (projectives W j t) X
        → (c : Row q size) × (b : Hom (projectives W h u) X) × (hom_of_row k v X M (c · rows) ⊕ d ≫ b ≡ y)
    pub once : (c e : Row q size) (b : Hom (projectives W h u) X) → hom_of_row k v X M (c · rows) ⊕ d ≫ b ≡ hom_of_row k v X M (e · rows) → c ≡ e
    pub reduced : IsReducedModulo (composition_matrix k v h u X M d) rows
