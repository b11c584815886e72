-- The images of all rows under a family of square matrices, taken again and again: rows that span V 0, V 1, .., where V 0 is everything and V (i + 1) is
-- the sum of the images of V i under the members of the family.
use Rattle.std.specs.Prelude.{ℕ, suc, ◌<◌, ◌≤◌, ◌≡◌}
use Rattle.linear_algebra.specs.Field.{Gf}
use Rattle.linear_algebra.specs.Matrix.{Mat, Row, zeros, ◌·◌}
use Rattle.linear_algebra.specs.Rank.{IsInSpan, HasRightInverse}
use Rattle.linear_algebra.specs.Families.{ordered_product}

pub record IsImageChain {q : Gf} {d : ℕ} (k : ℕ) (g : ℕ → Mat q d d) (size : ℕ → ℕ) (V : (i : ℕ) → Mat q (size i) d) : Type 0 where
  pub whole : (x : Row q d) → IsInSpan (V 0) x
  pub has_images : (i j : ℕ) → j < k → IsInSpan (V (suc i)) (V i · g j)
  pub least : (i : ℕ) {l : ℕ} (f : Mat q l d) → ((j : ℕ) → j < k → IsInSpan f (V i · g j)) → IsInSpan f (V (suc i))

-- The rows are a basis of V s, for such a chain: of what the images of all rows are after s times.
pub record IsImageAfter {q : Gf} {d r : ℕ} (k : ℕ) (g : ℕ → Mat q d d) (s : ℕ) (rows : Mat q r d) : Type 0 where
  pub size : ℕ → ℕ
  pub V : (i : ℕ) → Mat q (size i) d
  pub chain : IsImageChain k g size V
  pub forth : IsInSpan (V s) rows
  pub back : IsInSpan rows (V s)
  pub independent : HasRightInverse rows

-- The rows W span the sum of the images of V under the members of the family.
pub record IsImageOf {q : Gf} {d r s : ℕ} (k : ℕ) (g : ℕ → Mat q d d) (V : Mat q r d) (W : Mat q s d) : Type 0 where
  pub has_images : (j : ℕ) → j < k → IsInSpan W (V · g j)
  pub least : {l : ℕ} (f : Mat q l d) → ((j : ℕ) → j < k → IsInSpan f (V · g j)) → IsInSpan f W

-- All products of s members of the family are zero.
abbrev pub ProductsVanish : {q : Gf} {d : ℕ} (k : ℕ) (g : ℕ → Mat q d d) (s : ℕ) → Type 0
ProductsVanish {q} {d} k g s = (w : ℕ → ℕ) → ((i : ℕ) → i < s → w i < k) → ordered_product (λ i. g (w i)) s ≡ zeros q d d

-- They are just from p on.
pub record VanishFrom {q : Gf} {d : ℕ} (k : ℕ) (g : ℕ → Mat q d d) (p : ℕ) : Type 0 where
  pub zero : (s : ℕ) → p ≤ s → ProductsVanish k g s
  pub least : (s : ℕ) → ProductsVanish k g s → p ≤ s
