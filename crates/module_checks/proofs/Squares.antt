-- Products of printed matrices, and the squares of a map.
use Rattle.std.proofs.Common.{ℕ, ◌<◌, ◌≤◌, ◌≡◌, ◌+◌, List, refl, sym, ap, ap₂, ◌∙◌, inl, inr, subst, arith, add-one}
use Rattle.std.specs.Prelude.{slice_index_or, length}
use Rattle.std.proofs.lemmas.Bool.{cases_lt, cases_eq}
use Rattle.linear_algebra.specs.Field.{Gf, add, mul}
use Rattle.linear_algebra.specs.Sums.{sum-suc, sum-ext}
use Rattle.linear_algebra.specs.Matrix.{Mat, Mat-eq_below, ◌·◌}
use Rattle.linear_algebra.specs.Rows.{entry}
use Rattle.fp_linear.specs.Matrix.{PlainMatrix}
use Rattle.path_algebra.specs.declared.Header.{Header}
use Rattle.path_algebra.specs.Allowed.{IsAllowed}
use Rattle.quiver_paths.specs.Quiver.{arrow_count}
use Rattle.representations.specs.Quiver.{Quiver}
use Rattle.representations.specs.Rep.{Rep}
use Rattle.module_types.specs.declared.Module.{Module}
use Rattle.module_types.specs.Algebras.{algebra_at}
use Rattle.module_types.specs.Readings.{dim_at, rep_of, family_of, IsHom}
use Rattle.module_types.specs.Shapes.{IsMap, IsModule, HasShape}
use Rattle.module_checks.specs.Products.{product_entry, AgreeInRows}
use Rattle.module_checks.proofs.HomRank.{IsPlainOf, plain_of_shape}
use Rattle.module_checks.proofs.Sides.{plain_at, arrows_at, source_inside, target_inside}

pub product-more : (q : Gf) (n : ℕ) (a b : PlainMatrix) (i j : ℕ) → product_entry q (n + 1) a b i j ≡ add q (product_entry q n a b i j) (mul q (entry a.rows i n) (entry b.rows n j))
product-more q n a b i j = rw add-one (sum-suc q n _)

-- The entries are those of the product.
pub product_typed : {q : Gf} {l m n : ℕ} (f : Mat q l m) (g : Mat q m n) (a b : PlainMatrix) → IsPlainOf a f → IsPlainOf b g → (i j : ℕ) → product_entry q a.col_count a b i j ≡ (f · g).at i j
unfolding ◌·◌
product_typed {q} {m = m} f g a b x y i j = ap (λ n. product_entry q n a b i j) x.col_count ∙ sum-ext q m _ _ (λ t. ap₂ (mul q) (x.entries i t) (y.entries t j))

module _ {q : Gf} {l m n k : ℕ} (f : Mat q l m) (g : Mat q m n) (r : Mat q l k) (s : Mat q k n) (a b c d : PlainMatrix) (x : IsPlainOf a f) (y : IsPlainOf b g) (z : IsPlainOf c r) (w : IsPlainOf d s) where
  pub products_same : AgreeInRows q a b c d a.row_count → f · g ≡ r · s
  products_same h = Mat-eq_below _ _ (λ i j u v.
      sym (product_typed f g a b x y i j) ∙ (h.at i (subst (λ n. i < n) (sym x.row_count) u)).at j (subst (λ n. j < n) (sym y.col_count) v) ∙ product_typed r s c d z w i j)

  pub same_products : f · g ≡ r · s → AgreeInRows q a b c d a.row_count
  same_products e = record {
    at = λ i u. record { at = λ j v. product_typed f g a b x y i j ∙ ap (λ (h : Mat q l n). h.at i j) e ∙ sym (product_typed r s c d z w i j) };
  }

-- The squares at the first arrows commute.
pub record AreSquaresUpTo {q : Gf} {Q : Quiver} (X Y : Rep q Q) (matrices : List PlainMatrix) (n : ℕ) : Type 0 where
  pub square : (a : ℕ) → a < n → X.mat a · family_of X Y matrices (Q.target a) ≡ family_of X Y matrices (Q.source a) · Y.mat a

-- At what is no arrow there is no row.
pub squares_all : {q : Gf} {Q : Quiver} (X Y : Rep q Q) (matrices : List PlainMatrix) (n : ℕ) → Q.arrows ≤ n → AreSquaresUpTo X Y matrices n → IsHom X Y (family_of X Y matrices)
squares_all {Q = Q} X Y matrices n h s a = elim (cases_lt a n) [
  | inl l ↦ s.square a l
  | inr l ↦ Mat-eq_below _ _ (λ i j u v. absurd (let e = X.past (Q.source a) (Q.source_past a (omega arith)) in omega arith))
]

-- The four matrices of the square at an arrow.
pub record AreCorners {q : Gf} {Q : Quiver} (X Y : Rep q Q) (matrices : List PlainMatrix) (a : ℕ) (x t s y : PlainMatrix) : Type 0 where
  pub first : IsPlainOf x (X.mat a)
  pub at_target : IsPlainOf t (family_of X Y matrices (Q.target a))
  pub at_source : IsPlainOf s (family_of X Y matrices (Q.source a))
  pub second : IsPlainOf y (Y.mat a)
  pub target_field : t.field ≡ q
  pub source_field : s.field ≡ q

module _ (h : Header) (ok : IsAllowed h) (a b : Module) (matrices : List PlainMatrix) (A : IsModule h.field (algebra_at a.side h).quiver a) (B : IsModule h.field (algebra_at b.side h).quiver b)
    (M : IsMap h.field (algebra_at a.side h).quiver a b matrices) (side : a.side ≡ b.side) (k : ℕ) (l : k < arrow_count h.quiver) where
  abbrev arrows : Quiver
  arrows = (algebra_at a.side h).quiver

  below : k < arrows.arrows
  below = subst (λ n. k < n) (sym (arrows_at a.side h)) l

  pub end_in_map : (v u : ℕ) → u ≡ v → v < arrows.vertices → u < length matrices
  end_in_map v u e d = let count = M.counted in omega arith

  matrix_at : (v u : ℕ) (p : PlainMatrix) → u ≡ v → v < arrows.vertices → p ≡ slice_index_or matrices u p → HasShape h.field (dim_at arrows a.dims v) (dim_at arrows b.dims v) (slice_index_or matrices v p)
  matrix_at v u p e d f = M.each v p d

  plain_matrix : (v u : ℕ) (p : PlainMatrix) → u ≡ v → v < arrows.vertices → p ≡ slice_index_or matrices u p → IsPlainOf p (family_of (rep_of h.field arrows a) (rep_of h.field arrows b) matrices v)
  plain_matrix v u p e d f =
      subst (λ z. IsPlainOf z (family_of (rep_of h.field arrows a) (rep_of h.field arrows b) matrices v)) (sym (f ∙ ap (λ u. slice_index_or matrices u p) e))
      (plain_of_shape h.field _ _ v matrices p (end_in_map v v refl d) (matrix_at v u p e d f))

  plain_field : (v u : ℕ) (p : PlainMatrix) → u ≡ v → v < arrows.vertices → p ≡ slice_index_or matrices u p → p.field ≡ h.field
  plain_field v u p e d f = ap (λ (z : PlainMatrix). z.field) (f ∙ ap (λ u. slice_index_or matrices u p) e) ∙ (matrix_at v u p e d f).field

  pub corners : (u w : ℕ) (x t s y : PlainMatrix) → u ≡ arrows.target k → w ≡ arrows.source k → x ≡ slice_index_or a.matrices k x → t ≡ slice_index_or matrices u t → s ≡ slice_index_or matrices w s
      → y ≡ slice_index_or b.matrices k y → AreCorners (rep_of h.field arrows a) (rep_of h.field arrows b) matrices k x t s y
  corners u w x t s y ue we xe te se ye = record {
    first = plain_at h.field arrows a A k x below xe;
    at_target = plain_matrix (arrows.target k) u t ue (target_inside a.side h ok.quiver.ends k l) te;
    at_source = plain_matrix (arrows.source k) w s we (source_inside a.side h ok.quiver.ends k l) se;
    second = plain_at h.field arrows b (subst (λ s. IsModule h.field (algebra_at s h).quiver b) (sym side) B) k y below ye;
    target_field = plain_field (arrows.target k) u t ue (target_inside a.side h ok.quiver.ends k l) te;
    source_field = plain_field (arrows.source k) w s we (source_inside a.side h ok.quiver.ends k l) se;
  }

squares_more : {q : Gf} {Q : Quiver} (X Y : Rep q Q) (matrices : List PlainMatrix) (n : ℕ) → AreSquaresUpTo X Y matrices n → X.mat n · family_of X Y matrices (Q.target n) ≡ family_of X Y matrices (Q.source n) · Y.mat n
    → AreSquaresUpTo X Y matrices (n + 1)
squares_more {Q = Q} X Y matrices n s e = record {
  square = λ a l. elim (cases_eq a n) [
    | inl same ↦ subst (λ a. X.mat a · family_of X Y matrices (Q.target a) ≡ family_of X Y matrices (Q.source a) · Y.mat a) (sym same) e
    | inr other ↦ s.square a (omega arith)
  ];
}

pub square_added : {q : Gf} {Q : Quiver} (X Y : Rep q Q) (matrices : List PlainMatrix) (n : ℕ) (x t s y : PlainMatrix) → AreCorners X Y matrices n x t s y → AreSquaresUpTo X Y matrices n
    → AgreeInRows q x t s y x.row_count → AreSquaresUpTo X Y matrices (n + 1)
square_added X Y matrices n x t s y c u g = squares_more X Y matrices n u (products_same _ _ _ _ x t s y c.first c.at_target c.at_source c.second g)

pub square_fails : {q : Gf} {Q : Quiver} (X Y : Rep q Q) (matrices : List PlainMatrix) (n : ℕ) (x t s y : PlainMatrix) → AreCorners X Y matrices n x t s y → (AgreeInRows q x t s y x.row_count → ⊥)
    → IsHom X Y (family_of X Y matrices) → ⊥
square_fails X Y matrices n x t s y c g h = g (same_products _ _ _ _ x t s y c.first c.at_target c.at_source c.second (h n))
