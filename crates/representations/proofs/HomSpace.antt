-- Homomorphisms as rows, and a basis of them.
use Rattle.std.proofs.Common.{ℕ, ◌≤◌, ◌≡◌, inl, inr, sym, ap, ap₂, ◌∙◌}
use Rattle.std.proofs.lemmas.Bool.{cases_lt}
use Rattle.linear_algebra.specs.Field.{Gf}
use Rattle.linear_algebra.specs.Matrix.{Mat, Row, zeros, ◌⊞◌, ◌⊟◌, ◌⊙◌, negative, ◌·◌}
use Rattle.linear_algebra.specs.LinearMaps.{IsLinear}
use Rattle.linear_algebra.specs.Solutions.{flatten_all, unflatten_all}
use Rattle.linear_algebra.proofs.MatrixLaws.{add_swap_mat, difference, negative_sum, mul_add_mat, add_mul_mat, mul_scale, scale_mul, scale_add, scale_negative, sub_eq_zeros, sub_self_mat}
use Rattle.linear_algebra.proofs.Blocks.{no_rows_zeros}
use Rattle.linear_algebra.proofs.Solutions.{unflatten_flatten_all, flatten_unflatten_all, flatten_all-same, flatten_all-sum, flatten_all-scale, solution_basis}
use Rattle.representations.specs.Quiver.{Quiver}
use Rattle.representations.specs.Rep.{Rep}
use Rattle.representations.specs.Hom.{Hom, Hom-eq, ◌⊕◌, multiple, ◌≫◌}
use Rattle.representations.proofs.MatrixExtras.{flatten_all-zeros}
use Rattle.representations.proofs.Homs.{compose_sum, sum_compose, compose_multiple, multiple_compose}
unfoldable pub use Rattle.representations.specs.HomSpace.{unflat, defect, defects}
pub use Rattle.representations.specs.HomSpace.{equations}
use Rattle.representations.specs.HomSpace.{unknowns, flat, HomBasis}

module _ {q : Gf} {Q : Quiver} where
  -- Past the last vertex, and past the last arrow, there is one matrix.
  pub past_vertices : (X Y : Rep q Q) (v : ℕ) → Q.vertices ≤ v → (a b : Mat q (X.dim v) (Y.dim v)) → a ≡ b
  past_vertices X Y v h a b = no_rows_zeros (X.past v h) a ∙ sym (no_rows_zeros (X.past v h) b)

  pub past_arrows : (X Y : Rep q Q) (a : ℕ) → Q.arrows ≤ a → (m n : Mat q (X.dim (Q.source a)) (Y.dim (Q.target a))) → m ≡ n
  past_arrows X Y a h m n = no_rows_zeros (X.past (Q.source a) (Q.source_past a h)) m ∙ sym (no_rows_zeros (X.past (Q.source a) (Q.source_past a h)) n)

module _ {q : Gf} {Q : Quiver} (X Y : Rep q Q) where
  pub unflat_of : (f : (v : ℕ) → Mat q (X.dim v) (Y.dim v)) (v : ℕ) → unflat X Y (flatten_all Q.vertices X.dim Y.dim f) v ≡ f v
  unfolding unflat
  unflat_of f v = elim (cases_lt v Q.vertices) [
    | inl h ↦ unflatten_flatten_all Q.vertices X.dim Y.dim f v h
    | inr h ↦ past_vertices X Y v h _ _
  ]

  pub flat_of : (x : Row q (unknowns X Y)) → flatten_all Q.vertices X.dim Y.dim (unflat X Y x) ≡ x
  unfolding unflat
  flat_of x = flatten_unflatten_all Q.vertices X.dim Y.dim x

  pub unflat-sum : (x y : Row q (unknowns X Y)) (v : ℕ) → unflat X Y (x ⊞ y) v ≡ unflat X Y x v ⊞ unflat X Y y v
  unflat-sum x y v =
      ap (λ z. unflat X Y z v) (ap₂ (λ a b. a ⊞ b) (sym (flat_of x)) (sym (flat_of y)) ∙ sym (flatten_all-sum Q.vertices X.dim Y.dim (unflat X Y x) (unflat X Y y)))
      ∙ unflat_of (λ v. unflat X Y x v ⊞ unflat X Y y v) v

  pub unflat-scale : (c : ℕ) (x : Row q (unknowns X Y)) (v : ℕ) → unflat X Y (c ⊙ x) v ≡ c ⊙ unflat X Y x v
  unflat-scale c x v =
      ap (λ z. unflat X Y z v) (ap (λ z. c ⊙ z) (sym (flat_of x)) ∙ sym (flatten_all-scale Q.vertices X.dim Y.dim c (unflat X Y x)))
      ∙ unflat_of (λ v. c ⊙ unflat X Y x v) v

  defect-sum : (x y : Row q (unknowns X Y)) (a : ℕ) → defect X Y (x ⊞ y) a ≡ defect X Y x a ⊞ defect X Y y a
  unfolding defect
  defect-sum x y a =
      ap₂ (λ u w. X.mat a · u ⊟ w · Y.mat a) (unflat-sum x y (Q.target a)) (unflat-sum x y (Q.source a))
      ∙ differences _ _ _ _ (mul_add_mat (X.mat a) (unflat X Y x (Q.target a)) (unflat X Y y (Q.target a))) (add_mul_mat (unflat X Y x (Q.source a)) (unflat X Y y (Q.source a)) (Y.mat a))
    where
      differences : {m n : ℕ} {p s : Mat q m n} (a b c d : Mat q m n) → p ≡ a ⊞ b → s ≡ c ⊞ d → p ⊟ s ≡ (a ⊟ c) ⊞ (b ⊟ d)
      differences a b c d e f =
          ap₂ (λ u w. u ⊟ w) e f ∙ difference (a ⊞ b) (c ⊞ d) ∙ ap (λ z. (a ⊞ b) ⊞ z) (negative_sum c d)
          ∙ add_swap_mat a b (negative c) (negative d) ∙ sym (ap₂ (λ u w. u ⊞ w) (difference a c) (difference b d))

  defect-scale : (c : ℕ) (x : Row q (unknowns X Y)) (a : ℕ) → defect X Y (c ⊙ x) a ≡ c ⊙ defect X Y x a
  unfolding defect
  defect-scale c x a =
      ap₂ (λ u w. X.mat a · u ⊟ w · Y.mat a) (unflat-scale c x (Q.target a)) (unflat-scale c x (Q.source a))
      ∙ multiples _ _ (mul_scale c (X.mat a) (unflat X Y x (Q.target a))) (scale_mul c (unflat X Y x (Q.source a)) (Y.mat a))
    where
      multiples : {m n : ℕ} {p s : Mat q m n} (a b : Mat q m n) → p ≡ c ⊙ a → s ≡ c ⊙ b → p ⊟ s ≡ c ⊙ (a ⊟ b)
      multiples a b e f =
          ap₂ (λ u w. u ⊟ w) e f ∙ difference (c ⊙ a) (c ⊙ b) ∙ ap (λ z. c ⊙ a ⊞ z) (sym (scale_negative c b))
          ∙ sym (scale_add c a (negative b)) ∙ ap (λ z. c ⊙ z) (sym (difference a b))

  pub defects_linear : IsLinear (defects X Y)
  unfolding defects
  defects_linear = record {
    sum = λ x y.
        flatten_all-same Q.arrows (λ a. X.dim (Q.source a)) (λ a. Y.dim (Q.target a)) _ (λ a. defect X Y x a ⊞ defect X Y y a) (λ a h. defect-sum x y a)
        ∙ flatten_all-sum Q.arrows (λ a. X.dim (Q.source a)) (λ a. Y.dim (Q.target a)) (defect X Y x) (defect X Y y);
    multiple = λ c x.
        flatten_all-same Q.arrows (λ a. X.dim (Q.source a)) (λ a. Y.dim (Q.target a)) _ (λ a. c ⊙ defect X Y x a) (λ a h. defect-scale c x a)
        ∙ flatten_all-scale Q.arrows (λ a. X.dim (Q.source a)) (λ a. Y.dim (Q.target a)) c (defect X Y x);
  }

  -- Rows without defects are homomorphisms.
  pub no_defect : (x : Row q (unknowns X Y)) → defects X Y x ≡ zeros q 1 (equations X Y) → (a : ℕ) → defect X Y x a ≡ zeros q (X.dim (Q.source a)) (Y.dim (Q.target a))
  unfolding defects
  no_defect x e a = elim (cases_lt a Q.arrows) [
    | inl h ↦
        sym (unflatten_flatten_all Q.arrows (λ a. X.dim (Q.source a)) (λ a. Y.dim (Q.target a)) (defect X Y x) a h)
        ∙ ap (λ z. unflatten_all Q.arrows (λ a. X.dim (Q.source a)) (λ a. Y.dim (Q.target a)) z a) (e ∙ sym (flatten_all-zeros q Q.arrows (λ a. X.dim (Q.source a)) (λ a. Y.dim (Q.target a))))
        ∙ unflatten_flatten_all Q.arrows (λ a. X.dim (Q.source a)) (λ a. Y.dim (Q.target a)) (λ a. zeros q (X.dim (Q.source a)) (Y.dim (Q.target a))) a h
    | inr h ↦ past_arrows X Y a h _ _
  ]

  unfoldable pub hom_of : (x : Row q (unknowns X Y)) → defects X Y x ≡ zeros q 1 (equations X Y) → Hom X Y
  unfolding defect
  hom_of x e = record { at = unflat X Y x; square = λ a. sub_eq_zeros (X.mat a · unflat X Y x (Q.target a)) (unflat X Y x (Q.source a) · Y.mat a) (no_defect x e a) }

  pub flat-hom_of : (x : Row q (unknowns X Y)) (e : defects X Y x ≡ zeros q 1 (equations X Y)) → flat (hom_of x e) ≡ x
  unfolding hom_of flat
  flat-hom_of x e = flat_of x

  pub hom_defects : (f : Hom X Y) → defects X Y (flat f) ≡ zeros q 1 (equations X Y)
  unfolding defects defect flat
  hom_defects f =
      flatten_all-same Q.arrows (λ a. X.dim (Q.source a)) (λ a. Y.dim (Q.target a)) _ (λ a. zeros q (X.dim (Q.source a)) (Y.dim (Q.target a)))
      (λ a h.
      ap₂ (λ u w. X.mat a · u ⊟ w · Y.mat a) (unflat_of f.at (Q.target a)) (unflat_of f.at (Q.source a))
      ∙ ap (λ z. z ⊟ f.at (Q.source a) · Y.mat a) (f.square a) ∙ sub_self_mat (f.at (Q.source a) · Y.mat a))
      ∙ flatten_all-zeros q Q.arrows (λ a. X.dim (Q.source a)) (λ a. Y.dim (Q.target a))

  -- A homomorphism is given by its row.
  pub unflat-flat : (f : Hom X Y) (v : ℕ) → unflat X Y (flat f) v ≡ f.at v
  unfolding flat
  unflat-flat f v = unflat_of f.at v

  pub flat_injective : (f g : Hom X Y) → flat f ≡ flat g → f ≡ g
  flat_injective f g e = Hom-eq f g (λ v. sym (unflat-flat f v) ∙ ap (λ z. unflat X Y z v) e ∙ unflat-flat g v)

  pub flat-sum : (f g : Hom X Y) → flat (f ⊕ g) ≡ flat f ⊞ flat g
  unfolding flat ◌⊕◌
  flat-sum f g = flatten_all-sum Q.vertices X.dim Y.dim f.at g.at

  pub flat-multiple : (c : ℕ) (f : Hom X Y) → flat (multiple c f) ≡ c ⊙ flat f
  unfolding flat multiple
  flat-multiple c f = flatten_all-scale Q.vertices X.dim Y.dim c f.at

  -- The homomorphisms have a basis in reduced row form.
  pub hom_basis : HomBasis X Y
  hom_basis =
      let S = solution_basis (defects X Y) defects_linear in
      record {
        size = S.size;
        basis = S.basis;
        pivot = S.pivot;
        reduced = S.reduced;
        hom = λ c. hom_of (c · S.basis) (S.solves c);
        hom_flat = λ c. flat-hom_of (c · S.basis) (S.solves c);
        spans = λ f. S.spans (flat f) (hom_defects f);
        once = S.once;
      }

-- Coordinates in a basis of the homomorphisms; they are linear, and determine the homomorphism.
module _ {q : Gf} {Q : Quiver} {X Y : Rep q Q} (B : HomBasis X Y) where
  pub coordinates : Hom X Y → Row q B.size
  coordinates f = (B.spans f).by

  pub hom-coordinates : (f : Hom X Y) → B.hom (coordinates f) ≡ f
  unfolding coordinates
  hom-coordinates f = flat_injective X Y (B.hom (B.spans f).by) f (B.hom_flat (B.spans f).by ∙ (B.spans f).is)

  pub coordinates-hom : (c : Row q B.size) → coordinates (B.hom c) ≡ c
  unfolding coordinates
  coordinates-hom c = B.once (B.spans (B.hom c)).by c ((B.spans (B.hom c)).is ∙ B.hom_flat c)

  pub coordinates-sum : (f g : Hom X Y) → coordinates (f ⊕ g) ≡ coordinates f ⊞ coordinates g
  unfolding coordinates
  coordinates-sum f g = B.once (B.spans (f ⊕ g)).by ((B.spans f).by ⊞ (B.spans g).by)
      ((B.spans (f ⊕ g)).is ∙ flat-sum X Y f g ∙ sym (ap₂ (λ a b. a ⊞ b) (B.spans f).is (B.spans g).is) ∙ sym (add_mul_mat (B.spans f).by (B.spans g).by B.basis))

  pub coordinates-multiple : (c : ℕ) (f : Hom X Y) → coordinates (multiple c f) ≡ c ⊙ coordinates f
  unfolding coordinates
  coordinates-multiple c f = B.once (B.spans (multiple c f)).by (c ⊙ (B.spans f).by)
      ((B.spans (multiple c f)).is ∙ flat-multiple X Y c f ∙ sym (ap (λ a. c ⊙ a) (B.spans f).is) ∙ sym (scale_mul c (B.spans f).by B.basis))

pub hom_sum : {q : Gf} {Q : Quiver} {X Y : Rep q Q} (B : HomBasis X Y) (c d : Row q B.size) → B.hom (c ⊞ d) ≡ B.hom c ⊕ B.hom d
hom_sum {X = X} {Y = Y} B c d = flat_injective X Y (B.hom (c ⊞ d)) (B.hom c ⊕ B.hom d)
    (B.hom_flat (c ⊞ d) ∙ add_mul_mat c d B.basis ∙ sym (ap₂ (λ a b. a ⊞ b) (B.hom_flat c) (B.hom_flat d)) ∙ sym (flat-sum X Y (B.hom c) (B.hom d)))

pub hom_scale : {q : Gf} {Q : Quiver} {X Y : Rep q Q} (B : HomBasis X Y) (n : ℕ) (c : Row q B.size) → B.hom (n ⊙ c) ≡ multiple n (B.hom c)
hom_scale {X = X} {Y = Y} B n c = flat_injective X Y (B.hom (n ⊙ c)) (multiple n (B.hom c))
    (B.hom_flat (n ⊙ c) ∙ scale_mul n c B.basis ∙ sym (ap (λ a. n ⊙ a) (B.hom_flat c)) ∙ sym (flat-multiple X Y n (B.hom c)))

-- Products of basis members: in coordinates composition is linear in each factor.
pub compose_linear_left : {q : Gf} {Q : Quiver} {X Y Z : Rep q Q} (B : HomBasis X Y) (C : HomBasis X Z) (g : Hom Y Z) → IsLinear (λ (c : Row q B.size). coordinates C (B.hom c ≫ g))
compose_linear_left {X = X} {Y = Y} B C g = record {
  sum = λ c d. ap (λ f. coordinates C (f ≫ g)) (hom_sum B c d) ∙ ap (coordinates C) (sum_compose (B.hom c) (B.hom d) g) ∙ coordinates-sum C (B.hom c ≫ g) (B.hom d ≫ g);
  multiple = λ n c. ap (λ f. coordinates C (f ≫ g)) (hom_scale B n c) ∙ ap (coordinates C) (multiple_compose n (B.hom c) g) ∙ coordinates-multiple C n (B.hom c ≫ g);
}

pub compose_linear_right : {q : Gf} {Q : Quiver} {X Y Z : Rep q Q} (B : HomBasis Y Z) (C : HomBasis X Z) (f : Hom X Y) → IsLinear (λ (c : Row q B.size). coordinates C (f ≫ B.hom c))
compose_linear_right B C f = record {
  sum = λ c d. ap (λ g. coordinates C (f ≫ g)) (hom_sum B c d) ∙ ap (coordinates C) (compose_sum f (B.hom c) (B.hom d)) ∙ coordinates-sum C (f ≫ B.hom c) (f ≫ B.hom d);
  multiple = λ n c. ap (λ g. coordinates C (f ≫ g)) (hom_scale B n c) ∙ ap (coordinates C) (compose_multiple n f (B.hom c)) ∙ coordinates-multiple C n (f ≫ B.hom c);
}
