-- Matrices of a list that have their shapes, one by one.
use Rattle.std.proofs.Common.{ℕ, ◌<◌, ◌≤◌, ◌≡◌, ◌+◌, List, length, get_or, inl, inr, refl, sym, ap, ◌∙◌, arith, subst}
use Rattle.std.specs.Prelude.{slice_index_or}
use Rattle.std.proofs.lemmas.Bool.{cases_eq}
use Rattle.std.proofs.lemmas.List.{get_or_default}
use Rattle.linear_algebra.specs.Field.{Gf}
use Rattle.fp_linear.specs.Matrix.{PlainMatrix}
use Rattle.quiver_paths.specs.Quiver.{vertex_count, arrow_count}
use Rattle.path_algebra.specs.declared.Header.{Header}
use Rattle.representations.specs.Quiver.{Quiver}
use Rattle.path_algebra.specs.Allowed.{IsAllowed}
use Rattle.module_types.specs.declared.Module.{Module}
use Rattle.module_types.specs.declared.Side.{Side}
use Rattle.module_types.specs.declared.Side.TheVariants.{Right, Left}
use Rattle.module_types.specs.Algebras.{algebra_at}
use Rattle.module_types.specs.Readings.{dim_at}
use Rattle.module_types.specs.Shapes.{HasShape, AreMatrices}
use Rattle.module_faults.specs.ModuleFaults.{IsSmallModule}
use Rattle.module_checks.proofs.HomRank.{dim_at-is}
use Rattle.module_checks.proofs.Sides.{source_inside, target_inside}

-- the first n of them
pub record AreUpTo (q : Gf) (n : ℕ) (rows columns : ℕ → ℕ) (matrices : List PlainMatrix) : Type 0 where
  pub each : (i : ℕ) (a : PlainMatrix) → i < n → HasShape q (rows i) (columns i) (slice_index_or matrices i a)

module _ (q : Gf) (rows columns : ℕ → ℕ) (matrices : List PlainMatrix) where
  pub none_sized : AreUpTo q 0 rows columns matrices
  none_sized = record { each = λ i a l. absurd (omega arith) }

  pub more_sized : (n r c : ℕ) (m : PlainMatrix) → n < length matrices → m ≡ slice_index_or matrices n m → r ≡ rows n → c ≡ columns n → HasShape q r c m → AreUpTo q n rows columns matrices → AreUpTo q (n + 1) rows columns matrices
  more_sized n r c m l e re ce s u = record {
    each = λ i a b. elim (cases_eq i n) [
      | inl same ↦ subst (λ i. HasShape q (rows i) (columns i) (slice_index_or matrices i a)) (sym same)
          (subst (λ z. HasShape q (rows n) (columns n) z) (e ∙ get_or_default matrices n m a l) (subst (λ r. HasShape q r (columns n) m) re (subst (λ c. HasShape q r c m) ce s)))
      | inr other ↦ u.each i a (omega arith)
    ];
  }

  pub all_sized : (count n : ℕ) → length matrices ≡ count → count ≤ n → AreUpTo q n rows columns matrices → AreMatrices q count rows columns matrices
  all_sized count n c l u = record { counted = c; each = λ i a b. u.each i a (omega arith) }

  pub one_off : (count n r c : ℕ) (m : PlainMatrix) → n < count → m ≡ slice_index_or matrices n m → r ≡ rows n → c ≡ columns n → (HasShape q r c m → ⊥) → AreMatrices q count rows columns matrices → ⊥
  one_off count n r c m l e re ce s u = s (subst (λ r. HasShape q r c m) (sym re) (subst (λ c. HasShape q (rows n) c m) (sym ce) (subst (λ z. HasShape q (rows n) (columns n) z) (sym e) (u.each n m l))))

pub vertices_at : (side : Side) (h : Header) → (algebra_at side h).quiver.vertices ≡ vertex_count h.quiver
vertices_at Right h = refl
vertices_at Left h = refl

-- a dimension that is read at a vertex
pub dim_read : (Q : Quiver) (dims : List ℕ) (v u d : ℕ) → length dims ≡ Q.vertices → u ≡ v → v < Q.vertices → d ≡ get_or dims u d → d ≡ dim_at Q dims v
dim_read Q dims v u d c e l r = r ∙ ap (λ u. get_or dims u d) e ∙ get_or_default dims v d 0 (omega arith) ∙ sym (dim_at-is Q dims v l)

-- how many rows and columns the matrix of an arrow of a module has
abbrev pub rows_for : Header → Module → ℕ → ℕ
rows_for h m a = dim_at (algebra_at m.side h).quiver m.dims ((algebra_at m.side h).quiver.source a)

abbrev pub columns_for : Header → Module → ℕ → ℕ
columns_for h m a = dim_at (algebra_at m.side h).quiver m.dims ((algebra_at m.side h).quiver.target a)

module _ (h : Header) (ok : IsAllowed h) (m : Module) (counted : length m.dims ≡ vertex_count h.quiver) (k : ℕ) (l : k < arrow_count h.quiver) where
  pub source_read : (u d : ℕ) → u ≡ (algebra_at m.side h).quiver.source k → d ≡ get_or m.dims u d → d ≡ rows_for h m k
  source_read u d e r = dim_read (algebra_at m.side h).quiver m.dims ((algebra_at m.side h).quiver.source k) u d (counted ∙ sym (vertices_at m.side h)) e (source_inside m.side h ok.quiver.ends k l) r

  pub target_read : (u d : ℕ) → u ≡ (algebra_at m.side h).quiver.target k → d ≡ get_or m.dims u d → d ≡ columns_for h m k
  target_read u d e r = dim_read (algebra_at m.side h).quiver m.dims ((algebra_at m.side h).quiver.target k) u d (counted ∙ sym (vertices_at m.side h)) e (target_inside m.side h ok.quiver.ends k l) r

  pub source_listed : (u : ℕ) → u ≡ (algebra_at m.side h).quiver.source k → u < length m.dims
  source_listed u e = let i = source_inside m.side h ok.quiver.ends k l in let v = vertices_at m.side h in omega arith

  pub target_listed : (u : ℕ) → u ≡ (algebra_at m.side h).quiver.target k → u < length m.dims
  target_listed u e = let i = target_inside m.side h ok.quiver.ends k l in let v = vertices_at m.side h in omega arith

-- the dimensions of a module of any side are as many as the vertices
pub counted_at : (side : Side) (h : Header) (m : Module) → IsSmallModule h m → length m.dims ≡ (algebra_at side h).quiver.vertices
counted_at side h m S = S.shape.counted ∙ vertices_at m.side h ∙ sym (vertices_at side h)
