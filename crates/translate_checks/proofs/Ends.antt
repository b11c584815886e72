-- The matrices of a map at the ends of an arrow, and the shapes of maps into injective modules and out of transposed projective modules.
use Rattle.std.proofs.Common.{ℕ, ◌≡◌, ◌<◌, List, refl, sym, ap, ◌∙◌, arith, subst}
use Rattle.std.specs.Prelude.{slice_index_or, length}
use Rattle.linear_algebra.specs.Field.{Gf}
use Rattle.linear_algebra.proofs.MatrixLaws.{transpose-at}
use Rattle.fp_linear.specs.Matrix.{PlainMatrix}
use Rattle.quiver_paths.specs.declared.Path.{Path}
use Rattle.quiver_paths.specs.Quiver.{vertex_count, arrow_count}
use Rattle.path_algebra.specs.declared.Header.{Header}
use Rattle.alg_table.specs.TableView.{IsTable}
use Rattle.representations.specs.Quiver.{Quiver, opposite}
use Rattle.representations.specs.Rep.{Rep}
use Rattle.module_types.specs.declared.Side.{Side}
use Rattle.module_types.specs.declared.Side.TheVariants.{Right, Left}
use Rattle.module_types.specs.declared.Module.{Module}
use Rattle.module_types.specs.Algebras.{algebra_at, other_side}
use Rattle.module_types.specs.Readings.{rep_of, dim_at, family_of}
use Rattle.module_types.specs.Shapes.{IsModule, AreMatrices}
use Rattle.module_checks.proofs.HomRank.{IsPlainOf, plain_of_shape}
use Rattle.module_checks.proofs.VertexMatrices.{member}
use Rattle.term_rows.specs.SumDims.{sum_dim}
use Rattle.translate_checks.specs.Across.{across, sum_in}
use Rattle.translate_checks.specs.Dots.{HoldsRow, HoldsColumn}
use Rattle.translate_checks.specs.Steps.{module_in, module_across, injectives_in}
use Rattle.translate_checks.proofs.AcrossRows.{dim_across, row_of_arrow}

pub vertices_at_side : (side : Side) (h : Header) → (algebra_at side h).quiver.vertices ≡ vertex_count h.quiver
vertices_at_side Right h = refl
vertices_at_side Left h = refl

pub arrows_at_side : (side : Side) (h : Header) → (algebra_at side h).quiver.arrows ≡ arrow_count h.quiver
arrows_at_side Right h = refl
arrows_at_side Left h = refl

pub source_across : (side : Side) (h : Header) (a : ℕ) → (algebra_at (other_side side) h).quiver.source a ≡ (algebra_at side h).quiver.target a
source_across Right h a = refl
source_across Left h a = refl

pub small_there : (side : Side) (h : Header) (v : ℕ) → v < (algebra_at side h).quiver.vertices → v < vertex_count h.quiver
small_there side h v l = subst (λ n. v < n) (vertices_at_side side h) l

pub sized_in : (words : List Path) (h : Header) (side other : Side) (vs : List ℕ) (a j : ℕ) → other ≡ other_side side → j < sum_dim words (other_side side) vs ((algebra_at side h).quiver.target a)
    → j < sum_dim words other vs ((algebra_at other h).quiver.source a)
sized_in words h side other vs a j e l =
    subst (λ o. j < sum_dim words o vs ((algebra_at o h).quiver.source a)) (sym e) (subst (λ v. j < sum_dim words (other_side side) vs v) (sym (source_across side h a)) l)

module _ {q : Gf} {Q : Quiver} (X Y : Rep q Q) (matrices : List PlainMatrix) (M : AreMatrices q Q.vertices X.dim Y.dim matrices) where
  pub end_there : (v u : ℕ) → u ≡ v → v < Q.vertices → u < length matrices
  end_there v u e d = let c = M.counted in omega arith

  pub end_plain : (v u : ℕ) (p : PlainMatrix) → u ≡ v → v < Q.vertices → p ≡ slice_index_or matrices u p → IsPlainOf p (family_of X Y matrices v)
  end_plain v u p e d f = subst (λ z. IsPlainOf z (family_of X Y matrices v)) (sym (f ∙ ap (λ u. slice_index_or matrices u p) e)) (member X Y matrices M v p d)

  pub end_field : (v u : ℕ) (p : PlainMatrix) → u ≡ v → v < Q.vertices → p ≡ slice_index_or matrices u p → p.field ≡ q
  end_field v u p e d f = ap (λ (z : PlainMatrix). z.field) (f ∙ ap (λ u. slice_index_or matrices u p) e) ∙ (M.each v p d).field

module _ (q : Gf) (Q : Quiver) (m : Module) (M : IsModule q Q m) (a : ℕ) (l : a < Q.arrows) (p : PlainMatrix) (e : p ≡ slice_index_or m.matrices a p) where
  pub arrow_plain : IsPlainOf p ((rep_of q Q m).mat a)
  arrow_plain = subst (λ z. IsPlainOf z ((rep_of q Q m).mat a)) (sym e) (plain_of_shape q _ _ a m.matrices p (let c = M.matrices.counted in omega (arith, c, l)) (M.matrices.each a p l))

  pub arrow_field : p.field ≡ q
  arrow_field = ap (λ (z : PlainMatrix). z.field) e ∙ (M.matrices.each a p l).field

module _ (h : Header) (words : List Path) (t : IsTable h words) (side : Side) (m : Module) (vs : List ℕ) (matrices : List PlainMatrix) where
  -- the shapes, as they are read
  pub shapes_into : AreMatrices h.field (algebra_at side h).quiver.vertices (dim_at (algebra_at side h).quiver m.dims) (sum_dim words (other_side side) vs) matrices
      → AreMatrices h.field (algebra_at side h).quiver.vertices (module_in h words t side m).dim (injectives_in h words t side vs).dim matrices
  shapes_into M = record {
    counted = M.counted;
    each = λ w p l. let s = M.each w p l in record { matrix = s.matrix; field = s.field; row_count = s.row_count; col_count = s.col_count ∙ sym (dim_across h words t side vs w) };
  }

  pub shapes_from : AreMatrices h.field (algebra_at side h).quiver.vertices (sum_dim words (other_side side) vs) (dim_at (opposite (algebra_at side h).quiver) m.dims) matrices
      → AreMatrices h.field (opposite (algebra_at side h).quiver).vertices (across h words t side vs).dim (module_across h words t side m).dim matrices
  shapes_from M = record {
    counted = M.counted;
    each = λ w p l. let s = M.each w p l in record { matrix = s.matrix; field = s.field; row_count = s.row_count ∙ sym (dim_across h words t side vs w); col_count = s.col_count };
  }

-- a row of an arrow across is a column of the same arrow on injective modules
module _ (h : Header) (words : List Path) (t : IsTable h words) (side other : Side) (vs : List ℕ) (a j : ℕ) (s : List ℕ) (e : other ≡ other_side side) (r : HoldsRow ((sum_in h words t other vs).mat a) j s) where
  pub arrow_row : HoldsRow ((across h words t side vs).mat a) j s
  arrow_row = row_of_arrow h words t side vs a j s (subst (λ o. HoldsRow ((sum_in h words t o vs).mat a) j s) e r)

  pub arrow_column : HoldsColumn ((injectives_in h words t side vs).mat a) j s
  arrow_column = record { at = λ i. arrow_row.at i ∙ sym (transpose-at ((across h words t side vs).mat a) i j) }
