-- The matrices at an arrow and at its ends.
use Rattle.std.proofs.Common.{ℕ, ◌<◌, ◌≤◌, ◌≡◌, List, ap, ◌∙◌, refl, arith, subst}
use Rattle.std.specs.Prelude.{slice_index_or, length}
use Rattle.linear_algebra.specs.Field.{Gf}
use Rattle.linear_algebra.specs.Rows.{IsGrid}
use Rattle.linear_algebra.proofs.RowForm.{reduced_independent}
use Rattle.linear_algebra.proofs.KernelsBySize.{coreduced_surjective}
use Rattle.linear_algebra.proofs.Steinitz.{steinitz}
use Rattle.fp_linear.specs.Matrix.{PlainMatrix, plain}
use Rattle.quiver_paths.specs.Quiver.{arrow_count, vertex_count}
use Rattle.path_algebra.specs.declared.Header.{Header}
use Rattle.path_algebra.specs.Allowed.{IsAllowed}
use Rattle.representations.specs.Quiver.{Quiver}
use Rattle.module_types.specs.declared.Side.{Side}
use Rattle.module_types.specs.declared.Side.TheVariants.{Right, Left}
use Rattle.module_types.specs.declared.Module.{Module}
use Rattle.module_types.specs.Algebras.{algebra_at}
use Rattle.module_types.specs.Readings.{dim_at, rows_at, read}
use Rattle.module_types.specs.Shapes.{IsModule, AreMatrices}
use Rattle.module_types.proofs.Written.{dim_at-dimension}
use Rattle.module_checks.proofs.Sides.{arrows_at, source_inside, target_inside}
use Rattle.module_operations.specs.VertexSpaces.{basis_at, projection_at, AreSubspaces, AreQuotients, space_dim, quotient_dim}
use Rattle.module_operations.proofs.ListedMatrices.{found, found_matrix}
use Rattle.module_operations.proofs.Restrictions.{AreInside}
use Rattle.module_operations.proofs.Inductions.{AreVanishing}

pub vertices_at : (side : Side) (h : Header) → (algebra_at side h).quiver.vertices ≡ vertex_count h.quiver
vertices_at Right h = refl
vertices_at Left h = refl

-- A listed matrix over the field has its rows as a grid.
pub listed_grid : (q : Gf) (count : ℕ) (rows columns : ℕ → ℕ) (matrices : List PlainMatrix) → AreMatrices q count rows columns matrices → (v : ℕ) → v < count → (a : PlainMatrix) → a ≡ slice_index_or matrices v a
    → IsGrid q (rows v) (columns v) (rows_at matrices v)
listed_grid q count rows columns matrices M v l a e =
    let is = found q count rows columns matrices M v a l e in
    subst (λ (m : PlainMatrix). IsGrid m.field m.row_count m.col_count m.rows) is (found_matrix q count rows columns matrices M v a l e).grid

-- What stands at a place stands there for each that it may be compared with.
pub found_at : (q : Gf) (count : ℕ) (rows columns : ℕ → ℕ) (matrices : List PlainMatrix) → AreMatrices q count rows columns matrices → (v w : ℕ) (a : PlainMatrix) → v ≡ w → w < count → a ≡ slice_index_or matrices v a
    → a ≡ plain q (rows w) (columns w) (rows_at matrices w)
found_at q count rows columns matrices M v w a e l f = found q count rows columns matrices M w a l (f ∙ ap (λ (v : ℕ). slice_index_or matrices v a) e)

module _ (h : Header) (a : Module) (allowed : IsAllowed h) (shape : IsModule h.field (algebra_at a.side h).quiver a) (r : ℕ) (l : r < arrow_count h.quiver) where
  abbrev Q : Quiver
  Q = (algebra_at a.side h).quiver

  pub source_below : Q.source r < Q.vertices
  source_below = source_inside a.side h allowed.quiver.ends r l

  pub target_below : Q.target r < Q.vertices
  target_below = target_inside a.side h allowed.quiver.ends r l

  pub arrow_below : r < Q.arrows
  arrow_below = let e = arrows_at a.side h in omega arith

  pub few_dim : (v : ℕ) → dim_at Q a.dims v ≤ 256
  few_dim v = let d = dim_at-dimension Q a.dims v shape.counted in let m = shape.small in omega arith

  pub arrow_matrix : (m : PlainMatrix) → m ≡ slice_index_or a.matrices r m → m ≡ plain h.field (dim_at Q a.dims (Q.source r)) (dim_at Q a.dims (Q.target r)) (rows_at a.matrices r)
  arrow_matrix m e = found h.field Q.arrows _ _ a.matrices shape.matrices r m arrow_below e

  pub arrow_grid : (m : PlainMatrix) → m ≡ slice_index_or a.matrices r m → IsGrid h.field (dim_at Q a.dims (Q.source r)) (dim_at Q a.dims (Q.target r)) (rows_at a.matrices r)
  arrow_grid m e = listed_grid h.field Q.arrows _ _ a.matrices shape.matrices r arrow_below m e

  module _ (bases : List PlainMatrix) (S : AreSubspaces (read h a) bases) where
    pub source_basis : (v : ℕ) (m : PlainMatrix) → v ≡ Q.source r → m ≡ slice_index_or bases v m → m ≡ plain h.field (space_dim (read h a) bases (Q.source r)) (dim_at Q a.dims (Q.source r)) (rows_at bases (Q.source r))
    source_basis v m e f = found_at h.field Q.vertices _ _ bases S.matrices v (Q.source r) m e source_below f

    pub target_basis : (v : ℕ) (m : PlainMatrix) → v ≡ Q.target r → m ≡ slice_index_or bases v m → m ≡ plain h.field (space_dim (read h a) bases (Q.target r)) (dim_at Q a.dims (Q.target r)) (rows_at bases (Q.target r))
    target_basis v m e f = found_at h.field Q.vertices _ _ bases S.matrices v (Q.target r) m e target_below f

    pub is_inside : (v : ℕ) (s m : PlainMatrix) → v ≡ Q.source r → s ≡ slice_index_or bases v s → m ≡ slice_index_or a.matrices r m
        → AreInside h.field (space_dim (read h a) bases (Q.source r)) (dim_at Q a.dims (Q.source r)) (dim_at Q a.dims (Q.target r)) (space_dim (read h a) bases (Q.target r))
        (rows_at bases (Q.source r)) (rows_at a.matrices r) (rows_at bases (Q.target r))
    is_inside v s m e f g = record {
      source = listed_grid h.field Q.vertices _ _ bases S.matrices (Q.source r) source_below s (f ∙ ap (λ (v : ℕ). slice_index_or bases v s) e);
      along = arrow_grid m g;
      reduced = S.reduced (Q.target r) target_below;
      inside = S.stable r arrow_below;
    }

    -- a place of the list
    pub in_bases : (v : ℕ) → v < Q.vertices → v < length bases
    in_bases v b = let c = S.matrices.counted in omega arith

    -- A basis in reduced row form has no more rows than the dimension, which is at most 256.
    pub few_space : (v : ℕ) → v < Q.vertices → space_dim (read h a) bases v ≤ 256
    few_space v b =
        let r = S.reduced v b in
        let i = reduced_independent (basis_at (read h a) bases v) r.0 r.1 in
        let few = steinitz (basis_at (read h a) bases v) i.inverse i.is in
        let small = few_dim v in
        omega arith

  module _ (projections : List PlainMatrix) (S : AreQuotients (read h a) projections) where
    pub source_projection : (v : ℕ) (m : PlainMatrix) → v ≡ Q.source r → m ≡ slice_index_or projections v m → m ≡ plain h.field (dim_at Q a.dims (Q.source r)) (quotient_dim (read h a) projections (Q.source r)) (rows_at projections (Q.source r))
    source_projection v m e f = found_at h.field Q.vertices _ _ projections S.matrices v (Q.source r) m e source_below f

    pub target_projection : (v : ℕ) (m : PlainMatrix) → v ≡ Q.target r → m ≡ slice_index_or projections v m → m ≡ plain h.field (dim_at Q a.dims (Q.target r)) (quotient_dim (read h a) projections (Q.target r)) (rows_at projections (Q.target r))
    target_projection v m e f = found_at h.field Q.vertices _ _ projections S.matrices v (Q.target r) m e target_below f

    pub is_vanishing : (v : ℕ) (t m : PlainMatrix) → v ≡ Q.target r → t ≡ slice_index_or projections v t → m ≡ slice_index_or a.matrices r m
        → AreVanishing h.field (dim_at Q a.dims (Q.source r)) (quotient_dim (read h a) projections (Q.source r)) (dim_at Q a.dims (Q.target r)) (quotient_dim (read h a) projections (Q.target r))
        (rows_at projections (Q.source r)) (rows_at a.matrices r) (rows_at projections (Q.target r))
    is_vanishing v t m e f g = record {
      along = arrow_grid m g;
      target = listed_grid h.field Q.vertices _ _ projections S.matrices (Q.target r) target_below t (f ∙ ap (λ (v : ℕ). slice_index_or projections v t) e);
      coreduced = S.coreduced (Q.source r) source_below;
      vanishes = S.stable r arrow_below;
    }

    -- a place of the list
    pub in_projections : (v : ℕ) → v < Q.vertices → v < length projections
    in_projections v b = let c = S.matrices.counted in omega arith

    -- A co-reduced projection has no more columns than the dimension, which is at most 256.
    pub few_quotient : (v : ℕ) → v < Q.vertices → quotient_dim (read h a) projections v ≤ 256
    few_quotient v b =
        let r = S.coreduced v b in
        let i = coreduced_surjective (projection_at (read h a) projections v) r.0 r.1 in
        let few = steinitz i.inverse (projection_at (read h a) projections v) i.is in
        let small = few_dim v in
        omega arith
