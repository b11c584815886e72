-- Representations that are written as modules: the projective and the injective ones.
use Rattle.std.proofs.Common.{ℕ, ◌<◌, ◌≤◌, ◌≡◌, List, [], refl, sym, ap, ◌∙◌, subst}
use Rattle.std.specs.Prelude.{slice_index_or}
use Rattle.linear_algebra.specs.Field.{Gf}
use Rattle.linear_algebra.specs.BlockFamilies.{total}
use Rattle.linear_algebra.specs.Rows.{list_of, transposed}
use Rattle.linear_algebra.specs.Matrix.{Mat, transpose}
use Rattle.linear_algebra.specs.MatrixLaws.{transpose-at}
use Rattle.linear_algebra.specs.Typed.{grid_of}
use Rattle.linear_algebra.proofs.BlockFamilies.{total-same}
use Rattle.linear_algebra.proofs.Rows.{get_or-list_of, list_of-same}
use Rattle.linear_algebra.proofs.Typed.{entry-grid_of}
use Rattle.fp_linear.specs.Matrix.{PlainMatrix, plain}
use Rattle.quiver_paths.specs.declared.Path.{Path}
use Rattle.quiver_paths.specs.Quiver.{vertex_count, arrow_count}
use Rattle.path_algebra.specs.declared.Header.{Header}
use Rattle.alg_table.specs.TableView.{IsTable}
use Rattle.representations.specs.Quiver.{Quiver}
use Rattle.representations.specs.Rep.{Rep, IsMod}
use Rattle.representations.specs.Dual.{dual}
use Rattle.projectives.specs.Words.{projective}
use Rattle.projectives.specs.TwoSided.{other}
use Rattle.projectives.proofs.TwoSided.{IsMod-dual_back}
use Rattle.bound_algebra.proofs.TwoSidedBasis.{two_sided}
use Rattle.bound_tables.specs.TableSides.{table_sides}
use Rattle.module_types.specs.declared.Side.{Side}
use Rattle.module_types.specs.declared.Side.TheVariants.{Right, Left}
use Rattle.module_types.specs.declared.Module.{Module}
use Rattle.module_types.specs.Algebras.{other_side, algebra_at, sided_words}
use Rattle.module_types.specs.Readings.{IsModuleOver}
use Rattle.module_types.specs.Shapes.{IsModule}
use Rattle.module_types.specs.Written.{written}
use Rattle.module_types.proofs.Written.{rep_of-written, written-shape}
use Rattle.term_rows.specs.SumDims.{count_to}
use Rattle.term_rows.proofs.SumSteps.{count_is}
use Rattle.standard_modules.specs.StandardModules.{projective_dim, injective_dim, projective_rep, injective_rep, injective_at, matrix_of_arrow}

-- as many vertices and arrows on both sides
pub vertices_at : (side : Side) (h : Header) → (algebra_at side h).quiver.vertices ≡ vertex_count h.quiver
vertices_at Right h = refl
vertices_at Left h = refl

pub arrows_at : (side : Side) (h : Header) → (algebra_at side h).quiver.arrows ≡ arrow_count h.quiver
arrows_at Right h = refl
arrows_at Left h = refl

-- The lists of what is written.
pub by_lists : {q : Gf} {Q : Quiver} (side : Side) (X : Rep q Q) (m : Module) (dims : List ℕ) (matrices : List PlainMatrix) (n k : ℕ)
    → m ≡ record { side = side; dims = dims; matrices = matrices } → n ≡ Q.vertices → k ≡ Q.arrows → dims ≡ list_of n X.dim → matrices ≡ list_of k (matrix_of_arrow X) → m ≡ written side X
by_lists {q} {Q} side X m dims matrices n k is v a d e =
    is ∙ (λ i. record { side = side; dims = (d ∙ ap (λ n. list_of n X.dim) v) i; matrices = (e ∙ ap (λ k. list_of k (matrix_of_arrow X)) a) i })

-- A module of the algebra that is small enough, written.
module _ (h : Header) (side : Side) (X : Rep h.field (algebra_at side h).quiver) (m : Module) (e : m ≡ written side X) where
  pub written_shape : total (vertex_count h.quiver) X.dim ≤ 256 → IsModule h.field (algebra_at m.side h).quiver m
  written_shape small =
      subst (λ (m : Module). IsModule h.field (algebra_at m.side h).quiver m) (sym e) (written-shape side X (subst (λ n. total n X.dim ≤ 256) (sym (vertices_at side h)) small))

  pub written_over : IsMod (algebra_at side h) X → IsModuleOver h m
  written_over M = subst (IsModuleOver h) (sym e) (subst (IsMod (algebra_at side h)) (sym (rep_of-written side X)) M)

injective_by_side : (h : Header) (words : List Path) (t : IsTable h words) (side : Side) (v w : ℕ) → (injective_rep h words t side v).dim w ≡ count_to words (other_side side) v w
unfolding two_sided
injective_by_side h words t Right v w = refl
injective_by_side h words t Left v w = refl

module _ (h : Header) (words : List Path) (t : IsTable h words) (side : Side) (v : ℕ) where
  pub projective_dims : (w : ℕ) → (projective_rep h words t side v).dim w ≡ count_to words side v w
  projective_dims w = count_is h words t side v w

  pub projective_total : total (vertex_count h.quiver) (projective_rep h words t side v).dim ≡ projective_dim h words side v
  projective_total = total-same (vertex_count h.quiver) _ _ (λ w l. projective_dims w)

  pub projective_over : IsMod (algebra_at side h) (projective_rep h words t side v)
  projective_over = (sided_words side (table_sides h words t)).basis.modules v

  pub injective_dims : (w : ℕ) → (injective_rep h words t side v).dim w ≡ count_to words (other_side side) v w
  injective_dims w = injective_by_side h words t side v w

  pub injective_total : total (vertex_count h.quiver) (injective_rep h words t side v).dim ≡ injective_dim h words side v
  injective_total = total-same (vertex_count h.quiver) _ _ (λ w l. injective_dims w)

  pub injective_over : IsMod (algebra_at side h) (injective_rep h words t side v)
  injective_over = IsMod-dual_back (algebra_at side h) (projective (other (sided_words side (table_sides h words t))) v) ((sided_words side (table_sides h words t)).opposite_basis.modules v)

-- The dual of the projective module of the other side.
pub dual_is_injective : (h : Header) (words : List Path) (t : IsTable h words) (side : Side) (v : ℕ)
    → written (other_side (other_side side)) (dual (projective_rep h words t (other_side side) v)) ≡ injective_at h words t side v
dual_is_injective h words t Right v = refl
dual_is_injective h words t Left v = refl

-- Transposed matrices.
turned : {q : Gf} {m n : ℕ} (a : Mat q m n) → transposed m n (grid_of a) ≡ grid_of (transpose a)
unfolding transposed grid_of
turned {q} {m} {n} a = list_of-same n _ _ [] (λ j l. list_of-same m _ _ 0 (λ i k. entry-grid_of a i j ∙ sym (transpose-at a j i)))

pub transposed_at : {q : Gf} {Q : Quiver} (side : Side) (X : Rep q Q) (m : Module) → m ≡ written side X → (a : ℕ) (p r : PlainMatrix) → a < Q.arrows → p ≡ slice_index_or m.matrices a p
    → r ≡ plain p.field p.col_count p.row_count (transposed p.row_count p.col_count p.rows) → r ≡ matrix_of_arrow (dual X) a
transposed_at {q} {Q} side X m e a p r l at is =
    is ∙ ap (λ (p : PlainMatrix). plain p.field p.col_count p.row_count (transposed p.row_count p.col_count p.rows)) (at ∙ ap (λ (m : Module). slice_index_or m.matrices a p) e ∙ get_or-list_of Q.arrows (matrix_of_arrow X) a p l)
    ∙ ap (plain q (X.dim (Q.target a)) (X.dim (Q.source a))) (turned (X.mat a))
