-- Answers on lists of conditions, and the shapes that terms and rows have.
use Rattle.std.proofs.Common.{ℕ, suc, ◌≡◌, ◌<◌, List, ◌∷◌, length, sym, ap, ◌∙◌, arith, subst}
use Rattle.std.specs.Prelude.{slice_index_or, Option, None, Some}
use Rattle.std.proofs.lemmas.List.{get_or_default}
use Rattle.fp_linear.specs.Matrix.{PlainMatrix}
use Rattle.quiver_paths.specs.declared.Path.{Path}
use Rattle.quiver_paths.specs.Quiver.{vertex_count}
use Rattle.path_algebra.specs.declared.Header.{Header}
use Rattle.representations.specs.Quiver.{opposite}
use Rattle.bound_algebra.specs.TypedPaths.{quiver_of}
use Rattle.module_types.specs.declared.Side.{Side}
use Rattle.module_types.specs.declared.Side.TheVariants.{Right, Left}
use Rattle.module_types.specs.declared.Module.{Module}
use Rattle.module_types.specs.declared.TermRows.{TermRows}
use Rattle.module_types.specs.Algebras.{algebra_at}
use Rattle.module_types.specs.Readings.{dim_at}
use Rattle.module_types.specs.Shapes.{AreMatrices}
use Rattle.claim_conditions.specs.declared.Clause.{Clause}
use Rattle.claim_conditions.specs.Conditions.{Condition, IsAnswer}
use Rattle.claim_conditions.specs.Terms.{term_at, vertices_at}
use Rattle.term_rows.specs.SumDims.{AreTerms, sum_dim}
use Rattle.translate_checks.specs.Across.{IsPresentation}
use Rattle.translate_checks.specs.Room.{AreSmallAcross}

-- an answer behind a condition that holds
pub answer_behind : (c : Condition) (rest : List Condition) (r : Option Clause) → c.holds → IsAnswer rest r → IsAnswer (c ∷ rest) r
answer_behind c rest None p a = (p, a)
answer_behind c rest (Some which) p a = (suc a.0, (p, a.1))

pub term_there : (terms : List TermRows) (k : ℕ) (t : TermRows) → t ≡ slice_index_or terms k t → k < length terms → t ≡ term_at terms k
term_there terms k t e l = e ∙ get_or_default terms k t _ l

pub is_presentation : (words : List Path) (h : Header) (a : Module) (terms : List TermRows) (cover syzygy : TermRows) → cover ≡ term_at terms 0 → syzygy ≡ term_at terms 1 → AreTerms words h a terms 2 → AreSmallAcross words h a.side terms
    → IsPresentation words h a.side cover.vertices syzygy
is_presentation words h a terms cover syzygy ce se T S =
    subst (λ (t : TermRows). IsPresentation words h a.side t.vertices syzygy) (sym ce) (subst (IsPresentation words h a.side (vertices_at terms 0)) (sym se) (record {
      vertices = record { declared = (T.each 0 (omega arith)).declared };
      term = T.each 1 (omega arith);
      small = S.cover;
      cover_small = S.cover_across;
      syzygy_small = S.syzygy_across;
    }))

-- matrices at the vertices of a side, and of the other
module _ (h : Header) (side : Side) (dims : List ℕ) (size : ℕ → ℕ) (rows : List PlainMatrix) where
  pub sided_rows : (vs : ℕ → ℕ) → ((w : ℕ) → size w ≡ vs w) → AreMatrices h.field (vertex_count h.quiver) (dim_at (quiver_of h.quiver) dims) size rows → AreMatrices h.field (algebra_at side h).quiver.vertices (dim_at (algebra_at side h).quiver dims) vs rows
  unfolding dim_at
  sided_rows vs e M = by side
    where
      by : (s : Side) → AreMatrices h.field (algebra_at s h).quiver.vertices (dim_at (algebra_at s h).quiver dims) vs rows
      by Right = record { counted = M.counted; each = λ i a l. let s = M.each i a l in record { matrix = s.matrix; field = s.field; row_count = s.row_count; col_count = s.col_count ∙ e i } }
      by Left = record { counted = M.counted; each = λ i a l. let s = M.each i a l in record { matrix = s.matrix; field = s.field; row_count = s.row_count; col_count = s.col_count ∙ e i } }

  pub sided_columns : (vs : ℕ → ℕ) → ((w : ℕ) → size w ≡ vs w) → AreMatrices h.field (vertex_count h.quiver) size (dim_at (quiver_of h.quiver) dims) rows
      → AreMatrices h.field (algebra_at side h).quiver.vertices vs (dim_at (opposite (algebra_at side h).quiver) dims) rows
  unfolding dim_at
  sided_columns vs e M = by side
    where
      by : (s : Side) → AreMatrices h.field (algebra_at s h).quiver.vertices vs (dim_at (opposite (algebra_at s h).quiver) dims) rows
      by Right = record { counted = M.counted; each = λ i a l. let s = M.each i a l in record { matrix = s.matrix; field = s.field; row_count = s.row_count ∙ e i; col_count = s.col_count } }
      by Left = record { counted = M.counted; each = λ i a l. let s = M.each i a l in record { matrix = s.matrix; field = s.field; row_count = s.row_count ∙ e i; col_count = s.col_count } }

pub sum_of_vertices : (words : List Path) (side : Side) (terms : List TermRows) (t : TermRows) → t ≡ term_at terms 1 → (w : ℕ) → sum_dim words side (vertices_at terms 1) w ≡ sum_dim words side t.vertices w
sum_of_vertices words side terms t e w = ap (λ (t : TermRows). sum_dim words side t.vertices w) (sym e)
