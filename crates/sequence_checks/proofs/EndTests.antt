-- The conditions on the left end and on the middle of a sequence, and what is decided.
use Rattle.std.proofs.Common.{ℕ, zero, suc, ◌≡◌, ◌+◌, List, length, inl, inr, sym, ap₂, ◌∙◌, arith, subst}
use Rattle.std.specs.Prelude.{slice_index, Option, None, Some}
use Rattle.std.proofs.lemmas.Bool.{cases_eq, cases_lt}
use Rattle.linear_algebra.specs.Field.{Gf}
use Rattle.linear_algebra.specs.Ranks.{rank}
use Rattle.linear_algebra.proofs.Ranks.{rank_at_most_rows}
use Rattle.fp_linear.specs.Matrix.{PlainMatrix}
use Rattle.quiver_paths.specs.declared.Path.{Path}
use Rattle.path_algebra.specs.declared.Header.{Header}
use Rattle.alg_table.specs.TableView.{IsTable}
use Rattle.representations.specs.Quiver.{BoundQuiver}
use Rattle.representations.specs.Rep.{Rep}
use Rattle.projectives.specs.TwoSided.{TwoSided}
use Rattle.module_types.specs.declared.Side.{Side}
use Rattle.module_types.specs.declared.Module.{Module}
use Rattle.module_types.specs.declared.TermRows.{TermRows}
use Rattle.module_types.specs.Algebras.{algebra_at, other_side}
use Rattle.module_types.specs.Readings.{dim_at, family_of, IsHom}
use Rattle.module_types.specs.Presentations.{Presentation, pullback}
use Rattle.module_types.specs.Shapes.{AreMatrices}
use Rattle.claim_conditions.specs.declared.Clause.{Clause}
use Rattle.claim_conditions.specs.Conditions.{IsAnswer, FailsAt}
use Rattle.claim_conditions.specs.Families.{HasKernelSize}
use Rattle.claim_conditions.specs.SequenceConditions.{IsLeft, IsMiddle}
use Rattle.claim_conditions.specs.TranslateConditions.{embedding_conditions}
use Rattle.module_checks.specs.VertexMatrices.{AreAllReduced}
use Rattle.module_checks.proofs.HomRank.{dim_at-is}
use Rattle.module_checks.proofs.VertexMatrices.{reduced_family, family_reduced}
use Rattle.term_rows.specs.SumDims.{sum_dim}
use Rattle.translate_checks.specs.Across.{sides_of, of_terms}
use Rattle.translate_checks.specs.Steps.{module_in, injectives_in}
use Rattle.sequence_checks.specs.Pullbacks.{pulled_back, around_in, ArePulledBack}
use Rattle.sequence_checks.specs.Sizes.{HavePulledSizes}
use Rattle.sequence_checks.proofs.AroundSteps.{shapes_beside}
use Rattle.sequence_checks.proofs.MiddleSteps.{pullback_rank_is, pulled_zero, zero_pulled}

-- what the answer on an embedding says
module _ {q : Gf} {A : BoundQuiver} (T : TwoSided q A) (p : Presentation) (N : Rep q A.quiver) (rows : List PlainMatrix) where
  pub left_yes : (r : Option Clause) → r ≡ None → IsAnswer (embedding_conditions T p N rows) r → IsLeft T p N rows
  left_yes r e a = let b = subst (IsAnswer (embedding_conditions T p N rows)) e a in record { reduced = b.0; inside = b.1.0; size = b.1.1.0 }

  fails : (which : Clause) (k : ℕ) → FailsAt (embedding_conditions T p N rows) which k → IsLeft T p N rows → ⊥
  fails which zero f l = f.1 l.reduced
  fails which (suc zero) f l = f.1.1 l.inside
  fails which (suc (suc zero)) f l = f.1.1.1 l.size
  fails which (suc (suc (suc k))) f l = f.1.1.1

  pub left_no : (r : Option Clause) (which : Clause) → r ≡ Some which → IsAnswer (embedding_conditions T p N rows) r → IsLeft T p N rows → ⊥
  left_no r which e a = let b = subst (IsAnswer (embedding_conditions T p N rows)) e a in fails which b.0 b.1

-- sizes, one vertex after another
module _ (h : Header) (words : List Path) (t : IsTable h words) (side : Side) (m : Module) (cover functional : List ℕ) (syzygy : TermRows) (dims : List ℕ) where
  pub pulled_sizes-none : HavePulledSizes h words t side m cover functional syzygy dims 0
  pulled_sizes-none = record { at = λ w l. absurd (omega arith) }

  module _ (w d r n : ℕ) (de : d ≡ slice_index dims w) (re : r ≡ rank (pulled_back h words t side m cover functional syzygy w)) (ne : n ≡ (around_in h words t side m cover functional syzygy).dim w) where
    pub pulled_sizes-more : d + r ≡ n → HavePulledSizes h words t side m cover functional syzygy dims w → HavePulledSizes h words t side m cover functional syzygy dims (w + 1)
    pulled_sizes-more e s = record {
      at = λ v l. elim (cases_eq v w) [
        | inl f ↦ subst (λ v. slice_index dims v + rank (pulled_back h words t side m cover functional syzygy v) ≡ (around_in h words t side m cover functional syzygy).dim v) (sym f) (ap₂ (λ x y. x + y) (sym de) (sym re) ∙ e ∙ ne)
        | inr d ↦ s.at v (omega arith)
      ];
    }

    pub pulled_sizes-fail : slice_index dims w + rank (pulled_back h words t side m cover functional syzygy w) ≡ (around_in h words t side m cover functional syzygy).dim w → d + r ≡ n
    pulled_sizes-fail e = ap₂ (λ x y. x + y) de re ∙ e ∙ sym ne

-- in the words of the conditions
module _ (h : Header) (words : List Path) (t : IsTable h words) (side : Side) (m : Module) (cover : TermRows) (functional : List ℕ) (syzygy : TermRows) (e : Module) (matrices : List PlainMatrix)
    (counted : length e.dims ≡ (algebra_at side h).quiver.vertices)
    (R : AreMatrices h.field (algebra_at side h).quiver.vertices (dim_at (algebra_at side h).quiver e.dims) (λ w. sum_dim words (other_side side) syzygy.vertices w + dim_at (algebra_at side h).quiver m.dims w) matrices) where
  abbrev beyond : Rep h.field (algebra_at side h).quiver
  beyond = around_in h words t side m cover.vertices functional syzygy

  sizes_yes : HavePulledSizes h words t side m cover.vertices functional syzygy e.dims (length e.dims)
      → HasKernelSize (module_in h words t side e) beyond (injectives_in h words t side cover.vertices) (pullback (sides_of h words t side) (module_in h words t side m) (of_terms cover syzygy) functional)
  sizes_yes s w = elim (cases_lt w (length e.dims)) [
    | inl l ↦ ap₂ (λ x y. x + y) (dim_at-is (algebra_at side h).quiver e.dims w (omega (arith, l, counted))) (sym (pullback_rank_is h words t side m cover.vertices functional syzygy w)) ∙ s.at w l
    | inr b ↦
        let x = (module_in h words t side e).past w (omega (arith, b, counted)) in
        let y = beyond.past w (omega (arith, b, counted)) in
        let r = rank_at_most_rows (pullback (sides_of h words t side) (module_in h words t side m) (of_terms cover syzygy) functional w) in
        omega (arith, x, y, r)
  ]

  sizes_no : HasKernelSize (module_in h words t side e) beyond (injectives_in h words t side cover.vertices) (pullback (sides_of h words t side) (module_in h words t side m) (of_terms cover syzygy) functional)
      → HavePulledSizes h words t side m cover.vertices functional syzygy e.dims (length e.dims)
  sizes_no k = record {
    at = λ w l. ap₂ (λ x y. x + y) (sym (dim_at-is (algebra_at side h).quiver e.dims w (omega (arith, l, counted)))) (pullback_rank_is h words t side m cover.vertices functional syzygy w) ∙ k w;
  }

  pub middle_reduced : IsMiddle (sides_of h words t side) (of_terms cover syzygy) (module_in h words t side e) (module_in h words t side m) functional matrices → AreAllReduced (length matrices) matrices
  middle_reduced i = family_reduced (module_in h words t side e) beyond matrices (shapes_beside h words t side e m syzygy.vertices matrices R) i.reduced

  pub middle_pulled : IsMiddle (sides_of h words t side) (of_terms cover syzygy) (module_in h words t side e) (module_in h words t side m) functional matrices
      → ArePulledBack h words t side m cover.vertices functional syzygy e matrices (length e.dims)
  middle_pulled i = zero_pulled h words t side m cover.vertices functional syzygy e counted matrices i.inside

  pub middle_sizes : IsMiddle (sides_of h words t side) (of_terms cover syzygy) (module_in h words t side e) (module_in h words t side m) functional matrices
      → HavePulledSizes h words t side m cover.vertices functional syzygy e.dims (length e.dims)
  middle_sizes i = sizes_no i.size

  pub middle_yes : AreAllReduced (length matrices) matrices → IsHom (module_in h words t side e) beyond (family_of (module_in h words t side e) beyond matrices)
      → ArePulledBack h words t side m cover.vertices functional syzygy e matrices (length e.dims) → HavePulledSizes h words t side m cover.vertices functional syzygy e.dims (length e.dims)
      → IsMiddle (sides_of h words t side) (of_terms cover syzygy) (module_in h words t side e) (module_in h words t side m) functional matrices
  middle_yes a f p s = record {
    reduced = reduced_family (module_in h words t side e) beyond matrices (shapes_beside h words t side e m syzygy.vertices matrices R) a;
    hom = f;
    inside = pulled_zero h words t side m cover.vertices functional syzygy e counted matrices p;
    size = sizes_yes s;
  }
