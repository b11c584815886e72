-- The conditions on the middle of a sequence, vertex by vertex.
use Rattle.std.proofs.Common.{ℕ, ◌≡◌, ◌≤◌, ◌+◌, ◌*◌, List, length, inl, inr, sym, ap, ◌∙◌, arith, subst}
use Rattle.std.proofs.lemmas.Bool.{cases_eq, cases_lt}
use Rattle.std.proofs.lemmas.Nat.{mul-le}
use Rattle.linear_algebra.specs.Matrix.{Mat-eq_below, zeros, ◌·◌, transpose}
use Rattle.linear_algebra.specs.Ranks.{rank}
use Rattle.linear_algebra.proofs.Dimension.{rank_transpose}
use Rattle.linear_algebra.proofs.MatrixLaws.{transpose_transpose}
use Rattle.fp_linear.specs.Matrix.{PlainMatrix}
use Rattle.quiver_paths.specs.declared.Path.{Path}
use Rattle.path_algebra.specs.declared.Header.{Header}
use Rattle.alg_table.specs.TableView.{IsTable}
use Rattle.module_types.specs.declared.Side.{Side}
use Rattle.module_types.specs.declared.Module.{Module}
use Rattle.module_types.specs.declared.TermRows.{TermRows}
use Rattle.module_types.specs.Algebras.{algebra_at, other_side}
use Rattle.module_types.specs.Readings.{dim_at, family_of}
use Rattle.module_types.specs.Shapes.{AreMatrices}
use Rattle.module_types.specs.Presentations.{pullback}
use Rattle.claim_conditions.specs.Families.{ComposeToZero}
use Rattle.term_rows.specs.SumDims.{sum_dim}
use Rattle.translate_checks.specs.Across.{sides_of, presentation}
use Rattle.translate_checks.specs.Steps.{module_in, injectives_in}
use Rattle.sequence_checks.specs.Pullbacks.{pulled_back, around_in, ArePulledBack}
use Rattle.sequence_checks.proofs.AroundSteps.{shapes_beside}

pub wide_product : (m n len : ℕ) → m ≤ 512 → n ≤ 768 → len ≡ 393216 → m * n ≤ len
wide_product m n len a b e = let p = mul-le m n 512 768 a b in omega (arith, p, e)

module _ (h : Header) (words : List Path) (t : IsTable h words) (side : Side) (m : Module) (cover functional : List ℕ) (syzygy : TermRows) (e : Module) (matrices : List PlainMatrix) where
  -- the shapes, as they are read
  pub shapes_around : AreMatrices h.field (algebra_at side h).quiver.vertices (dim_at (algebra_at side h).quiver e.dims) (λ w. sum_dim words (other_side side) syzygy.vertices w + dim_at (algebra_at side h).quiver m.dims w) matrices
      → AreMatrices h.field (algebra_at side h).quiver.vertices (module_in h words t side e).dim (around_in h words t side m cover functional syzygy).dim matrices
  shapes_around = shapes_beside h words t side e m syzygy.vertices matrices

  pub pulled-none : ArePulledBack h words t side m cover functional syzygy e matrices 0
  pulled-none = record { at = λ w l. absurd (omega arith) }

  pub pulled-more : (w : ℕ) → ArePulledBack h words t side m cover functional syzygy e matrices w
      → family_of (module_in h words t side e) (around_in h words t side m cover functional syzygy) matrices w · transpose (pulled_back h words t side m cover functional syzygy w)
      ≡ zeros h.field ((module_in h words t side e).dim w) ((injectives_in h words t side cover).dim w)
      → ArePulledBack h words t side m cover functional syzygy e matrices (w + 1)
  pulled-more w k f = record {
    at = λ v l. elim (cases_eq v w) [
      | inl g ↦ subst (λ v. family_of (module_in h words t side e) (around_in h words t side m cover functional syzygy) matrices v · transpose (pulled_back h words t side m cover functional syzygy v)
          ≡ zeros h.field ((module_in h words t side e).dim v) ((injectives_in h words t side cover).dim v)) (sym g) f
      | inr d ↦ k.at v (omega arith)
    ];
  }

-- In the words of the conditions: at each vertex such matrices, and then the pullback, are zero; and its rank.
module _ (h : Header) (words : List Path) (t : IsTable h words) (side : Side) (m : Module) (cover functional : List ℕ) (syzygy : TermRows) where
  turned_back : (w : ℕ) → transpose (pulled_back h words t side m cover functional syzygy w) ≡ pullback (sides_of h words t side) (module_in h words t side m) (presentation cover syzygy) functional w
  turned_back w = transpose_transpose (pullback (sides_of h words t side) (module_in h words t side m) (presentation cover syzygy) functional w)

  pub pullback_rank_is : (w : ℕ) → rank (pulled_back h words t side m cover functional syzygy w) ≡ rank (pullback (sides_of h words t side) (module_in h words t side m) (presentation cover syzygy) functional w)
  pullback_rank_is w = rank_transpose (pullback (sides_of h words t side) (module_in h words t side m) (presentation cover syzygy) functional w)

  module _ (e : Module) (counted : length e.dims ≡ (algebra_at side h).quiver.vertices) (matrices : List PlainMatrix) where
    pub pulled_zero : ArePulledBack h words t side m cover functional syzygy e matrices (length e.dims)
        → ComposeToZero (module_in h words t side e) (around_in h words t side m cover functional syzygy) (injectives_in h words t side cover) (family_of (module_in h words t side e) (around_in h words t side m cover functional syzygy) matrices)
        (pullback (sides_of h words t side) (module_in h words t side m) (presentation cover syzygy) functional)
    unfolding zeros
    pulled_zero k w = elim (cases_lt w (length e.dims)) [
      | inl l ↦ ap (λ z. family_of (module_in h words t side e) (around_in h words t side m cover functional syzygy) matrices w · z) (sym (turned_back w)) ∙ k.at w l
      | inr b ↦ Mat-eq_below _ _ (λ i j u v. absurd (let n = (module_in h words t side e).past w (omega (arith, b, counted)) in omega (arith, n, u)))
    ]

    pub zero_pulled : ComposeToZero (module_in h words t side e) (around_in h words t side m cover functional syzygy) (injectives_in h words t side cover) (family_of (module_in h words t side e) (around_in h words t side m cover functional syzygy) matrices)
        (pullback (sides_of h words t side) (module_in h words t side m) (presentation cover syzygy) functional)
        → ArePulledBack h words t side m cover functional syzygy e matrices (length e.dims)
    zero_pulled z = record { at = λ w l. ap (λ p. family_of (module_in h words t side e) (around_in h words t side m cover functional syzygy) matrices w · p) (turned_back w) ∙ z w }
