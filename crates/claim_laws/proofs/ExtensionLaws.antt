-- The conditions on a basis of extensions suffice, and each such basis that is reduced modulo the coboundaries meets them.
use Rattle.std.proofs.Common.{ℕ, zero, suc, ◌+◌, ◌≡◌, List, [], sym, ap, ap₂, ◌∙◌, subst, arith}
use Rattle.linear_algebra.specs.Field.{Gf}
use Rattle.linear_algebra.specs.Matrix.{Mat, Row, zeros, ◌·◌}
use Rattle.linear_algebra.specs.Ranks.{rank}
use Rattle.linear_algebra.proofs.MatrixLaws.{mul_assoc_mat, mul_zeros}
use Rattle.linear_algebra.proofs.Blocks.{no_rows}
use Rattle.fp_linear.specs.Matrix.{PlainMatrix}
use Rattle.path_algebra.specs.declared.Header.{Header}
use Rattle.representations.specs.Quiver.{BoundQuiver}
use Rattle.representations.specs.Rep.{Rep, IsMod}
use Rattle.representations.specs.Hom.{Hom, ◌≫◌, zero_hom}
use Rattle.representations.proofs.Homs.{compose_zero}
use Rattle.representations.proofs.Kernels.{IsExact-zero}
use Rattle.projectives.specs.Words.{Words, IsWordBasis}
use Rattle.projectives.specs.BasisModulo.{IsReducedModulo}
use Rattle.projectives.specs.Extensions.{hom_of_row, composition_matrix, IsExtensionBasis}
use Rattle.projectives.specs.CanonicalCover.{projectives_at}
use Rattle.projectives.proofs.Extensions.{killed_hom, rows_by_size, rows_size, extension_by, rows_of_extension}
use Rattle.module_types.specs.declared.Module.{Module}
use Rattle.module_types.specs.declared.TermRows.{TermRows}
use Rattle.module_types.specs.Algebras.{algebra_at, sided_words}
use Rattle.module_types.specs.Readings.{read, read_beside}
use Rattle.module_types.specs.TermMatrices.{count, vertex, sum_of_term}
use Rattle.module_types.specs.TermCoordinates.{coordinates}
use Rattle.module_types.proofs.TermCoordinates.{follow_matrix_is}
use Rattle.claim_conditions.specs.Conditions.{AllHold}
use Rattle.claim_conditions.specs.Modules.{Sides, ModuleHolds}
use Rattle.claim_conditions.specs.Terms.{term_at, sum_at}
use Rattle.claim_conditions.specs.Resolutions.{AreResolution, ResolutionHolds}
use Rattle.claim_conditions.specs.Extensions.{term_before, map_before, AreExtensions, extension_rows, ExtensionHolds}
use Rattle.claim_conditions.specs.ExtensionConditions.{cocycle_matrix, coboundaries, AreCocycles, AreReducedModulo, AreAllCocycles, extension_conditions}
use Rattle.claim_laws.proofs.Sides.{module_at}

module _ {q : Gf} (A : BoundQuiver) (W : Words q A.quiver) (B : IsWordBasis A W) (X Y : Rep q A.quiver) (M : IsMod A Y) (terms : List TermRows) (n : ℕ) (R : AreResolution A W B X terms (suc n)) where
  -- composition with the differential into term n, and with that out of it, in coordinates
  abbrev into_term : Mat q (coordinates Y (term_at terms n)) (coordinates Y (term_at terms (suc n)))
  into_term = composition_matrix A W B (count (term_at terms (suc n))) (vertex (term_at terms (suc n))) (count (term_at terms n)) (vertex (term_at terms n)) Y M (R.differential (suc n))

  abbrev before : Hom (sum_at W X terms n) (sum_of_term W (term_before terms n))
  before = map_before A W X terms R.differential n

  abbrev out_of_term : Mat q (coordinates Y (term_before terms n)) (coordinates Y (term_at terms n))
  out_of_term = composition_matrix A W B (count (term_at terms n)) (vertex (term_at terms n)) (count (term_before terms n)) (vertex (term_before terms n)) Y M before

  cocycles_are : cocycle_matrix W Y terms n ≡ into_term
  cocycles_are = follow_matrix_is A W B Y M (term_at terms n) (term_at terms (suc n)) (R.differential (suc n)) (λ i l. R.printed (suc n) i (omega arith) l)

module _ {q : Gf} (A : BoundQuiver) (W : Words q A.quiver) (B : IsWordBasis A W) (X Y : Rep q A.quiver) (M : IsMod A Y) (terms : List TermRows) where
  before_zero : (n : ℕ) (R : AreResolution A W B X terms (suc n)) → R.differential (suc n) ≫ before A W B X Y M terms n R ≡ zero_hom (sum_at W X terms (suc n)) (sum_of_term W (term_before terms n))
  before_zero zero R = compose_zero (R.differential 1) (projectives_at W [])
  before_zero (suc n) R = IsExact-zero (R.differential (suc (suc n))) (R.differential (suc n)) (R.minimal.exact (suc n) (omega arith))

  coboundaries_are : (n : ℕ) (R : AreResolution A W B X terms (suc n)) → coboundaries W Y terms n ≡ out_of_term A W B X Y M terms n R
  coboundaries_are zero R = no_rows _ _
  coboundaries_are (suc n) R = follow_matrix_is A W B Y M (term_at terms n) (term_at terms (suc n)) (R.differential (suc n)) (λ i l. R.printed (suc n) i (omega arith) l)

  module _ (n : ℕ) (R : AreResolution A W B X terms (suc n)) {e : ℕ} (E : Mat q e (coordinates Y (term_at terms n))) where
    rows_killed : AreCocycles W Y terms n E → (c : Row q e) → R.differential (suc n) ≫ hom_of_row A W B (count (term_at terms n)) (vertex (term_at terms n)) Y M (c · E) ≡ zero_hom (sum_at W X terms (suc n)) Y
    rows_killed k c =
        let D = into_term A W B X Y M terms n R in
        let z : E · D ≡ zeros q e (coordinates Y (term_at terms (suc n))) = ap (λ z. E · z) (sym (cocycles_are A W B X Y M terms n R)) ∙ k in
        killed_hom A W B Y M (count (term_at terms (suc n))) (vertex (term_at terms (suc n))) (count (term_at terms n)) (vertex (term_at terms n)) (R.differential (suc n)) (c · E)
        (mul_assoc_mat c E D ∙ ap (λ z. c · z) z ∙ mul_zeros c)

    pub extensions_by_size : AreCocycles W Y terms n E → AreReducedModulo W Y terms n E → AreAllCocycles W Y terms n E → AreExtensions A W B X Y M terms n E
    extensions_by_size k r s =
        let b = rows_by_size A W B Y M (count (term_at terms (suc n))) (vertex (term_at terms (suc n))) (count (term_at terms n)) (vertex (term_at terms n))
        (count (term_before terms n)) (vertex (term_before terms n)) (R.differential (suc n)) (before A W B X Y M terms n R) (before_zero n R) E (rows_killed k)
        (subst (λ C. IsReducedModulo C E) (coboundaries_are n R) r)
        (ap₂ (λ C D. e + rank C + rank D) (sym (coboundaries_are n R)) (sym (cocycles_are A W B X Y M terms n R)) ∙ s) in
        record { resolution = R; basis = record { cocycles = b.cocycles; spans = b.spans; once = b.once } }

  module _ (n : ℕ) {e : ℕ} (E : Mat q e (coordinates Y (term_at terms n))) (k : AreExtensions A W B X Y M terms n E) (r : AreReducedModulo W Y terms n E) where
    -- the basis with its form
    reduced_basis : IsExtensionBasis A W B (count (term_at terms (suc n))) (vertex (term_at terms (suc n))) (count (term_at terms n)) (vertex (term_at terms n))
        (count (term_before terms n)) (vertex (term_before terms n)) Y M (k.resolution.differential (suc n)) (before A W B X Y M terms n k.resolution) E
    reduced_basis = record {
      cocycles = k.basis.cocycles;
      spans = k.basis.spans;
      once = k.basis.once;
      reduced = subst (λ C. IsReducedModulo C E) (coboundaries_are n k.resolution) r;
    }

    pub cocycles_of_extensions : AreCocycles W Y terms n E
    cocycles_of_extensions =
        ap (λ z. E · z) (cocycles_are A W B X Y M terms n k.resolution)
        ∙ (rows_of_extension A W B Y M (count (term_at terms (suc n))) (vertex (term_at terms (suc n))) (count (term_at terms n)) (vertex (term_at terms n))
        (count (term_before terms n)) (vertex (term_before terms n)) (k.resolution.differential (suc n)) (before A W B X Y M terms n k.resolution)
        (extension_by A W B Y M (count (term_at terms (suc n))) (vertex (term_at terms (suc n))) (count (term_at terms n)) (vertex (term_at terms n))
        (count (term_before terms n)) (vertex (term_before terms n)) (k.resolution.differential (suc n)) (before A W B X Y M terms n k.resolution) E reduced_basis)).kills

    pub size_of_extensions : AreAllCocycles W Y terms n E
    size_of_extensions =
        ap₂ (λ C D. e + rank C + rank D) (coboundaries_are n k.resolution) (cocycles_are A W B X Y M terms n k.resolution)
        ∙ rows_size A W B Y M (count (term_at terms (suc n))) (vertex (term_at terms (suc n))) (count (term_at terms n)) (vertex (term_at terms n))
        (count (term_before terms n)) (vertex (term_before terms n)) (k.resolution.differential (suc n)) (before A W B X Y M terms n k.resolution) (before_zero n k.resolution) E reduced_basis

module _ (named : Type 0) (h : Header) (T : Sides h) (a b : Module) (terms : List TermRows) (n : ℕ) (rows : PlainMatrix) where
  pub extension_suffices : ModuleHolds h b → ResolutionHolds h T a terms (suc n) → AllHold (extension_conditions named h T a b terms n rows) → ExtensionHolds h T a b terms n rows
  extension_suffices m R c =
      let M = module_at h b a.side (sym c.0.1) m in
      record {
        side = c.0.1;
        acts = M;
        extensions = extensions_by_size (algebra_at a.side h) (sided_words a.side T).words (sided_words a.side T).basis (read h a) (read_beside h a b) M terms n R
            (extension_rows h a b terms n rows) c.1.0 c.1.1.0 c.1.1.1.0;
      }

  pub extension_complete : named → ExtensionHolds h T a b terms n rows → AreReducedModulo (sided_words a.side T).words (read_beside h a b) terms n (extension_rows h a b terms n rows)
      → AllHold (extension_conditions named h T a b terms n rows)
  extension_complete o k r =
      let A = algebra_at a.side h in
      let W = (sided_words a.side T).words in
      let B = (sided_words a.side T).basis in
      let X = read h a in
      let Y = read_beside h a b in
      let E = extension_rows h a b terms n rows in (
        (o, k.side),
        (
          cocycles_of_extensions A W B X Y k.acts terms n E k.extensions r,
          (r, (size_of_extensions A W B X Y k.acts terms n E k.extensions r, tt)),
        ),
      )
