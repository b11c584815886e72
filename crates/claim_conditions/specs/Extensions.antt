-- A basis of the extensions of degree n of X by Y: cocycles modulo coboundaries. (Assem, Simson, Skowroński, volume 1, appendix A, 4.)
use Rattle.std.specs.Prelude.{ℕ, zero, suc, ◌≡◌, List, []}
use Rattle.linear_algebra.specs.Field.{Gf}
use Rattle.linear_algebra.specs.Matrix.{Mat, Row, ◌·◌}
use Rattle.linear_algebra.specs.Typed.{as_mat}
use Rattle.fp_linear.specs.Matrix.{PlainMatrix}
use Rattle.path_algebra.specs.declared.Header.{Header}
use Rattle.representations.specs.Quiver.{BoundQuiver}
use Rattle.representations.specs.Rep.{Rep, IsMod}
use Rattle.representations.specs.Hom.{Hom, ◌≫◌, ◌⊕◌, zero_hom}
use Rattle.projectives.specs.Words.{Words, IsWordBasis}
use Rattle.projectives.specs.Extensions.{hom_of_row}
use Rattle.projectives.specs.CanonicalCover.{projectives_at}
use Rattle.module_types.specs.declared.Module.{Module}
use Rattle.module_types.specs.declared.TermRows.{TermRows}
use Rattle.module_types.specs.Algebras.{algebra_at, sided_words}
use Rattle.module_types.specs.Readings.{read, read_beside}
use Rattle.module_types.specs.TermMatrices.{count, vertex, sum_of_term}
use Rattle.module_types.specs.TermCoordinates.{coordinates}
use Rattle.claim_conditions.specs.Modules.{Sides}
use Rattle.claim_conditions.specs.Terms.{term_at, sum_at, goes_to}
use Rattle.claim_conditions.specs.Resolutions.{AreResolution}

-- the term before term n, which is without generators at 0
abbrev pub term_before : List TermRows → ℕ → TermRows
term_before terms zero = record { vertices = []; images = [] }
term_before terms (suc n) = term_at terms n

-- the homomorphism out of term n to the term before, which is zero at 0
abbrev pub map_before : {q : Gf} (A : BoundQuiver) (W : Words q A.quiver) (X : Rep q A.quiver) (terms : List TermRows)
    → ((k : ℕ) → Hom (sum_at W X terms k) (goes_to W X terms k)) → (n : ℕ) → Hom (sum_at W X terms n) (sum_of_term W (term_before terms n))
map_before A W X terms d zero = zero_hom (sum_at W X terms zero) (projectives_at W [])
map_before A W X terms d (suc n) = d (suc n)

module _ {q : Gf} (A : BoundQuiver) (W : Words q A.quiver) (B : IsWordBasis A W) (Y : Rep q A.quiver) (M : IsMod A Y) where
  -- the homomorphism from the sum of a term to Y with these coordinates
  abbrev pub hom_of : (t : TermRows) → Row q (coordinates Y t) → Hom (sum_of_term W t) Y
  hom_of t x = hom_of_row A W B (count t) (vertex t) Y M x

  -- At the middle of next → t → before, by d' and d, the rows are a basis of the homomorphisms t → Y that are zero behind d' modulo those that are d with a
  -- homomorphism before → Y behind it: the rows are such homomorphisms, and each one is the sum of a combination of the rows and of a homomorphism behind
  -- d, by exactly one row of coefficients.
  pub record AreBasisOfExtensions (next t before : TermRows) (d' : Hom (sum_of_term W next) (sum_of_term W t)) (d : Hom (sum_of_term W t) (sum_of_term W before))
      {e : ℕ} (E : Mat q e (coordinates Y t)) : Type 0 where
    pub cocycles : (c : Row q e) → d' ≫ hom_of t (c · E) ≡ zero_hom (sum_of_term W next) Y
    pub spans : (y : Hom (sum_of_term W t) Y) → d' ≫ y ≡ zero_hom (sum_of_term W next) Y
        → (c : Row q e) × (b : Hom (sum_of_term W before) Y) × (hom_of t (c · E) ⊕ d ≫ b ≡ y)
    pub once : (c f : Row q e) (b : Hom (sum_of_term W before) Y) → hom_of t (c · E) ⊕ d ≫ b ≡ hom_of t (f · E) → c ≡ f

-- The terms are a minimal resolution of X up to place n + 1, and the rows are a basis of the extensions of degree n: homomorphisms from term n to Y that
-- are zero behind the differential into it, and each such homomorphism is a combination of them and, for n > 0, the differential out of term n with a
-- homomorphism behind it, by exactly one row of coefficients.
pub record AreExtensions {q : Gf} (A : BoundQuiver) (W : Words q A.quiver) (B : IsWordBasis A W) (X Y : Rep q A.quiver) (M : IsMod A Y) (terms : List TermRows) (n : ℕ)
    {e : ℕ} (E : Mat q e (coordinates Y (term_at terms n))) : Type 0 where
  pub resolution : AreResolution A W B X terms (suc n)
  pub basis : AreBasisOfExtensions A W B Y M (term_at terms (suc n)) (term_at terms n) (term_before terms n)
      (resolution.differential (suc n)) (map_before A W X terms resolution.differential n) E

-- the printed rows, in the coordinates of homomorphisms from term n to b
abbrev pub extension_rows : (h : Header) (a b : Module) (terms : List TermRows) (n : ℕ) (rows : PlainMatrix) → Mat h.field rows.row_count (coordinates (read_beside h a b) (term_at terms n))
extension_rows h a b terms n rows = as_mat h.field rows.row_count (coordinates (read_beside h a b) (term_at terms n)) rows.rows

-- The modules have one side, and the rows are a basis of the extensions of degree n of a by b, over these terms.
pub record ExtensionHolds (h : Header) (T : Sides h) (a b : Module) (terms : List TermRows) (n : ℕ) (rows : PlainMatrix) : Type 0 where
  pub side : a.side ≡ b.side
  pub acts : IsMod (algebra_at a.side h) (read_beside h a b)
  pub extensions : AreExtensions (algebra_at a.side h) (sided_words a.side T).words (sided_words a.side T).basis (read h a) (read_beside h a b) acts terms n (extension_rows h a b terms n rows)
