-- The conditions on a basis of extensions.
use Rattle.std.specs.Prelude.{ℕ, zero, suc, ◌+◌, ◌≡◌, List, [], ◌∷◌}
use Rattle.linear_algebra.specs.Field.{Gf}
use Rattle.linear_algebra.specs.Matrix.{Mat, zeros, ◌·◌}
use Rattle.linear_algebra.specs.Ranks.{rank}
use Rattle.fp_linear.specs.Matrix.{PlainMatrix}
use Rattle.path_algebra.specs.declared.Header.{Header}
use Rattle.representations.specs.Quiver.{Quiver}
use Rattle.representations.specs.Rep.{Rep}
use Rattle.projectives.specs.Words.{Words}
use Rattle.projectives.specs.BasisModulo.{IsReducedModulo}
use Rattle.module_types.specs.declared.Module.{Module}
use Rattle.module_types.specs.declared.TermRows.{TermRows}
use Rattle.module_types.specs.Algebras.{sided_words}
use Rattle.module_types.specs.Readings.{read_beside}
use Rattle.module_types.specs.TermCoordinates.{coordinates, follow_matrix}
use Rattle.claim_conditions.specs.declared.Clause.TheVariants as clause
use Rattle.claim_conditions.specs.Conditions.{Condition, ◌asks◌}
use Rattle.claim_conditions.specs.Modules.{Sides}
use Rattle.claim_conditions.specs.HomConditions.{HaveOneSide}
use Rattle.claim_conditions.specs.Terms.{term_at}
use Rattle.claim_conditions.specs.Extensions.{term_before, extension_rows}

module _ {q : Gf} {Q : Quiver} (W : Words q Q) (Y : Rep q Q) (terms : List TermRows) where
  -- composition with the differential P (n + 1) → P n, in coordinates
  abbrev pub cocycle_matrix : (n : ℕ) → Mat q (coordinates Y (term_at terms n)) (coordinates Y (term_at terms (suc n)))
  cocycle_matrix n = follow_matrix W Y (term_at terms n) (term_at terms (suc n))

  -- its rows span the coboundaries: composition with the differential P n → P (n − 1), in coordinates; no rows at n = 0
  abbrev pub coboundaries : (n : ℕ) → Mat q (coordinates Y (term_before terms n)) (coordinates Y (term_at terms n))
  coboundaries zero = zeros q zero (coordinates Y (term_at terms zero))
  coboundaries (suc n) = follow_matrix W Y (term_at terms n) (term_at terms (suc n))

  module _ (n : ℕ) {e : ℕ} (E : Mat q e (coordinates Y (term_at terms n))) where
    -- `cocycles`: each row is zero behind the next differential
    abbrev pub AreCocycles : Type 0
    AreCocycles = E · cocycle_matrix n ≡ zeros q e (coordinates Y (term_at terms (suc n)))

    -- `reduced`: in reduced row form, and zero at the pivots of the coboundaries' reduced row form
    abbrev pub AreReducedModulo : Type 0
    AreReducedModulo = IsReducedModulo (coboundaries n) E

    -- `all`: their number is the dimension of the cocycles less that of the coboundaries
    abbrev pub AreAllCocycles : Type 0
    AreAllCocycles = e + rank (coboundaries n) + rank (cocycle_matrix n) ≡ coordinates Y (term_at terms n)

-- `objects`: the numbers say that the terms are those of a resolution of a, of length n + 1; and a and b have one side
abbrev pub extension_conditions : (named : Type 0) (h : Header) → Sides h → (a b : Module) (terms : List TermRows) (n : ℕ) → PlainMatrix → List Condition
extension_conditions named h T a b terms n rows =
    let W = (sided_words a.side T).words in
    let Y = read_beside h a b in
    let E = extension_rows h a b terms n rows in
    (clause.Objects asks (named × HaveOneSide a b))
    ∷ (clause.Cocycles asks AreCocycles W Y terms n E)
    ∷ (clause.Reduced asks AreReducedModulo W Y terms n E)
    ∷ (clause.All asks AreAllCocycles W Y terms n E)
    ∷ []
