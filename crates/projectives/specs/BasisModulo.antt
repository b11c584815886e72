-- Bases of a kernel modulo a span: of cocycles modulo coboundaries. (Assem, Simson, Skowroński, volume 1, appendix A, 4.)
use Rattle.std.specs.Prelude.{ℕ, zero, ◌<◌, ◌≡◌}
use Rattle.linear_algebra.specs.Field.{Gf}
use Rattle.linear_algebra.specs.Matrix.{Mat, Row, zeros, ◌⊟◌, ◌·◌}
use Rattle.linear_algebra.specs.Rank.{IsInSpan}
use Rattle.linear_algebra.specs.RowForm.{IsRowReduced}
use Rattle.linear_algebra.proofs.RowForm.{reduced_form}

-- D takes the rows of E to zero, and each row x that D takes to zero is a combination of them up to a combination of the rows of C, with exactly one
-- row of coefficients.
pub record IsBasisModulo {q : Gf} {m n l e : ℕ} (C : Mat q m n) (D : Mat q n l) (E : Mat q e n) : Type 0 where
  pub kills : E · D ≡ zeros q e l
  pub spans : (x : Row q n) → x · D ≡ zeros q 1 l → (c : Row q e) × IsInSpan C (x ⊟ c · E)
  pub once : (c d : Row q e) → IsInSpan C (c · E ⊟ d · E) → c ≡ d

-- E is in reduced row form, and zero in the columns where the reduced row form of C has its pivots.
pub record IsReducedModulo {q : Gf} {m n e : ℕ} (C : Mat q m n) (E : Mat q e n) : Type 0 where
  pub pivot : ℕ → ℕ
  pub reduced : IsRowReduced E pivot
  pub cleared : (r i : ℕ) → r < e → i < (reduced_form C).size → E.at r ((reduced_form C).pivot i) ≡ zero
