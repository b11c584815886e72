-- Certificates that a finite-dimensional algebra is local: modulo an ideal with a power that is zero it is a division ring.
-- (Assem, Simson, Skowroński, volume 1, chapter I, 4.)
use Rattle.std.specs.Prelude.{ℕ, ◌⊎◌}
use Rattle.linear_algebra.specs.Field.{Gf}
use Rattle.linear_algebra.specs.Matrix.{Mat}
use Rattle.linear_algebra.specs.RowForm.{IsRowReduced}
use Rattle.local_modules.specs.Algebra.{Algebra}
use Rattle.local_modules.specs.Ideal.{IsTwoSided, IsLeastPower, IsFrobeniusField, IsListedDivisionRing}

-- A two-sided ideal by rows in reduced row form, the least power of it that is zero, and one of the two forms of the residue ring.
pub record LocalCertificate {q : Gf} (A : Algebra q) : Type 0 where
  pub count : ℕ
  pub ideal : Mat q count A.size
  pub pivot : ℕ → ℕ
  pub reduced : IsRowReduced ideal pivot
  pub two_sided : IsTwoSided A ideal
  pub power : ℕ
  pub least_power : IsLeastPower A ideal power
  pub residue : IsFrobeniusField A ideal ⊎ IsListedDivisionRing A ideal
