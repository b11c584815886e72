-- Squares, one arrow after another.
use Rattle.std.proofs.Common.{ℕ, ◌+◌, List, inl, inr, sym, subst, arith}
use Rattle.std.proofs.lemmas.Bool.{cases_eq}
use Rattle.linear_algebra.specs.Field.{Gf}
use Rattle.fp_linear.specs.Matrix.{PlainMatrix}
use Rattle.representations.specs.Quiver.{Quiver}
use Rattle.representations.specs.Rep.{Rep}
use Rattle.module_checks.proofs.Squares.{AreSquaresUpTo}
use Rattle.translate_checks.specs.Steps.{IsSquareAt}

module _ {q : Gf} {Q : Quiver} (X Y : Rep q Q) (matrices : List PlainMatrix) where
  pub squares-none : AreSquaresUpTo X Y matrices 0
  squares-none = record { square = λ a l. absurd (omega arith) }

  pub squares-more : (n : ℕ) → AreSquaresUpTo X Y matrices n → IsSquareAt X Y matrices n → AreSquaresUpTo X Y matrices (n + 1)
  squares-more n s e = record { square = λ a l. elim (cases_eq a n) [ inl f ↦ subst (IsSquareAt X Y matrices) (sym f) e | inr d ↦ s.square a (omega arith) ] }
