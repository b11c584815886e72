-- Inverses from solutions, and the identity as the code writes it.
use Rattle.std.proofs.Common.{ℕ, ◌≡◌, ◌+◌, List, [], Option, Some, None, Result, Ok, Err, MatchOption, IfOk, sym, ap, ◌∙◌, arith}
use Rattle.linear_algebra.specs.Field.{Gf}
use Rattle.linear_algebra.specs.Rows.{rows_of, unit, identity, IsGrid}
use Rattle.linear_algebra.specs.RowSolutions.{IsSolution, IsInverse}
use Rattle.linear_algebra.proofs.Rows.{list_of-same}
use Rattle.linear_algebra.proofs.InvertRows.{IsInverse-solution, IsSolution-inverse}
use Rattle.fp_linear.specs.Matrix.{PlainMatrix}
use Rattle.fp_linear.specs.Slices.{cell}
use Rattle.fp_linear.specs.Products.{HasUnits}
use Rattle.fp_linear.proofs.Cells.{cell-is}

pub inverse-of : {E : Type 0} (q : Gf) (n : ℕ) (a : List (List ℕ)) (r : Result (Option PlainMatrix) E) → IsGrid q n n a
    → IfOk r (λ o. MatchOption o ((x : List (List ℕ)) → IsSolution q n n n a (identity n) x → ⊥) (λ x. IsSolution q n n n a (identity n) x.rows))
    → IfOk r (λ o. MatchOption o ((x : List (List ℕ)) → IsInverse q n a x → ⊥) (λ x. IsInverse q n a x.rows))
inverse-of q n a (Ok None) g h = λ x i. h x (IsSolution-inverse q n a x i)
inverse-of q n a (Ok (Some x)) g h = IsInverse-solution q n a x.rows g h
inverse-of q n a (Err e) g h = tt

pub rows_of-units : (n : ℕ) (s : List ℕ) (e : ℕ → ℕ → ℕ) → HasUnits n 0 n e (cell n s) → rows_of n n s ≡ identity n
unfolding rows_of identity unit
rows_of-units n s e h = list_of-same n _ _ [] (λ i l. list_of-same n _ _ 0 (λ j k. let z : 0 + j ≡ j = omega arith in sym (cell-is n s i j) ∙ ap (cell n s i) (sym z) ∙ h.done i j l k))
