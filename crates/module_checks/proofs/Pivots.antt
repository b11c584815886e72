-- Reduced row form by pairs of rows.
use Rattle.std.proofs.Common.{ℕ, ◌<◌, ◌≡◌, List, length, arith}
use Rattle.linear_algebra.specs.Reduced.{IsReduced}
use Rattle.module_checks.specs.ReducedRows.{RowFits}

pub reduced_from_rows : (n m : ℕ) (rows : List (List ℕ)) → length rows ≡ m → ((i : ℕ) → i < m → RowFits n m rows i) → IsReduced n rows
reduced_from_rows n m rows c h = record {
  nonzero = λ i l. (h i (omega arith)).nonzero;
  one = λ i l. (h i (omega arith)).one;
  further = λ i k l b. ((h i (omega arith)).pairs k (omega arith)).further l;
  cleared = λ i k l b d. ((h i (omega arith)).pairs k (omega arith)).cleared d;
}

pub rows_from_reduced : (n m : ℕ) (rows : List (List ℕ)) → length rows ≡ m → IsReduced n rows → (i : ℕ) → i < m → RowFits n m rows i
rows_from_reduced n m rows c r i l = record {
  nonzero = r.nonzero i (omega arith);
  one = r.one i (omega arith);
  pairs = λ k b. record { further = λ d. r.further i k d (omega arith); cleared = λ d. r.cleared i k (omega arith) (omega arith) d };
}
