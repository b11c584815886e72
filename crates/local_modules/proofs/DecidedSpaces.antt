-- A space of rows, of each of which it is decided whether it is a member, is the span of independent rows.
use Rattle.std.proofs.Common.{ℕ, zero, suc, ◌+◌, ◌≤◌, ◌⊎◌, inl, inr, sym, arith, subst}
use Rattle.linear_algebra.specs.Field.{Gf}
use Rattle.linear_algebra.specs.Matrix.{Mat, Row, zeros, one, ◌⊞◌, ◌⊙◌, ◌·◌, stack}
use Rattle.linear_algebra.specs.Rank.{IsInSpan, HasRightInverse, IsSeparate}
use Rattle.linear_algebra.proofs.MatrixLaws.{mul_zeros}
use Rattle.linear_algebra.proofs.Blocks.{no_rows}
use Rattle.linear_algebra.proofs.PartsLaws.{scalar_mul}
use Rattle.linear_algebra.proofs.Steinitz.{steinitz}
use Rattle.linear_algebra.proofs.Subspaces.{extended}
use Rattle.linear_algebra.proofs.Solving.{solve_or}
use Rattle.projectives.proofs.BasisModulo.{combination_of_stack}
use Rattle.local_modules.proofs.SearchRows.{search_rows}

-- Rows whose combinations are the members of a space.
pub record Spanning {q : Gf} {n : ℕ} (Member : Row q n → Type 0) : Type 0 where
  pub size : ℕ
  pub rows : Mat q size n
  pub inside : (x : Row q size) → Member (x · rows)
  pub spans : (x : Row q n) → Member x → IsInSpan rows x

module _ {q : Gf} {n : ℕ} (Member : Row q n → Type 0) (zero_member : Member (zeros q 1 n)) (sum_member : (x y : Row q n) → Member x → Member y → Member (x ⊞ y))
    (multiple_member : (c : ℕ) (x : Row q n) → Member x → Member (c ⊙ x)) (decide : (x : Row q n) → Member x ⊎ (Member x → ⊥)) where
  -- one row more
  inside_more : {m : ℕ} (rows : Mat q m n) → ((x : Row q m) → Member (x · rows)) → (y : Row q n) → Member y → (x : Row q (1 + m)) → Member (x · stack y rows)
  inside_more {m} rows inside y y_member x = subst Member (combination_of_stack x y rows) (
      sum_member (x · stack (one q 1) (zeros q m 1) · y) (x · stack (zeros q 1 m) (one q m) · rows)
      (subst Member (sym (scalar_mul (x · stack (one q 1) (zeros q m 1)) y)) (multiple_member ((x · stack (one q 1) (zeros q m 1)).at 0 0) y y_member))
      (inside (x · stack (zeros q 1 m) (one q m))))

  abbrev Beyond : {m : ℕ} → Mat q m n → Row q n → Type 0
  Beyond rows y = Member y × IsSeparate rows y

  decide_beyond : {m : ℕ} (rows : Mat q m n) (y : Row q n) → Beyond rows y ⊎ (Member y → IsInSpan rows y)
  decide_beyond rows y = elim (decide y) [
    | inr not ↦ inr (λ member. absurd (not member))
    | inl member ↦ elim (solve_or rows y) [ inl s ↦ inr (λ z. s) | inr s ↦ inl (member, s) ]
  ]

  abbrev Found : {m : ℕ} → Mat q m n → Type 0
  Found rows = (y : Row q n) × Beyond rows y

  next : {m : ℕ} (rows : Mat q m n) → ((x : Row q m) → Member (x · rows)) → (Found rows → Spanning Member) → Found rows ⊎ ((y : Row q n) → Member y → IsInSpan rows y) → Spanning Member
  next rows inside more (inl y) = more y
  next {m} rows inside more (inr all) = record { size = m; rows = rows; inside = inside; spans = all }

  too_many : {m : ℕ} (rows : Mat q m n) → HasRightInverse rows → n ≤ m → Found rows → ⊥
  too_many rows i h y =
      let more = extended rows y.0 i y.1.1 in
      let fewer = steinitz (stack y.0 rows) more.inverse more.is in
      omega arith

  grown : (fuel : ℕ) {m : ℕ} (rows : Mat q m n) → HasRightInverse rows → ((x : Row q m) → Member (x · rows)) → n ≤ m + fuel → Spanning Member
  grown zero rows i inside h = next rows inside (λ y. absurd (too_many rows i (omega arith) y)) (search_rows n (Beyond rows) (λ y. Member y → IsInSpan rows y) (decide_beyond rows))
  grown (suc fuel) rows i inside h = next rows inside (λ y. grown fuel (stack y.0 rows) (extended rows y.0 i y.1.1) (inside_more rows inside y.0 y.1.0) (omega arith))
      (search_rows n (Beyond rows) (λ y. Member y → IsInSpan rows y) (decide_beyond rows))

  pub spanning_rows : Spanning Member
  spanning_rows = grown n (zeros q 0 n) (record { inverse = zeros q n 0; is = no_rows _ _ }) (λ x. subst Member (sym (mul_zeros x)) zero_member) (omega arith)
