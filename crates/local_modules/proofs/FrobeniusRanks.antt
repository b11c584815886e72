-- In a commutative algebra, whether taking q-th powers is injective, and whether its fixed elements have dimension 1, is a condition on ranks.
use Rattle.std.proofs.Common.{ℕ, ◌+◌, ◌≤◌, ◌≡◌, ◌≢◌, inl, inr, sym, ap, ap₂, ◌∙◌, arith, subst}
use Rattle.std.proofs.lemmas.Bool.{cases_lt}
use Rattle.linear_algebra.specs.Field.{Gf, order}
use Rattle.linear_algebra.specs.Matrix.{Mat, Row, zeros, one, ◌⊟◌, ◌⊙◌, ◌·◌}
use Rattle.linear_algebra.specs.Parts.{row}
use Rattle.linear_algebra.specs.Rank.{IsInSpan, Complement}
use Rattle.linear_algebra.specs.LinearMaps.{matrix_of}
use Rattle.linear_algebra.proofs.MatrixLaws.{mul_assoc_mat, mul_one_mat, zeros_mul, mul_sub_mat, sub_mul_mat, sub_eq_zeros, sub_self_mat}
use Rattle.linear_algebra.proofs.PartsLaws.{scalar_mul, row-mul, row_zeros}
use Rattle.linear_algebra.proofs.LinearMaps.{mul-matrix_of}
use Rattle.linear_algebra.proofs.Solving.{injective_right_inverse, in_span_by_rows, in_span_self, zeros_not_one}
use Rattle.linear_algebra.proofs.Families.{in_span_scale}
use Rattle.linear_algebra.proofs.Steinitz.{steinitz}
use Rattle.linear_algebra.proofs.Subspaces.{through_zero}
use Rattle.linear_algebra.proofs.Dimension.{complement, kernel_spans, rank, rank_is}
use Rattle.linear_algebra.proofs.Ranks.{rank_right_inverse}
use Rattle.local_modules.specs.Algebra.{Algebra, Element, power_in}
use Rattle.local_modules.proofs.FrobeniusFields.{frobenius_linear}

-- The rows that f takes to zero are zero exactly where the rank of f is their length; they are the multiples of one row that is not zero exactly
-- where the rank is one less.
module _ {q : Gf} {n k : ℕ} (f : Mat q n k) where
  nullity_rank : (C : Complement f) → C.nullity + rank f ≡ n
  nullity_rank C = ap (λ r. C.nullity + r) (rank_is C.rank) ∙ C.rank_nullity

  pub full_rank : ((x : Row q n) → x · f ≡ zeros q 1 k → x ≡ zeros q 1 n) → rank f ≡ n
  full_rank h = rank_right_inverse f (injective_right_inverse f h)

  pub kernel_zero : rank f ≡ n → (x : Row q n) → x · f ≡ zeros q 1 k → x ≡ zeros q 1 n
  kernel_zero e x z = let C = complement f in let s = kernel_spans f C x z in let r = nullity_rank C in
      sym s.is ∙ through_zero s.by C.kernel (omega arith)

  pub rank_of_line : (v : Row q n) → v ≢ zeros q 1 n → v · f ≡ zeros q 1 k → ((x : Row q n) → x · f ≡ zeros q 1 k → IsInSpan v x) → 1 + rank f ≡ n
  rank_of_line v nonzero z h = go (complement f)
    where
      go : Complement f → 1 + rank f ≡ n
      go C = let r = nullity_rank C in let a = at_most C in let b = at_least C in omega arith
        where
          all : (C : Complement f) → IsInSpan v C.kernel
          all C = in_span_by_rows v C.kernel (λ i l. h (row i C.kernel) (sym (row-mul i C.kernel f) ∙ ap (row i) C.kernel_kills ∙ row_zeros q C.nullity k i))

          at_most : (C : Complement f) → C.nullity ≤ 1
          at_most C = let s = all C in steinitz s.by (v · C.retraction) (sym (mul_assoc_mat s.by v C.retraction) ∙ ap (λ y. y · C.retraction) s.is ∙ C.kernel_retracts)

          at_least : (C : Complement f) → 1 ≤ C.nullity
          at_least C = elim (cases_lt 0 C.nullity) [ inl l ↦ l | inr l ↦ absurd (nonzero (let s = kernel_spans f C v z in sym s.is ∙ through_zero s.by C.kernel (omega arith))) ]

  pub line_of_rank : 1 + rank f ≡ n → (v : Row q n) × (v ≢ zeros q 1 n) × (v · f ≡ zeros q 1 k) × ((x : Row q n) → x · f ≡ zeros q 1 k → (c : ℕ) × (x ≡ c ⊙ v))
  line_of_rank e = go (complement f).nullity (complement f).kernel (complement f).retraction (let C = complement f in let r = nullity_rank C in omega arith)
      (complement f).kernel_kills (complement f).kernel_retracts (λ x z. kernel_spans f (complement f) x z)
    where
      go : (m : ℕ) (K : Mat q m n) (T : Mat q n m) → m ≡ 1 → K · f ≡ zeros q m k → K · T ≡ one q m → ((x : Row q n) → x · f ≡ zeros q 1 k → IsInSpan K x)
          → (v : Row q n) × (v ≢ zeros q 1 n) × (v · f ≡ zeros q 1 k) × ((x : Row q n) → x · f ≡ zeros q 1 k → (c : ℕ) × (x ≡ c ⊙ v))
      go m K T e = subst (λ m. (K : Mat q m n) (T : Mat q n m) → K · f ≡ zeros q m k → K · T ≡ one q m → ((x : Row q n) → x · f ≡ zeros q 1 k → IsInSpan K x)
          → (v : Row q n) × (v ≢ zeros q 1 n) × (v · f ≡ zeros q 1 k) × ((x : Row q n) → x · f ≡ zeros q 1 k → (c : ℕ) × (x ≡ c ⊙ v))) (sym e) once K T
        where
          once : (K : Mat q 1 n) (T : Mat q n 1) → K · f ≡ zeros q 1 k → K · T ≡ one q 1 → ((x : Row q n) → x · f ≡ zeros q 1 k → IsInSpan K x)
              → (v : Row q n) × (v ≢ zeros q 1 n) × (v · f ≡ zeros q 1 k) × ((x : Row q n) → x · f ≡ zeros q 1 k → (c : ℕ) × (x ≡ c ⊙ v))
          once K T z r h = (
            K,
            (λ n. zeros_not_one q (sym (zeros_mul T) ∙ ap (λ y. y · T) (sym n) ∙ r)),
            z,
            (λ x e. let s = h x e in (s.by.at 0 0, sym s.is ∙ scalar_mul s.by K)),
          )

module _ {q : Gf} (A : Algebra q) (commutes : (x y : Element A) → A.product x y ≡ A.product y x) where
  -- The matrix of taking q-th powers.
  abbrev pub frobenius_matrix : Mat q A.size A.size
  frobenius_matrix = matrix_of (λ (x : Element A). power_in A x (order q))

  pub mul-frobenius : (x : Element A) → x · frobenius_matrix ≡ power_in A x (order q)
  mul-frobenius x = mul-matrix_of (λ (x : Element A). power_in A x (order q)) (frobenius_linear A commutes) x

  pub injective_rank : ((x y : Element A) → power_in A x (order q) ≡ power_in A y (order q) → x ≡ y) → rank frobenius_matrix ≡ A.size
  injective_rank h = full_rank frobenius_matrix (λ x e. h x (zeros q 1 A.size) (sym (mul-frobenius x) ∙ e ∙ sym (zeros_mul frobenius_matrix) ∙ mul-frobenius (zeros q 1 A.size)))

  pub rank_injective : rank frobenius_matrix ≡ A.size → (x y : Element A) → power_in A x (order q) ≡ power_in A y (order q) → x ≡ y
  rank_injective r x y e = sub_eq_zeros x y (kernel_zero frobenius_matrix r (x ⊟ y)
      (sub_mul_mat x y frobenius_matrix ∙ ap₂ (λ u v. u ⊟ v) (mul-frobenius x) (mul-frobenius y) ∙ ap (λ z. z ⊟ power_in A y (order q)) e ∙ sub_self_mat (power_in A y (order q))))

  fixed_kernel : (x : Element A) → power_in A x (order q) ≡ x → x · (frobenius_matrix ⊟ one q A.size) ≡ zeros q 1 A.size
  fixed_kernel x e = mul_sub_mat x frobenius_matrix (one q A.size) ∙ ap₂ (λ u v. u ⊟ v) (mul-frobenius x ∙ e) (mul_one_mat x) ∙ sub_self_mat x

  kernel_fixed : (x : Element A) → x · (frobenius_matrix ⊟ one q A.size) ≡ zeros q 1 A.size → power_in A x (order q) ≡ x
  kernel_fixed x e = sub_eq_zeros (power_in A x (order q)) x (ap₂ (λ u v. u ⊟ v) (sym (mul-frobenius x)) (sym (mul_one_mat x)) ∙ sym (mul_sub_mat x frobenius_matrix (one q A.size)) ∙ e)

  pub fixed_line_rank : (v : Element A) → v ≢ zeros q 1 A.size → power_in A v (order q) ≡ v → ((y : Element A) → power_in A y (order q) ≡ y → (c : ℕ) × (y ≡ c ⊙ v)) → 1 + rank (frobenius_matrix ⊟ one q A.size) ≡ A.size
  fixed_line_rank v n e h = rank_of_line (frobenius_matrix ⊟ one q A.size) v n (fixed_kernel v e) (λ x z. in_line x (h x (kernel_fixed x z)))
    where
      in_line : (x : Element A) → (c : ℕ) × (x ≡ c ⊙ v) → IsInSpan v x
      in_line x s = subst (IsInSpan v) (sym s.1) (in_span_scale v s.0 v (in_span_self v))

  pub rank_fixed_line : 1 + rank (frobenius_matrix ⊟ one q A.size) ≡ A.size → (v : Element A) × (v ≢ zeros q 1 A.size) × (power_in A v (order q) ≡ v) × ((y : Element A) → power_in A y (order q) ≡ y → (c : ℕ) × (y ≡ c ⊙ v))
  rank_fixed_line r = let s = line_of_rank (frobenius_matrix ⊟ one q A.size) r in (s.0, s.1, kernel_fixed s.0 s.2, λ y e. s.3 y (fixed_kernel y e))
