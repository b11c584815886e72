-- A basis of a kernel modulo a span exists in reduced form, is the only one in that form, and may be told by its size.
use Rattle.std.proofs.Common.{ℕ, zero, ◌+◌, ◌<◌, ◌≡◌, sym, ap, ap₂, ◌∙◌, arith}
use Rattle.linear_algebra.specs.Field.{Gf}
use Rattle.linear_algebra.specs.Matrix.{Mat, Mat-eq_below, Row, zeros, one, ◌⊞◌, ◌⊟◌, ◌·◌, stack, beside}
use Rattle.linear_algebra.specs.Rank.{IsInSpan, HasRightInverse}
use Rattle.linear_algebra.specs.RowForm.{selector}
use Rattle.linear_algebra.proofs.MatrixLaws.{mul_assoc_mat, mul_zeros, zeros_mul, mul_add_mat}
use Rattle.linear_algebra.proofs.Blocks.{stack_mul, stack_zeros, beside_stack}
use Rattle.linear_algebra.proofs.Products.{products, sums, blocks}
use Rattle.linear_algebra.proofs.Solving.{in_span_trans, right_inverse_cancels, right_inverse_injective}
use Rattle.linear_algebra.proofs.Subspaces.{inclusion_size, inclusion_equal, independent_sum}
use Rattle.linear_algebra.proofs.Dimension.{complement, kernel_spans, rank, rank_is}
use Rattle.linear_algebra.proofs.RowForm.{reduced_form, reduced_independent, reduced_coefficients, mul_selector-at}
use Rattle.linear_algebra.proofs.RowFormUnique.{row_form_unique, rank_of_span}
use Rattle.linear_algebra.proofs.RankExists.{rank_factorisation}
use Rattle.linear_algebra.proofs.CoReducedUnique.{cleared_rest, cleared_rest-cleared, cleared_rest-congruent, cleared_rest-unique}
use Rattle.representations.proofs.MatrixExtras.{span_of_rows}
use Rattle.projectives.specs.BasisModulo.{IsBasisModulo, IsReducedModulo}

mul_difference : {q : Gf} {m k n : ℕ} (z : Mat q m k) (a b : Mat q k n) → z · (a ⊟ b) ≡ z · a ⊟ z · b
mul_difference z a b = simp (products)

-- A combination of rows one over the other.
pub combination_of_stack : {q : Gf} {m k n l : ℕ} (c : Mat q l (m + k)) (a : Mat q m n) (b : Mat q k n) → c · stack (one q m) (zeros q k m) · a ⊞ c · stack (zeros q m k) (one q k) · b ≡ c · stack a b
combination_of_stack {q} {m} {k} c a b =
    ap₂ (λ x y. x ⊞ y) (mul_assoc_mat c (stack (one q m) (zeros q k m)) a) (mul_assoc_mat c (stack (zeros q m k) (one q k)) b)
    ∙ sym (mul_add_mat c (stack (one q m) (zeros q k m) · a) (stack (zeros q m k) (one q k) · b))
    ∙ ap (λ z. c · z) (whole a b)
  where
    whole : {n : ℕ} (a : Mat q m n) (b : Mat q k n) → stack (one q m) (zeros q k m) · a ⊞ stack (zeros q m k) (one q k) · b ≡ stack a b
    whole a b = simp (blocks, products)

pub less_first : {q : Gf} {m n : ℕ} (a b : Mat q m n) → (a ⊞ b) ⊟ a ≡ b
less_first a b = simp (products, sums)

pub back : {q : Gf} {m n : ℕ} (a x : Mat q m n) → a ⊞ (x ⊟ a) ≡ x
back a x = simp (products, sums)

module _ {q : Gf} {m n l : ℕ} (C : Mat q m n) (D : Mat q n l) where
  -- the reduced row form of C, and the columns of its pivots
  abbrev base : Mat q (reduced_form C).size n
  base = (reduced_form C).rows

  abbrev chosen : Mat q n (reduced_form C).size
  chosen = selector q n (reduced_form C).size (reduced_form C).pivot

  -- zero at the pivots
  pub cleared_entries : {e : ℕ} (E : Mat q e n) → E · chosen ≡ zeros q e (reduced_form C).size → (r i : ℕ) → r < e → i < (reduced_form C).size → E.at r ((reduced_form C).pivot i) ≡ zero
  unfolding zeros
  cleared_entries {e} E z r i h k =
      sym (mul_selector-at (reduced_form C).size E (reduced_form C).pivot r i k ((reduced_form C).reduced.inside i k)) ∙ ap (λ (x : Mat q e (reduced_form C).size). x.at r i) z

  pub cleared_matrix : {e : ℕ} (E : Mat q e n) → IsReducedModulo C E → E · chosen ≡ zeros q e (reduced_form C).size
  unfolding zeros
  cleared_matrix {e} E s = Mat-eq_below _ _ (λ r i h k.
      mul_selector-at (reduced_form C).size E (reduced_form C).pivot r i k ((reduced_form C).reduced.inside i k) ∙ s.cleared r i h k)

  -- What is zero at the pivots and congruent modulo C is equal.
  cleared_equal : {k : ℕ} (x y : Mat q k n) → x · chosen ≡ zeros q k (reduced_form C).size → y · chosen ≡ zeros q k (reduced_form C).size → IsInSpan C (x ⊟ y) → x ≡ y
  cleared_equal x y z w s = cleared_rest-unique base (reduced_form C).pivot (reduced_form C).reduced x y z w (in_span_trans base C (x ⊟ y) (reduced_form C).spans s)

  cleared_combination : {e k : ℕ} (E : Mat q e n) → IsReducedModulo C E → (c : Mat q k e) → c · E · chosen ≡ zeros q k (reduced_form C).size
  cleared_combination E s c = mul_assoc_mat c E chosen ∙ ap (λ z. c · z) (cleared_matrix E s) ∙ mul_zeros c

  -- So the coefficients are determined.
  pub reduced_once : {e : ℕ} (E : Mat q e n) → IsReducedModulo C E → (c d : Row q e) → IsInSpan C (c · E ⊟ d · E) → c ≡ d
  reduced_once E s c d i = right_inverse_cancels E (reduced_independent E s.pivot s.reduced) c d
      (cleared_equal (c · E) (d · E) (cleared_combination E s c) (cleared_combination E s d) i)

  -- Existence: a basis of the kernel, cleared, and in reduced row form.
  module _ (complex : C · D ≡ zeros q m l) where
    base_kills : base · D ≡ zeros q (reduced_form C).size l
    base_kills = ap (λ z. z · D) (sym (reduced_form C).spanned.is) ∙ mul_assoc_mat (reduced_form C).spanned.by C D ∙ ap (λ z. (reduced_form C).spanned.by · z) complex ∙ mul_zeros (reduced_form C).spanned.by

    abbrev kernel : Mat q (complement D).nullity n
    kernel = (complement D).kernel

    abbrev rest : Mat q (complement D).nullity n
    rest = cleared_rest base (reduced_form C).pivot (reduced_form C).reduced kernel

    rest_kills : rest · D ≡ zeros q (complement D).nullity l
    unfolding cleared_rest
    rest_kills = simp (products, (complement D).kernel_kills, base_kills)

    abbrev pub canonical : Mat q (reduced_form rest).size n
    canonical = (reduced_form rest).rows

    from_rest : {k : ℕ} (g : Mat q n k) → rest · g ≡ zeros q (complement D).nullity k → canonical · g ≡ zeros q (reduced_form rest).size k
    from_rest g z = ap (λ x. x · g) (sym (reduced_form rest).spanned.is) ∙ mul_assoc_mat (reduced_form rest).spanned.by rest g ∙ ap (λ x. (reduced_form rest).spanned.by · x) z ∙ mul_zeros (reduced_form rest).spanned.by

    pub canonical_reduced : IsReducedModulo C canonical
    canonical_reduced = record {
      pivot = (reduced_form rest).pivot;
      reduced = (reduced_form rest).reduced;
      cleared = cleared_entries canonical (from_rest chosen (cleared_rest-cleared base (reduced_form C).pivot (reduced_form C).reduced kernel));
    }

    congruent : IsInSpan C (kernel ⊟ rest)
    congruent = in_span_trans C base (kernel ⊟ rest) (reduced_form C).spanned (cleared_rest-congruent base (reduced_form C).pivot (reduced_form C).reduced kernel)

    reached : (x : Row q n) → IsInSpan kernel x → (c : Row q (reduced_form rest).size) × IsInSpan C (x ⊟ c · canonical)
    reached x s =
        let y = (reduced_form rest).spans in
        let first : s.by · kernel ≡ x = s.is in
        let second : s.by · rest ≡ s.by · y.by · canonical = ap (λ z. s.by · z) (sym y.is) ∙ sym (mul_assoc_mat s.by y.by canonical) in
        (s.by · y.by, record { by = s.by · congruent.by; is = mul_assoc_mat s.by congruent.by C ∙ ap (λ z. s.by · z) congruent.is ∙ mul_difference s.by kernel rest ∙ ap₂ (λ a b. a ⊟ b) first second })

    pub canonical_basis : IsBasisModulo C D canonical
    canonical_basis = record {
      kills = from_rest D rest_kills;
      spans = λ x z. reached x (kernel_spans D (complement D) x z);
      once = reduced_once canonical canonical_reduced;
    }

  -- Two such bases in reduced form are equal.
  inside_other : {e f : ℕ} (E : Mat q e n) (F : Mat q f n) → IsBasisModulo C D E → IsReducedModulo C E → IsBasisModulo C D F → IsReducedModulo C F → IsInSpan E F
  inside_other E F b r c s = span_of_rows E F (λ x.
      let y = b.spans (x · F) (mul_assoc_mat x F D ∙ ap (λ z. x · z) c.kills ∙ mul_zeros x) in
      record { by = y.0; is = sym (cleared_equal (x · F) (y.0 · E) (cleared_combination F s x) (cleared_combination E r y.0) y.1) })

  pub basis_unique : {e f : ℕ} (E : Mat q e n) (F : Mat q f n) → IsBasisModulo C D E → IsReducedModulo C E → IsBasisModulo C D F → IsReducedModulo C F → (e ≡ f) × ((i j : ℕ) → E.at i j ≡ F.at i j)
  basis_unique E F b r c s = row_form_unique E F r.pivot s.pivot r.reduced s.reduced (inside_other F E c s b r) (inside_other E F b r c s)

  -- The rows of E and the reduced rows of C are a basis of the kernel: so sizes are determined, and a reduced matrix of the right size is a basis.
  module _ (complex : C · D ≡ zeros q m l) {e : ℕ} (E : Mat q e n) (kills : E · D ≡ zeros q e l) (r : IsReducedModulo C E) where
    both : (c : Row q e) (d : Row q (reduced_form C).size) → c · E ≡ d · base → (c ≡ zeros q 1 e) × (d ≡ zeros q 1 (reduced_form C).size)
    both c d s =
        let none : d ≡ zeros q 1 (reduced_form C).size = sym (reduced_coefficients base (reduced_form C).pivot (reduced_form C).reduced d) ∙ ap (λ z. z · chosen) (sym s) ∙ cleared_combination E r c in (
          right_inverse_injective E (reduced_independent E r.pivot r.reduced) c (s ∙ ap (λ z. z · base) none ∙ zeros_mul base),
          none,
        )

    abbrev together : Mat q (e + (reduced_form C).size) n
    together = stack E base

    together_independent : HasRightInverse together
    together_independent = independent_sum E base both

    together_kills : together · D ≡ zeros q (e + (reduced_form C).size) l
    together_kills = stack_mul E base D ∙ ap₂ (λ a b. stack a b) kills (base_kills complex) ∙ stack_zeros q e (reduced_form C).size l

    in_kernel : IsInSpan (complement D).kernel together
    in_kernel = kernel_spans D (complement D) together together_kills

    -- sizes
    span_rank : rank C ≡ (reduced_form C).size
    span_rank = rank_is (rank_factorisation C) ∙ rank_of_span C base (reduced_independent base (reduced_form C).pivot (reduced_form C).reduced) (reduced_form C).spans (reduced_form C).spanned (rank_factorisation C)

    kernel_rank : (complement D).nullity + rank D ≡ n
    kernel_rank = let s = rank_is (complement D).rank in let t = (complement D).rank_nullity in omega arith

    from_together : (x : Row q n) → IsInSpan together x → (c : Row q e) × IsInSpan C (x ⊟ c · E)
    from_together x s =
        let c = s.by · stack (one q e) (zeros q (reduced_form C).size e) in
        let d = s.by · stack (zeros q e (reduced_form C).size) (one q (reduced_form C).size) in (
          c,
          in_span_trans C base (x ⊟ c · E) (reduced_form C).spanned (record { by = d; is = sym (ap (λ z. z ⊟ c · E) (sym s.is ∙ sym (combination_of_stack s.by E base)) ∙ less_first (c · E) (d · base)) }),
        )

    pub basis_by_size : e + rank C + rank D ≡ n → IsBasisModulo C D E
    basis_by_size h =
        let t : e + (reduced_form C).size ≡ (complement D).nullity = let a = span_rank in let b = kernel_rank in omega arith in
        let s = inclusion_equal together (complement D).kernel t together_independent in_kernel in
        record {
          kills = kills;
          spans = λ x z. from_together x (in_span_trans together (complement D).kernel x s (kernel_spans D (complement D) x z));
          once = reduced_once E r;
        }

    in_together : ((x : Row q n) → x · D ≡ zeros q 1 l → (c : Row q e) × IsInSpan C (x ⊟ c · E)) → IsInSpan together (complement D).kernel
    in_together spans = span_of_rows together (complement D).kernel (λ y.
        let x = y · (complement D).kernel in
        let s = spans x (mul_assoc_mat y (complement D).kernel D ∙ ap (λ z. y · z) (complement D).kernel_kills ∙ mul_zeros y) in
        let b = in_span_trans base C (x ⊟ s.0 · E) (reduced_form C).spans s.1 in
        record { by = beside s.0 b.by; is = beside_stack s.0 b.by E base ∙ ap (λ z. s.0 · E ⊞ z) b.is ∙ back (s.0 · E) x })

    pub basis_size : IsBasisModulo C D E → e + rank C + rank D ≡ n
    basis_size b =
        let h = inclusion_size together (complement D).kernel together_independent in_kernel in
        let k = inclusion_size (complement D).kernel together (record { inverse = (complement D).retraction; is = (complement D).kernel_retracts }) (in_together b.spans) in
        let s = span_rank in let t = kernel_rank in omega arith
