-- The form of a residue ring, by the ranks of what is left of rows modulo an ideal.
use Rattle.std.proofs.Common.{ℕ, ◌<◌, ◌≡◌, ◌+◌, inl, inr, sym, ap, ap₂, ◌∙◌, arith, subst}
use Rattle.std.proofs.lemmas.Bool.{cases_lt}
use Rattle.linear_algebra.specs.Field.{Gf, order, neg, sub}
use Rattle.linear_algebra.specs.Matrix.{Mat, negative, ◌⊞◌, ◌⊟◌, ◌⊙◌, ◌·◌}
use Rattle.linear_algebra.specs.Parts.{row}
use Rattle.linear_algebra.specs.Rank.{IsInSpan, HasRightInverse}
use Rattle.linear_algebra.specs.RowForm.{IsRowReduced}
use Rattle.linear_algebra.specs.Ranks.{rank}
use Rattle.linear_algebra.proofs.MatrixLaws.{difference, sub-at, negative_mul, negative_sum, negative_negative, add_zeros, zero_scale, one_scale, neg_scale, add_assoc_mat, zeros_add, add_negative}
use Rattle.linear_algebra.proofs.PartsLaws.{row-at, Row-eq}
use Rattle.linear_algebra.proofs.Solving.{in_span_by_rows, in_span_self}
use Rattle.projectives.specs.Projective.{of_rows}
use Rattle.projectives.specs.Yoneda.{row-of_rows}
use Rattle.local_modules.specs.Algebra.{Algebra, Element, power_in}
use Rattle.local_modules.specs.Residue.{ResidueRing, IsRemainder}
use Rattle.local_modules.specs.Subalgebra.{IsSubalgebra, IsIdealOf, CommutesModulo, IsFrobeniusOf, subalgebra}
use Rattle.local_modules.proofs.Subalgebras.{subalgebra_embedded}
use Rattle.local_modules.proofs.Embeddings.{embedded_ideal}
use Rattle.local_modules.proofs.ResidueRing.{residue}
use Rattle.local_modules.proofs.ResidueRows.{residue_size, frobenius_from_ranks, ranks_from_frobenius}

-- Rows one by one are the rows of a matrix less a combination of the rows of J.
pub remainder_by_rows : {q : Gf} {m l n : ℕ} (J : Mat q l n) (pivot : ℕ → ℕ) (p rest : Mat q m n) → ((i : ℕ) → i < m → IsInSpan J (row i p ⊟ row i rest)) → ((i t : ℕ) → i < m → t < l → (row i rest).at 0 (pivot t) ≡ 0)
    → IsRemainder J pivot p rest
remainder_by_rows {q} {m} {l} {n} J pivot p rest d c =
    let s : IsInSpan J (p ⊟ rest) = in_span_by_rows J (p ⊟ rest) (λ i h. subst (IsInSpan J) (sym (row-difference i p rest)) (d i h)) in
    record {
      by = negative s.by;
      is = back p rest (s.by · J) s.is ∙ ap (λ w. p ⊞ w) (sym (negative_mul s.by J));
      clear = λ r t h. elim (cases_lt r m) [
        | inl b ↦ sym (row-at r rest (pivot t)) ∙ c r t b h
        | inr b ↦ rest.fits.below r (pivot t) b
      ];
    }
  where
    row-difference : (i : ℕ) (a b : Mat q m n) → row i (a ⊟ b) ≡ row i a ⊟ row i b
    row-difference i a b = Row-eq _ _ (λ j k. row-at i (a ⊟ b) j ∙ sub-at a b i j ∙ sym (sub-at (row i a) (row i b) 0 j ∙ ap₂ (sub q) (row-at i a j) (row-at i b j)))

    back : (a b c : Mat q m n) → c ≡ a ⊟ b → b ≡ a ⊞ negative c
    back a b c e = sym (ap (λ z. a ⊞ negative z) (e ∙ difference a b) ∙ ap (λ z. a ⊞ z) (negative_sum a (negative b) ∙ ap (λ z. negative a ⊞ z) (negative_negative b)) ∙ sym (add_assoc_mat a (negative a) b) ∙ ap (λ z. z ⊞ b) (add_negative a) ∙ zeros_add b)

-- The q-th powers of rows, and `factor` times the rows.
module _ {q : Gf} (E : Algebra q) {n : ℕ} (f : Mat q n E.size) where
  abbrev pub powers : Mat q n E.size
  powers = of_rows n (λ i. power_in E (row i f) (order q))

  pub are_powers : (i : ℕ) → i < n → row i powers ≡ power_in E (row i f) (order q)
  are_powers i h = row-of_rows n (λ i. power_in E (row i f) (order q)) i h

  pub no_factor : (x y : Element E) → x ⊞ 0 ⊙ y ≡ x
  no_factor x y = ap (λ z. x ⊞ z) (zero_scale y) ∙ add_zeros x

  pub less_factor : (x y : Element E) → x ⊞ neg q 1 ⊙ y ≡ x ⊟ y
  less_factor x y = ap (λ z. x ⊞ z) (neg_scale 1 y ∙ ap negative (one_scale y)) ∙ sym (difference x y)

  pub less_row : (i : ℕ) → i < n → row i (powers ⊟ f) ≡ power_in E (row i f) (order q) ⊟ row i f
  less_row i h = Row-eq _ _ (λ j k. row-at i (powers ⊟ f) j ∙ sub-at powers f i j
      ∙ sym (sub-at (power_in E (row i f) (order q)) (row i f) 0 j ∙ ap₂ (sub q) (sym (ap (λ (w : Element E). w.at 0 j) (are_powers i h)) ∙ row-at i powers j) (row-at i f j)))

module _ {q : Gf} (E : Algebra q) {n l : ℕ} (f : Mat q n E.size) (independent : HasRightInverse f) (closed : IsSubalgebra E f) (J : Mat q l E.size) (pivot : ℕ → ℕ) (reduced : IsRowReduced J pivot)
    (inside : IsInSpan f J) (ideal : IsIdealOf E f J) (commutes : CommutesModulo E f J) (first second : Mat q n E.size) (c : IsRemainder J pivot (powers E f) first) (d : IsRemainder J pivot (powers E f ⊟ f) second) where
  abbrev A : Algebra q
  A = subalgebra E f independent closed

  abbrev I : Mat q l A.size
  I = inside.by

  ideal_at : IsIdealOf E f (I · f)
  ideal_at = subst (λ (z : Mat q l E.size). IsIdealOf E f z) (sym inside.is) ideal

  commutes_at : CommutesModulo E f (I · f)
  commutes_at = subst (λ (z : Mat q l E.size). CommutesModulo E f z) (sym inside.is) commutes

  abbrev R : ResidueRing A I
  R = residue A I (embedded_ideal A E f (subalgebra_embedded E f independent closed) I ideal_at)

  forth : IsInSpan (I · f) J
  forth = subst (λ (z : Mat q l E.size). IsInSpan z J) (sym inside.is) (in_span_self J)

  back : IsInSpan J (I · f)
  back = subst (λ (z : Mat q l E.size). IsInSpan J z) (sym inside.is) (in_span_self J)

  size : l + R.ring.size ≡ n
  size = residue_size A E f (subalgebra_embedded E f independent closed) independent I R J pivot reduced forth back

  pub frobenius_of_ranks : (a b : ℕ) → rank first ≡ a → rank second ≡ b → l + a ≡ n → l + (1 + b) ≡ n → IsFrobeniusOf E f J
  frobenius_of_ranks a b e g h k = subst (λ (z : Mat q l E.size). IsFrobeniusOf E f z) inside.is
      (frobenius_from_ranks A E f (subalgebra_embedded E f independent closed) independent I R J pivot reduced forth back commutes_at (powers E f) first second (are_powers E f) c d
      (let s = size in omega (arith, s, e, h)) (let s = size in omega (arith, s, g, k)))

  pub ranks_of_frobenius : (a b : ℕ) → rank first ≡ a → rank second ≡ b → IsFrobeniusOf E f J → (l + a ≡ n) × (l + (1 + b) ≡ n)
  ranks_of_frobenius a b e g h =
      let r = ranks_from_frobenius A E f (subalgebra_embedded E f independent closed) independent I R J pivot reduced forth back commutes_at (powers E f) first second (are_powers E f) c d
      (subst (λ (z : Mat q l E.size). IsFrobeniusOf E f z) (sym inside.is) h) in
      let x = r.0 in let y = r.1 in
      (let s = size in omega (arith, s, e, x), let s = size in omega (arith, s, g, y))
