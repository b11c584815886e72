-- Subalgebras and their ideals: it is enough to multiply rows; only the spans count; a subalgebra by independent rows is embedded.
use Rattle.std.proofs.Common.{ℕ, ◌<◌, sym, ap₂, ◌∙◌, subst, ◌≡◌}
use Rattle.linear_algebra.specs.Field.{Gf}
use Rattle.linear_algebra.specs.Matrix.{Mat, ◌⊙◌, ◌⊟◌, ◌·◌}
use Rattle.linear_algebra.specs.Parts.{row}
use Rattle.linear_algebra.specs.Rank.{IsInSpan, HasRightInverse}
use Rattle.linear_algebra.proofs.MatrixLaws.{mul_sub_mat}
use Rattle.linear_algebra.proofs.PartsLaws.{row-mul}
use Rattle.linear_algebra.proofs.Solving.{in_span_trans, in_span_by_rows, in_span_image}
use Rattle.local_modules.specs.Algebra.{Algebra, Element}
use Rattle.local_modules.specs.Ideal.{IsCongruent}
use Rattle.local_modules.specs.Subalgebra.{IsSubalgebra, IsEmbedding, IsIdealOf, CommutesModulo, IsFrobeniusOf, IsUnitOf, IsListedOf, coordinates_equal, times_is, subalgebra}
use Rattle.local_modules.proofs.AlgebraLaws.{left_matrix, right_matrix, mul-left_matrix, mul-right_matrix}

-- Where the rows of f times G are in the span of h, so are the members of the span of f times G.
images_by_rows : {q : Gf} {m n p k : ℕ} (f : Mat q m n) (G : Mat q n p) (h : Mat q k p) → ((i : ℕ) → i < m → IsInSpan h (row i f · G))
    → (x : Mat q 1 n) → IsInSpan f x → IsInSpan h (x · G)
images_by_rows f G h r x s = in_span_trans h (f · G) (x · G) (in_span_by_rows h (f · G) (λ i b. subst (IsInSpan h) (sym (row-mul i f G)) (r i b))) (in_span_image f x G s)

-- Where the products of the rows of f and of g are in the span of h, so are those of the members of their spans.
module _ {q : Gf} (E : Algebra q) {m n k : ℕ} (f : Mat q m E.size) (g : Mat q n E.size) (h : Mat q k E.size) where
  pub products_by_rows : ((i j : ℕ) → i < m → j < n → IsInSpan h (E.product (row i f) (row j g))) → (x y : Element E) → IsInSpan f x → IsInSpan g y → IsInSpan h (E.product x y)
  products_by_rows p x y s t =
      subst (IsInSpan h) (mul-right_matrix E x y) (images_by_rows f (right_matrix E y) h (λ i b. subst (IsInSpan h) (sym (mul-right_matrix E (row i f) y)) (row_times i b)) x s)
    where
      row_times : (i : ℕ) → i < m → IsInSpan h (E.product (row i f) y)
      row_times i b =
          subst (IsInSpan h) (mul-left_matrix E (row i f) y) (images_by_rows g (left_matrix E (row i f)) h (λ j c. subst (IsInSpan h) (sym (mul-left_matrix E (row i f) (row j g))) (p i j b c)) y t)

pub subalgebra_by_rows : {q : Gf} (E : Algebra q) {n : ℕ} (ring : Mat q n E.size) → IsInSpan ring E.unit
    → ((i j : ℕ) → i < n → j < n → IsInSpan ring (E.product (row i ring) (row j ring))) → IsSubalgebra E ring
subalgebra_by_rows E ring u p = record { has_unit = u; has_products = products_by_rows E ring ring ring p }

-- The products with x on both sides, less each other.
module _ {q : Gf} (E : Algebra q) (x y : Element E) where
  commutator_is : y · (left_matrix E x ⊟ right_matrix E x) ≡ E.product x y ⊟ E.product y x
  commutator_is = mul_sub_mat y (left_matrix E x) (right_matrix E x) ∙ ap₂ (λ a b. a ⊟ b) (mul-left_matrix E x y) (mul-right_matrix E y x)

  commutator_back : x · (right_matrix E y ⊟ left_matrix E y) ≡ E.product x y ⊟ E.product y x
  commutator_back = mul_sub_mat x (right_matrix E y) (left_matrix E y) ∙ ap₂ (λ a b. a ⊟ b) (mul-right_matrix E x y) (mul-left_matrix E y x)

module _ {q : Gf} (E : Algebra q) {n k : ℕ} (ring : Mat q n E.size) (ideal : Mat q k E.size) where
  pub ideal_by_rows : ((i j : ℕ) → i < n → j < k → IsInSpan ideal (E.product (row i ring) (row j ideal)))
      → ((i j : ℕ) → i < n → j < k → IsInSpan ideal (E.product (row j ideal) (row i ring))) → IsIdealOf E ring ideal
  ideal_by_rows p r = record {
    left = λ a x s t. products_by_rows E ring ideal ideal p a x s t;
    right = λ a x s t. products_by_rows E ideal ring ideal (λ j i b c. r i j c b) x a t s;
  }

  pub commutes_by_rows : ((i j : ℕ) → i < n → j < n → IsCongruent ideal (E.product (row i ring) (row j ring)) (E.product (row j ring) (row i ring))) → CommutesModulo E ring ideal
  commutes_by_rows p x y s t =
      subst (IsInSpan ideal) (commutator_back E x y) (images_by_rows ring (right_matrix E y ⊟ left_matrix E y) ideal (λ i b. subst (IsInSpan ideal) (sym (commutator_back E (row i ring) y)) (row_commutes i b)) x s)
    where
      row_commutes : (i : ℕ) → i < n → IsCongruent ideal (E.product (row i ring) y) (E.product y (row i ring))
      row_commutes i b = subst (IsInSpan ideal) (commutator_is E (row i ring) y)
          (images_by_rows ring (left_matrix E (row i ring) ⊟ right_matrix E (row i ring)) ideal (λ j c. subst (IsInSpan ideal) (sym (commutator_is E (row i ring) (row j ring))) (p i j b c)) y t)

-- The same ring and the same ideal by other rows.
module _ {q : Gf} (E : Algebra q) {m n : ℕ} (ring : Mat q m E.size) (f : Mat q n E.size) (forth : IsInSpan ring f) (back : IsInSpan f ring) where
  pub subalgebra_same : IsSubalgebra E f → IsSubalgebra E ring
  subalgebra_same h = record {
    has_unit = in_span_trans ring f E.unit forth h.has_unit;
    has_products = λ x y s t. in_span_trans ring f (E.product x y) forth (h.has_products x y (in_span_trans f ring x back s) (in_span_trans f ring y back t));
  }

module _ {q : Gf} (E : Algebra q) {m n k l : ℕ} (ring : Mat q m E.size) (f : Mat q n E.size) (ideal : Mat q k E.size) (J : Mat q l E.size)
    (ring_forth : IsInSpan ring f) (ring_back : IsInSpan f ring) (ideal_forth : IsInSpan ideal J) (ideal_back : IsInSpan J ideal) where
  from_f : (x : Element E) → IsInSpan f x → IsInSpan ring x
  from_f x s = in_span_trans ring f x ring_forth s

  to_f : (x : Element E) → IsInSpan ring x → IsInSpan f x
  to_f x s = in_span_trans f ring x ring_back s

  from_J : (x : Element E) → IsInSpan J x → IsInSpan ideal x
  from_J x s = in_span_trans ideal J x ideal_forth s

  to_J : (x : Element E) → IsInSpan ideal x → IsInSpan J x
  to_J x s = in_span_trans J ideal x ideal_back s

  multiple : (y v : Element E) → (s : ℕ) × IsCongruent J y (s ⊙ v) → (s : ℕ) × IsCongruent ideal y (s ⊙ v)
  multiple y v t = (t.0, from_J _ t.1)

  pub ideal_of_same : IsIdealOf E f J → IsIdealOf E ring ideal
  ideal_of_same h = record {
    left = λ a x s t. from_J _ (h.left a x (to_f a s) (to_J x t));
    right = λ a x s t. from_J _ (h.right a x (to_f a s) (to_J x t));
  }

  pub commutes_same : CommutesModulo E f J → CommutesModulo E ring ideal
  commutes_same h x y s t = from_J _ (h x y (to_f x s) (to_f y t))

  pub frobenius_of_same : IsFrobeniusOf E f J → IsFrobeniusOf E ring ideal
  frobenius_of_same h = record {
    commutative = commutes_same h.commutative;
    injective = λ x y s t e. from_J _ (h.injective x y (to_f x s) (to_f y t) (to_J _ e));
    fixed = h.fixed;
    fixed_inside = from_f h.fixed h.fixed_inside;
    fixed_nonzero = λ s. h.fixed_nonzero (to_J h.fixed s);
    is_fixed = from_J _ h.is_fixed;
    all_fixed = λ y s e. multiple y h.fixed (h.all_fixed y (to_f y s) (to_J _ e));
  }

  unit_of_same : (x : Element E) → IsUnitOf E f J x → IsUnitOf E ring ideal x
  unit_of_same x u = record { inverse = u.inverse; inside = from_f u.inverse u.inside; right = from_J _ u.right; left = from_J _ u.left }

  pub listed_of_same : IsListedOf E f J → IsListedOf E ring ideal
  listed_of_same h = record {
    not_commutative = λ c. h.not_commutative (λ x y s t. to_J _ (c x y (from_f x s) (from_f y t)));
    inverses = λ x s n. unit_of_same x (h.inverses x (to_f x s) (λ z. n (from_J x z)));
  }

-- Independent rows: the subalgebra in coordinates over them.
pub subalgebra_embedded : {q : Gf} (E : Algebra q) {n : ℕ} (ring : Mat q n E.size) (independent : HasRightInverse ring) (closed : IsSubalgebra E ring) → IsEmbedding (subalgebra E ring independent closed) E ring
subalgebra_embedded E ring independent closed = record {
  product = times_is E ring independent closed;
  unit = closed.has_unit.is;
  once = coordinates_equal E ring independent closed;
}
