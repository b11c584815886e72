-- A family of square matrices of size d whose products of two members are combinations of the family is nilpotent, so that every product
-- of d combinations is zero, or some combination of it fixes a row that is not zero. (The form that Wedderburn's theorem, Levitzki's theorem
-- and Nakayama's lemma take for row reduction.)
use Rattle.std.proofs.Common.{ℕ, zero, suc, ◌+◌, ◌-◌, ◌<◌, ◌≤◌, ◌≡◌, ◌≢◌, ◌⊎◌, inl, inr, sym, ap, ap₂, ◌∙◌, arith, subst}
use Rattle.std.proofs.lemmas.Bool.{cases_eq}
use Rattle.linear_algebra.specs.Field.{Gf}
use Rattle.linear_algebra.specs.Matrix.{Mat, Row, zeros, one, ◌⊞◌, ◌⊙◌, ◌·◌, stack}
use Rattle.linear_algebra.specs.Parts.{row, unit_column, left_part, right_part}
use Rattle.linear_algebra.specs.Rank.{IsInSpan, IsSeparate, Subspace}
use Rattle.linear_algebra.specs.Families.{IsCombination, ordered_product, HasFixedRow}
use Rattle.linear_algebra.proofs.MatrixLaws.{mul_assoc_mat, mul_one_mat, mul_zeros, mul_add_mat, mul_scale}
use Rattle.linear_algebra.proofs.Blocks.{beside_stack, no_rows_zeros}
use Rattle.linear_algebra.proofs.PartsLaws.{row-mul, beside_parts, scalar_mul, unit-row, unit_unit}
use Rattle.linear_algebra.proofs.Search.{search_or_all, zero_or_not}
use Rattle.linear_algebra.proofs.Solving.{solve_or, in_span_self, in_span_trans, in_span_mul, in_span_image, in_span_by_rows, row_in_span, separate_not_in_span}
use Rattle.linear_algebra.proofs.Steinitz.{through_none}
use Rattle.linear_algebra.proofs.Subspaces.{span_of, span_of-spans, span_of-spanned, descending_chain, inclusion_size, inclusion_equal, in_zero_subspace}
use Rattle.linear_algebra.proofs.Families.{mul_combine, combine_in_span, combination_none, combination_more, in_span_zeros, sum_of_spaces, sum_of_spaces-contains, sum_of_spaces-least, image_under, image_under-contains, image_under-least, image_under-in, image_under-combination, image_under-grows, empty_subspace}

-- all rows
unfoldable pub whole : (q : Gf) (n : ℕ) → Subspace q n
whole q n = record { size = n; basis = one q n; independent = record { inverse = one q n; is = mul_one_mat (one q n) } }

pub in_whole : {q : Gf} {k n : ℕ} (y : Mat q k n) → IsInSpan (whole q n).basis y
unfolding whole
in_whole y = record { by = y; is = mul_one_mat y }

-- the subspace U, its image under the family, the image of that, and so on
unfoldable pub images : {q : Gf} {n : ℕ} → ℕ → (ℕ → Mat q n n) → Subspace q n → ℕ → Subspace q n
images s g U zero = U
images s g U (suc k) = image_under s g (images s g U k)

-- the span of a · g 0, a · g 1, ..
unfoldable pub orbit : {q : Gf} {n : ℕ} → ℕ → (ℕ → Mat q n n) → Row q n → Subspace q n
orbit s g a = sum_of_spaces s (λ i. span_of (a · g i))

module _ {q : Gf} {d : ℕ} (s : ℕ) (g : ℕ → Mat q d d) where
  images-descend : (U : Subspace q d) → IsInSpan U.basis (image_under s g U).basis → (k : ℕ) → IsInSpan (images s g U k).basis (images s g U (suc k)).basis
  unfolding images
  images-descend U h zero = h
  images-descend U h (suc k) = image_under-grows s g (images s g U (suc k)) (images s g U k) (images-descend U h k)

  images-within : (U : Subspace q d) → IsInSpan U.basis (image_under s g U).basis → (k e : ℕ) → IsInSpan (images s g U k).basis (images s g U (k + e)).basis
  images-within U h k zero = let same : k ≡ k + 0 = omega arith in subst (λ i. IsInSpan (images s g U k).basis (images s g U i).basis) same (in_span_self (images s g U k).basis)
  images-within U h k (suc e) =
      let same : suc (k + e) ≡ k + suc e = omega arith in
      subst (λ i. IsInSpan (images s g U k).basis (images s g U i).basis) same
      (in_span_trans _ (images s g U (k + e)).basis _ (images-within U h k e) (images-descend U h (k + e)))

  images-inside : (U : Subspace q d) → IsInSpan U.basis (image_under s g U).basis → (k : ℕ) → IsInSpan U.basis (images s g U k).basis
  unfolding images
  images-inside U h zero = in_span_self U.basis
  images-inside U h (suc k) = in_span_trans U.basis (images s g U k).basis _ (images-inside U h k) (images-descend U h k)

  -- A product of k combinations has its rows in the place k of the chain.
  pub products_in : (h : ℕ → Mat q d d) (k : ℕ) → ((i : ℕ) → i < k → IsCombination s g (h i)) → IsInSpan (images s g (whole q d) k).basis (ordered_product h k)
  unfolding images ordered_product
  products_in h zero c = in_whole (one q d)
  products_in h (suc k) c = image_under-combination s g (images s g (whole q d) k) (ordered_product h k) (h k) (c k (omega arith)) (products_in h k (λ i l. c i (omega arith)))

  -- A subspace that is its own image, and is not zero.
  record IsStable (V : Subspace q d) : Type 0 where
    grows : IsInSpan (image_under s g V).basis V.basis
    shrinks : IsInSpan V.basis (image_under s g V).basis
    some : V.size ≢ 0

  record StableWithin (U : Subspace q d) : Type 0 where
    space : Subspace q d
    stable : IsStable space
    inside : IsInSpan U.basis space.basis

  settle : (U : Subspace q d) → IsInSpan U.basis (image_under s g U).basis → (images s g U d).size ≢ 0 → StableWithin U
  unfolding images
  settle U h n = elim (descending_chain (images s g U) (images-descend U h)) [
    | inl t ↦
        let later : IsInSpan (images s g U t.place).basis (images s g U d).basis =
        (let same : t.place + (d - t.place) ≡ d = omega (arith, t.place_below) in
        subst (λ i. IsInSpan (images s g U t.place).basis (images s g U i).basis) same (images-within U h t.place (d - t.place))) in
        let sizes = inclusion_size (images s g U d).basis (images s g U t.place).basis (images s g U d).independent later in
        record {
          space = images s g U t.place;
          stable = record { grows = t.back; shrinks = images-descend U h t.place; some = λ z. n (omega arith) };
          inside = images-inside U h t.place;
        }
    | inr z ↦ absurd (n z)
  ]

  -- The members of an orbit are the rows a · r, for r a combination of the family.
  record IsMultiple (t : ℕ) (a y : Row q d) : Type 0 where
    factor : Mat q d d
    in_family : IsCombination t g factor
    is : a · factor ≡ y

  multiple_sum : (t : ℕ) (a y z : Row q d) (v : Mat q 1 1) → IsMultiple t a y → v · (a · g t) ≡ z → IsMultiple (suc t) a (y ⊞ z)
  multiple_sum t a y z v m e = record {
    factor = m.factor ⊞ v.at 0 0 ⊙ g t;
    in_family = combination_more t g m.factor (v.at 0 0) m.in_family;
    is = mul_add_mat a m.factor (v.at 0 0 ⊙ g t) ∙ ap₂ (λ u w. u ⊞ w) m.is (mul_scale (v.at 0 0) a (g t) ∙ sym (scalar_mul v (a · g t)) ∙ e);
  }

  orbit_parts : (t k : ℕ) (a y : Row q d) (A : Mat q k d) (B : Subspace q d) (first : Row q k) (second : Row q B.size) → first · A ⊞ second · B.basis ≡ y
      → IsInSpan (a · g t) B.basis → ((z : Row q d) → IsInSpan A z → IsMultiple t a z) → IsMultiple (suc t) a y
  orbit_parts t k a y A B first second parts b before =
      let v = in_span_trans (a · g t) B.basis (second · B.basis) b (in_span_mul B.basis second) in
      subst (IsMultiple (suc t) a) parts (multiple_sum t a (first · A) (second · B.basis) v.by (before (first · A) (in_span_mul A first)) v.is)

  orbit_step : (t k : ℕ) (a y : Row q d) (A : Mat q k d) (B : Subspace q d) (w : Row q (k + B.size)) → w · stack A B.basis ≡ y
      → IsInSpan (a · g t) B.basis → ((z : Row q d) → IsInSpan A z → IsMultiple t a z) → IsMultiple (suc t) a y
  orbit_step t k a y A B w e b before =
      orbit_parts t k a y A B (left_part k B.size w) (right_part k B.size w)
      (sym (beside_stack (left_part k B.size w) (right_part k B.size w) A B.basis) ∙ ap (λ z. z · stack A B.basis) (beside_parts k B.size w) ∙ e) b before

  orbit_multiple : (t : ℕ) (a y : Row q d) → IsInSpan (sum_of_spaces t (λ i. span_of (a · g i))).basis y → IsMultiple t a y
  unfolding sum_of_spaces empty_subspace
  orbit_multiple zero a y m = record { factor = zeros q d d; in_family = combination_none g; is = mul_zeros a ∙ sym (sym m.is ∙ through_none m.by (zeros q 0 d)) }
  orbit_multiple (suc t) a y m =
      let S = sum_of_spaces t (λ i. span_of (a · g i)) in
      let B = span_of (a · g t) in
      let w = in_span_trans (stack S.basis B.basis) _ y (span_of-spanned (stack S.basis B.basis)) m in
      orbit_step t S.size a y S.basis B w.by w.is (span_of-spanned (a · g t)) (λ z i. orbit_multiple t a z i)

  orbit-contains : (a : Row q d) (i : ℕ) → i < s → IsInSpan (orbit s g a).basis (a · g i)
  unfolding orbit
  orbit-contains a i h = in_span_trans _ (span_of (a · g i)).basis _ (sum_of_spaces-contains s (λ i. span_of (a · g i)) i h) (span_of-spans (a · g i))

  -- An orbit lies in each stable subspace that its row lies in.
  orbit_within : (V : Subspace q d) (a : Row q d) → IsStable V → IsInSpan V.basis a → IsInSpan V.basis (orbit s g a).basis
  unfolding orbit
  orbit_within V a t m =
      subst (IsInSpan V.basis) (mul_one_mat _)
      (sum_of_spaces-least s (λ i. span_of (a · g i)) (one q d) V.basis (λ i h.
      subst (IsInSpan V.basis) (sym (mul_one_mat _))
      (in_span_trans V.basis (a · g i) _ (in_span_trans V.basis _ (a · g i) t.shrinks (image_under-in s g V a i h m)) (span_of-spanned (a · g i)))))

  module _ (closed : (i j : ℕ) → i < s → j < s → IsCombination s g (g i · g j)) where
    orbit_next : (a : Row q d) (i j : ℕ) → i < s → j < s → IsInSpan (orbit s g a).basis (a · g i · g j)
    orbit_next a i j h k =
        let c = closed i j h k in
        subst (IsInSpan (orbit s g a).basis) (sym (mul_combine s c.coefficients a g) ∙ ap (λ z. a · z) c.is ∙ sym (mul_assoc_mat a (g i) (g j)))
        (combine_in_span (orbit s g a).basis s c.coefficients (λ i. a · g i) (λ i h. orbit-contains a i h))

    orbit_member : (a : Row q d) (j : ℕ) → j < s → IsInSpan (orbit s g a).basis ((orbit s g a).basis · g j)
    unfolding orbit
    orbit_member a j k =
        sum_of_spaces-least s (λ i. span_of (a · g i)) (g j) (orbit s g a).basis (λ i h.
        in_span_trans _ (a · g i · g j) _ (orbit_next a i j h k) (in_span_image (a · g i) (span_of (a · g i)).basis (g j) (span_of-spanned (a · g i))))

    orbit_closed : (a : Row q d) → IsInSpan (orbit s g a).basis (image_under s g (orbit s g a)).basis
    orbit_closed a = image_under-least s g (orbit s g a) (orbit s g a).basis (λ j k. orbit_member a j k)

    -- If the orbits of all basis rows of a stable subspace die out, so does the subspace.
    module _ (V : Subspace q d) (t : IsStable V) where
      unfoldable orbits : ℕ → Subspace q d
      orbits k = sum_of_spaces V.size (λ j. images s g (orbit s g (row j V.basis)) k)

      first_orbits : IsInSpan (orbits 0).basis V.basis
      unfolding orbits images
      first_orbits =
          in_span_trans _ (image_under s g V).basis _
          (image_under-least s g V (orbits 0).basis (λ i h.
          in_span_by_rows (orbits 0).basis (V.basis · g i) (λ j l.
          subst (IsInSpan (orbits 0).basis) (sym (row-mul j V.basis (g i)))
          (in_span_trans _ (orbit s g (row j V.basis)).basis _ (sum_of_spaces-contains V.size (λ j. images s g (orbit s g (row j V.basis)) 0) j l) (orbit-contains (row j V.basis) i h)))))
          t.grows

      orbits_next : (k : ℕ) → IsInSpan (orbits (suc k)).basis (image_under s g (orbits k)).basis
      unfolding orbits images
      orbits_next k =
          image_under-least s g (orbits k) (orbits (suc k)).basis (λ i h.
          sum_of_spaces-least V.size (λ j. images s g (orbit s g (row j V.basis)) k) (g i) (orbits (suc k)).basis (λ j l.
          in_span_trans _ (images s g (orbit s g (row j V.basis)) (suc k)).basis _
          (sum_of_spaces-contains V.size (λ j. images s g (orbit s g (row j V.basis)) (suc k)) j l)
          (image_under-contains s g (images s g (orbit s g (row j V.basis)) k) i h)))

      in_orbits : (k : ℕ) → IsInSpan (orbits k).basis V.basis
      in_orbits zero = first_orbits
      in_orbits (suc k) =
          in_span_trans _ (image_under s g (orbits k)).basis _ (orbits_next k)
          (in_span_trans _ (image_under s g V).basis _ (image_under-grows s g V (orbits k) (in_orbits k)) t.grows)

      not_all_die : ((j : ℕ) → j < V.size → (images s g (orbit s g (row j V.basis)) d).size ≡ 0) → ⊥
      unfolding orbits
      not_all_die z =
          let nothing : IsInSpan (zeros q 0 d) (orbits d).basis =
          subst (IsInSpan (zeros q 0 d)) (mul_one_mat _)
          (sum_of_spaces-least V.size (λ j. images s g (orbit s g (row j V.basis)) d) (one q d) (zeros q 0 d) (λ j l.
          subst (IsInSpan (zeros q 0 d)) (sym (no_rows_zeros (z j l) ((images s g (orbit s g (row j V.basis)) d).basis · one q d))) (in_span_zeros _ (zeros q 0 d)))) in
          let sizes = inclusion_size V.basis (zeros q 0 d) V.independent (in_span_trans (zeros q 0 d) (orbits d).basis V.basis nothing (in_orbits d)) in
          t.some (omega arith)

    -- A stable subspace has a fixed row, or a smaller stable subspace in it.
    module _ (V : Subspace q d) (t : IsStable V) (j : ℕ) (l : j < V.size) (W : StableWithin (orbit s g (row j V.basis))) where
      row_here : IsInSpan V.basis (row j V.basis)
      row_here = row_in_span V.basis V.basis j (in_span_self V.basis)

      fixed_row : IsInSpan W.space.basis (row j V.basis) → HasFixedRow s g
      unfolding orbit
      fixed_row m =
          let r = orbit_multiple s (row j V.basis) (row j V.basis) (in_span_trans _ W.space.basis _ W.inside m) in
          record {
            element = r.factor;
            in_family = r.in_family;
            fixed = row j V.basis;
            functional = V.independent.inverse · unit_column q V.size j;
            nonzero = sym (mul_assoc_mat (row j V.basis) V.independent.inverse (unit_column q V.size j))
                ∙ ap (λ z. z · unit_column q V.size j) (sym (row-mul j V.basis V.independent.inverse) ∙ ap (row j) V.independent.is ∙ sym (unit-row q V.size j))
                ∙ unit_unit q V.size j l;
            is_fixed = r.is;
          }

      inside_V : IsInSpan V.basis W.space.basis
      inside_V = in_span_trans V.basis (orbit s g (row j V.basis)).basis _ (orbit_within V (row j V.basis) t row_here) W.inside

      smaller : IsSeparate W.space.basis (row j V.basis) → W.space.size < V.size
      smaller e =
          let sizes = inclusion_size W.space.basis V.basis W.space.independent inside_V in
          elim (cases_eq W.space.size V.size) [
            | inl same ↦ absurd (separate_not_in_span W.space.basis (row j V.basis) e (row_in_span W.space.basis V.basis j (inclusion_equal W.space.basis V.basis same W.space.independent inside_V)))
            | inr other ↦ omega arith
          ]

    Finds : ℕ → Type 0
    Finds bound = (V : Subspace q d) → IsStable V → V.size ≤ bound → HasFixedRow s g

    go_on : (bound : ℕ) → Finds bound → Finds (suc bound)
    unfolding Finds
    go_on bound next V t h = go (search_or_all V.size (λ j. (images s g (orbit s g (row j V.basis)) d).size ≢ 0) (λ j. (images s g (orbit s g (row j V.basis)) d).size ≡ 0) (λ j. zero_or_not _))
      where
        found : (j : ℕ) → j < V.size → (W : StableWithin (orbit s g (row j V.basis))) → IsInSpan W.space.basis (row j V.basis) ⊎ IsSeparate W.space.basis (row j V.basis) → HasFixedRow s g
        found j l W (inl m) = fixed_row V t j l W m
        found j l W (inr e) = let less = smaller V t j l W e in next W.space W.stable (omega arith)

        go : ((j : ℕ) × (j < V.size) × ((images s g (orbit s g (row j V.basis)) d).size ≢ 0)) ⊎ ((j : ℕ) → j < V.size → (images s g (orbit s g (row j V.basis)) d).size ≡ 0) → HasFixedRow s g
        go (inl f) =
            let (j, l, n) = f in
            let W = settle (orbit s g (row j V.basis)) (orbit_closed (row j V.basis)) n in
            found j l W (solve_or W.space.basis (row j V.basis))
        go (inr z) = absurd (not_all_die V t z)

    finds : (bound : ℕ) → Finds bound
    unfolding Finds
    finds zero = λ V t h. absurd (t.some (omega arith))
    finds (suc bound) = go_on bound (finds bound)

    pub nil_or_fixed : ((h : ℕ → Mat q d d) → ((i : ℕ) → i < d → IsCombination s g (h i)) → ordered_product h d ≡ zeros q d d) ⊎ HasFixedRow s g
    unfolding Finds
    nil_or_fixed = elim (cases_eq (images s g (whole q d) d).size 0) [
      | inl z ↦ inl (λ h c. in_zero_subspace (images s g (whole q d) d) (ordered_product h d) z (products_in h d c))
      | inr n ↦
          let W = settle (whole q d) (in_whole _) n in
          inr (finds W.space.size W.space W.stable (omega arith))
    ]
