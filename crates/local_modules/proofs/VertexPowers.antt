-- Powers of an ideal of a matrix algebra, vertex by vertex: they are zero exactly where the images of all rows at the vertices are, and if some power
-- is zero then so is the one whose number is the largest dimension at a vertex.
use Rattle.std.proofs.Common.{ℕ, zero, suc, ◌+◌, ◌-◌, ◌<◌, ◌≤◌, ◌≡◌, ◌≢◌, ◌⊎◌, inl, inr, sym, ap, ◌∙◌, arith, subst}
use Rattle.std.proofs.lemmas.Bool.{cases_lt}
use Rattle.linear_algebra.specs.Field.{Gf}
use Rattle.linear_algebra.specs.Matrix.{Mat, Row, zeros, ◌·◌}
use Rattle.linear_algebra.specs.Parts.{row, unit}
use Rattle.linear_algebra.specs.Rank.{IsInSpan}
use Rattle.linear_algebra.specs.Families.{combine, IsCombination, ordered_product, HasFixedRow}
use Rattle.linear_algebra.specs.LinearMaps.{IsLinear}
use Rattle.linear_algebra.specs.Powers.{mat_power}
use Rattle.linear_algebra.proofs.MatrixLaws.{zeros_mul}
use Rattle.linear_algebra.proofs.Inverses.{mat_power-zero, mat_power-suc}
use Rattle.linear_algebra.proofs.Search.{search_or_all}
use Rattle.linear_algebra.proofs.Blocks.{no_rows_zeros}
use Rattle.linear_algebra.proofs.LinearMaps.{linear_combine, mul_rows, as_units}
use Rattle.linear_algebra.proofs.Solving.{in_span_self, row_in_span}
use Rattle.linear_algebra.proofs.NilOrFixed.{whole, images, nil_or_fixed}
use Rattle.linear_algebra.proofs.FamilyPowers.{images_vanish, vanishing_images, products_vanish, ordered_product-none, ordered_product-first, ordered_product-last, ordered_product-add}
use Rattle.representations.specs.Quiver.{Quiver}
use Rattle.representations.specs.Rep.{Rep}
use Rattle.representations.specs.Hom.{Hom-eq}
use Rattle.representations.proofs.Homs.{compose-at, identity-at, zero_hom-at, sum-at, multiple-at, same-at, power-at}
use Rattle.local_modules.specs.Algebra.{Algebra, Element, product_in, IsNilpotentIn, IsMixed}
use Rattle.local_modules.specs.Ideal.{IsTwoSided, PowerVanishes, IsLeastPower}
use Rattle.local_modules.specs.MatrixAlgebra.{MatrixAlgebra, algebra_of, composite_sum, composite_multiple, composite_associates}
use Rattle.local_modules.proofs.AlgebraLaws.{product_in-none, product_in-last, unit_first, nilpotent_no_unit}
use Rattle.local_modules.proofs.NilIdeals.{fixed_row_not_nilpotent}
use Rattle.local_modules.proofs.Endomorphisms.{element-zeros, element-power, unit_nonzero}

-- Products.
ordered_product-constant : {q : Gf} {n : ℕ} (r : Mat q n n) (s : ℕ) → ordered_product (λ i. r) s ≡ mat_power r s
ordered_product-constant r zero = ordered_product-none (λ i. r) ∙ sym (mat_power-zero r)
ordered_product-constant r (suc s) = ordered_product-first (λ i. r) s ∙ ap (λ z. r · z) (ordered_product-constant r s) ∙ sym (mat_power-suc r s)

-- A product whose first factors make zero is zero.
long_product : {q : Gf} {n : ℕ} (k d : ℕ) → k ≤ d → (h : ℕ → Mat q n n) → ordered_product h k ≡ zeros q n n → ordered_product h d ≡ zeros q n n
long_product k d l h z =
    let split : k + (d - k) ≡ d = omega arith in
    ap (ordered_product h) (sym split) ∙ ordered_product-add h k (d - k) ∙ ap (λ z. z · ordered_product (λ i. h (k + i)) (d - k)) z ∙ zeros_mul (ordered_product (λ i. h (k + i)) (d - k))

module _ {q : Gf} {Q : Quiver} {X : Rep q Q} (M : MatrixAlgebra X) where
  abbrev A : Algebra q
  A = algebra_of M

  pub product_at : (v : ℕ) (h : ℕ → Element A) (s : ℕ) → (M.element (product_in A h s)).at v ≡ ordered_product (λ i. (M.element (h i)).at v) s
  product_at v h zero = same-at (ap M.element (product_in-none A h) ∙ M.one_is) v ∙ identity-at X v ∙ sym (ordered_product-none (λ i. (M.element (h i)).at v))
  product_at v h (suc s) =
      same-at (ap M.element (product_in-last A h s) ∙ M.composite_is (product_in A h s) (h s)) v ∙ compose-at (M.element (product_in A h s)) (M.element (h s)) v
      ∙ ap (λ z. z · (M.element (h s)).at v) (product_at v h s) ∙ sym (ordered_product-last (λ i. (M.element (h i)).at v) s)

  pub at_linear : (v : ℕ) → IsLinear (λ (x : Element A). (M.element x).at v)
  at_linear v = record {
    sum = λ x y. same-at (M.element_sum x y) v ∙ sum-at (M.element x) (M.element y) v;
    multiple = λ c x. same-at (M.element_multiple c x) v ∙ multiple-at c (M.element x) v;
  }

  -- What vanishes at each vertex is zero.
  pub zero_at_vertices : (x : Element A) → ((v : ℕ) → (M.element x).at v ≡ zeros q (X.dim v) (X.dim v)) → x ≡ zeros q 1 M.size
  zero_at_vertices x h = M.once _ _ (Hom-eq _ _ (λ v. h v ∙ sym (zero_hom-at X X v)) ∙ sym (element-zeros M))

  pub vertices_of_zero : (x : Element A) → x ≡ zeros q 1 M.size → (v : ℕ) → (M.element x).at v ≡ zeros q (X.dim v) (X.dim v)
  vertices_of_zero x e v = same-at (ap M.element e ∙ element-zeros M) v ∙ zero_hom-at X X v

  module _ {k : ℕ} (I : Mat q k M.size) where
    -- the matrices of the ideal's rows at a vertex
    abbrev generators_at : (v : ℕ) → ℕ → Mat q (X.dim v) (X.dim v)
    generators_at v j = (M.element (row j I)).at v

    pub member_at : (v : ℕ) (x : Element A) → IsInSpan I x → IsCombination k (generators_at v) ((M.element x).at v)
    member_at v x s = record {
      coefficients = s.by.at 0;
      is = sym (linear_combine (λ (x : Element A). (M.element x).at v) (at_linear v) k (s.by.at 0) (λ j. row j I)) ∙ ap (λ z. (M.element z).at v) (sym (mul_rows s.by I) ∙ s.is);
    }

    -- All products of s members are zero exactly where all products of s rows are at each vertex,
    pub products_of_power : (s : ℕ) → PowerVanishes A I s → (v : ℕ) (w : ℕ → ℕ) → ((i : ℕ) → i < s → w i < k) → ordered_product (λ i. generators_at v (w i)) s ≡ zeros q (X.dim v) (X.dim v)
    products_of_power s p v w b =
        sym (product_at v (λ i. row (w i) I) s) ∙ vertices_of_zero (product_in A (λ i. row (w i) I) s) (p (λ i. row (w i) I) (λ i l. row_in_span I I (w i) (in_span_self I))) v

    pub power_of_products : (s : ℕ) → ((v : ℕ) (w : ℕ → ℕ) → ((i : ℕ) → i < s → w i < k) → ordered_product (λ i. generators_at v (w i)) s ≡ zeros q (X.dim v) (X.dim v)) → PowerVanishes A I s
    power_of_products s z h m = zero_at_vertices (product_in A h s) (λ v. product_at v h s ∙ products_vanish k (generators_at v) s (z v) (λ i. (M.element (h i)).at v) (λ i l. member_at v (h i) (m i l)))

    -- and exactly where the s-th images of all rows at each vertex are.
    pub images_of_power : (s : ℕ) → PowerVanishes A I s → (v : ℕ) → (images k (generators_at v) (whole q (X.dim v)) s).basis ≡ zeros q (images k (generators_at v) (whole q (X.dim v)) s).size (X.dim v)
    images_of_power s p v = images_vanish k (generators_at v) s (λ w b. products_of_power s p v w b)

    pub power_of_images : (s : ℕ) → ((v : ℕ) → (images k (generators_at v) (whole q (X.dim v)) s).basis ≡ zeros q (images k (generators_at v) (whole q (X.dim v)) s).size (X.dim v)) → PowerVanishes A I s
    power_of_images s z h m = zero_at_vertices (product_in A h s) (λ v.
        product_at v h s ∙ vanishing_images k (generators_at v) s (z v) (λ i. (M.element (h i)).at v) (λ i l. member_at v (h i) (m i l)))

    -- The bound by the dimensions.
    module _ (t : IsTwoSided A I) (s : ℕ) (p : PowerVanishes A I s) where
      closed_at : (v i j : ℕ) → IsCombination k (generators_at v) (generators_at v i · generators_at v j)
      closed_at v i j = subst (IsCombination k (generators_at v)) (same-at (M.composite_is (row i I) (row j I)) v ∙ compose-at (M.element (row i I)) (M.element (row j I)) v)
          (member_at v (M.composite (row i I) (row j I)) (t.left (row i I) (row j I) (row_in_span I I j (in_span_self I))))

      no_fixed_row : (v : ℕ) → HasFixedRow k (generators_at v) → ⊥
      no_fixed_row v f = fixed_row_not_nilpotent f.fixed f.functional f.nonzero f.element f.is_fixed s
          (sym (ordered_product-constant f.element s) ∙ vanishing_images k (generators_at v) s (images_of_power s p v) (λ i. f.element) (λ i l. f.in_family))

      vanishes_at : (v : ℕ) (h : ℕ → Mat q (X.dim v) (X.dim v)) → ((i : ℕ) → i < X.dim v → IsCombination k (generators_at v) (h i)) → ordered_product h (X.dim v) ≡ zeros q (X.dim v) (X.dim v)
      vanishes_at v = elim (nil_or_fixed k (generators_at v) (λ i j a b. closed_at v i j)) [ inl z ↦ z | inr f ↦ absurd (no_fixed_row v f) ]

      pub power_bound : (d : ℕ) → ((v : ℕ) → X.dim v ≤ d) → PowerVanishes A I d
      power_bound d b h m = zero_at_vertices (product_in A h d) (λ v.
          product_at v h d ∙ long_product (X.dim v) d (b v) (λ i. (M.element (h i)).at v) (vanishes_at v (λ i. (M.element (h i)).at v) (λ i l. member_at v (h i) (m i (let c = b v in omega (arith, c, l))))))

      -- So the least power is at most that, or 1.
      pub least_power_bound : (e : ℕ) → IsLeastPower A I e → (d : ℕ) → 1 ≤ d → ((v : ℕ) → X.dim v ≤ d) → e ≤ d
      least_power_bound e l d large b = l.least d large (power_bound d b)

-- Nil right ideals, vertex by vertex: for a nilpotent x all products of d members of x·A are zero, where d is at least the dimension at each vertex,
-- or x·A has a member that is neither invertible nor nilpotent.
module _ {q : Gf} {Q : Quiver} {X : Rep q Q} (M : MatrixAlgebra X) (x : Row q M.size) where
  abbrev multiples_at : (v : ℕ) → ℕ → Mat q (X.dim v) (X.dim v)
  multiples_at v j = (M.element (M.composite x (unit q M.size j))).at v

  multiple_linear : (v : ℕ) → IsLinear (λ (y : Row q M.size). (M.element (M.composite x y)).at v)
  multiple_linear v = record {
    sum = λ y z. ap (λ w. (M.element w).at v) (composite_sum M x y z) ∙ (at_linear M v).sum (M.composite x y) (M.composite x z);
    multiple = λ c y. ap (λ w. (M.element w).at v) (composite_multiple M c x y) ∙ (at_linear M v).multiple c (M.composite x y);
  }

  multiples_combine : (v : ℕ) (c : ℕ → ℕ) → combine M.size c (multiples_at v) ≡ (M.element (M.composite x (combine M.size c (unit q M.size)))).at v
  multiples_combine v c = sym (linear_combine (λ (y : Row q M.size). (M.element (M.composite x y)).at v) (multiple_linear v) M.size c (unit q M.size))

  multiple_at : (v : ℕ) (y : Row q M.size) → IsCombination M.size (multiples_at v) ((M.element (M.composite x y)).at v)
  multiple_at v y = record { coefficients = y.at 0; is = multiples_combine v (y.at 0) ∙ ap (λ z. (M.element (M.composite x z)).at v) (sym (as_units y)) }

  multiples_closed : (v i j : ℕ) → IsCombination M.size (multiples_at v) (multiples_at v i · multiples_at v j)
  multiples_closed v i j = subst (IsCombination M.size (multiples_at v))
      (ap (λ z. (M.element z).at v) (sym (composite_associates M x (unit q M.size i) (M.composite x (unit q M.size j))))
      ∙ same-at (M.composite_is (M.composite x (unit q M.size i)) (M.composite x (unit q M.size j))) v ∙ compose-at (M.element (M.composite x (unit q M.size i))) (M.element (M.composite x (unit q M.size j))) v)
      (multiple_at v (M.composite (unit q M.size i) (M.composite x (unit q M.size j))))

  -- a member with a fixed row at a vertex is not nilpotent
  fixed_at_not_nilpotent : (v : ℕ) (f : HasFixedRow M.size (multiples_at v)) → IsNilpotentIn (algebra_of M) (M.composite x (combine M.size f.in_family.coefficients (unit q M.size))) → ⊥
  fixed_at_not_nilpotent v f n = fixed_row_not_nilpotent f.fixed f.functional f.nonzero ((M.element r).at v) (ap (λ z. f.fixed · z) (sym (multiples_combine v f.in_family.coefficients) ∙ f.in_family.is) ∙ f.is_fixed)
      n.exponent (sym (power-at (M.element r) n.exponent v) ∙ same-at (sym (element-power M r n.exponent) ∙ ap M.element n.vanishes ∙ element-zeros M) v ∙ zero_hom-at X X v)
    where
      r : Row q M.size
      r = M.composite x (combine M.size f.in_family.coefficients (unit q M.size))

  pub nil_right_ideal_at_vertices : (v : ℕ) → X.dim v ≢ 0 → IsNilpotentIn (algebra_of M) x → (d : ℕ) → ((v : ℕ) → X.dim v ≤ d)
      → ((y : ℕ → Row q M.size) → product_in (algebra_of M) (λ i. M.composite x (y i)) d ≡ zeros q 1 M.size) ⊎ ((y : Row q M.size) × IsMixed (algebra_of M) (M.composite x y))
  nil_right_ideal_at_vertices v nonzero n d b = elim (search_or_all Q.vertices (λ v. HasFixedRow M.size (multiples_at v))
      (λ v. (h : ℕ → Mat q (X.dim v) (X.dim v)) → ((i : ℕ) → i < X.dim v → IsCombination M.size (multiples_at v) (h i)) → ordered_product h (X.dim v) ≡ zeros q (X.dim v) (X.dim v))
      (λ v. elim (nil_or_fixed M.size (multiples_at v) (λ i j a b. multiples_closed v i j)) [ inl z ↦ inr z | inr f ↦ inl f ])) [
        | inl s ↦ inr (
          combine M.size s.2.in_family.coefficients (unit q M.size),
          record {
            no_unit = λ i. nilpotent_no_unit (algebra_of M) (unit_nonzero M v nonzero) x n (unit_first (algebra_of M) x (combine M.size s.2.in_family.coefficients (unit q M.size)) i);
            not_nilpotent = fixed_at_not_nilpotent s.0 s.2;
          },
        )
        | inr all ↦ inl (λ y. zero_at_vertices M (product_in (algebra_of M) (λ i. M.composite x (y i)) d) (λ w. elim (cases_lt w Q.vertices) [
          | inl l ↦
              product_at M w (λ i. M.composite x (y i)) d
              ∙ long_product (X.dim w) d (b w) (λ i. (M.element (M.composite x (y i))).at w) (all w l (λ i. (M.element (M.composite x (y i))).at w) (λ i k. multiple_at w (y i)))
          | inr l ↦ no_rows_zeros (X.past w l) _
        ]))
      ]
