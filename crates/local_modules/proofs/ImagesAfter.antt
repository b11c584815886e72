-- Images of all rows step by step: they descend, and once they do not change they never do; so the number of rows tells from which power on an ideal is
-- zero at a vertex, or that it never is.
use Rattle.std.proofs.Common.{ℕ, zero, suc, ◌<◌, ◌≤◌, ◌≡◌, ◌≢◌, ◌+◌, ◌-◌, sym, ap, ◌∙◌, inl, inr, arith, subst}
use Rattle.std.proofs.lemmas.Bool.{cases_lt}
use Rattle.linear_algebra.specs.Field.{Gf}
use Rattle.linear_algebra.specs.Matrix.{Mat, zeros, one, ◌·◌}
use Rattle.linear_algebra.specs.Rank.{IsInSpan, HasRightInverse, Subspace}
use Rattle.linear_algebra.specs.Families.{ordered_product}
use Rattle.linear_algebra.specs.Parts.{row}
use Rattle.linear_algebra.proofs.MatrixLaws.{mul_one_mat, zeros_mul}
use Rattle.linear_algebra.proofs.NilOrFixed.{whole, in_whole, images}
use Rattle.linear_algebra.proofs.Families.{image_under, image_under-in, image_under-contains, image_under-least, image_under-grows, in_span_zeros, combination_member}
use Rattle.linear_algebra.proofs.FamilyPowers.{images_vanish, vanishing_images, ordered_product-add}
use Rattle.linear_algebra.proofs.Subspaces.{inclusion_size, inclusion_equal}
use Rattle.linear_algebra.proofs.Solving.{in_span_trans, in_span_image}
use Rattle.linear_algebra.proofs.Blocks.{no_rows_zeros}
use Rattle.representations.specs.Quiver.{Quiver}
use Rattle.representations.specs.Rep.{Rep}
use Rattle.local_modules.specs.Ideal.{PowerVanishes, IsLeastPower}
use Rattle.local_modules.specs.ImageChain.{IsImageChain, IsImageAfter, IsImageOf, ProductsVanish, VanishFrom}
use Rattle.local_modules.specs.MatrixAlgebra.{MatrixAlgebra, algebra_of}
use Rattle.local_modules.proofs.ImageChains.{images_in_chain, chain_in_images, in_zeros}
use Rattle.local_modules.proofs.VertexPowers.{products_of_power, power_of_products}

plus_zero : (i : ℕ) → i ≡ i + 0
plus_zero i = omega arith

plus_suc : (i e : ℕ) → suc (i + e) ≡ i + suc e
plus_suc i e = omega arith

rest : (i s : ℕ) → i ≤ s → i + (s - i) ≡ s
rest i s l = omega arith

both : (a b : ℕ) → a ≤ b → b ≤ a → a ≡ b
both a b l m = omega arith

-- Independent rows that are zero are none.
no_rows : {q : Gf} {r d : ℕ} (V : Mat q r d) → HasRightInverse V → V ≡ zeros q r d → r ≡ 0
no_rows {q} {r} {d} V i z = both r 0 (inclusion_size V (zeros q 0 d) i (subst (IsInSpan (zeros q 0 d)) (sym z) (in_span_zeros r (zeros q 0 d)))) (omega arith)

module _ {q : Gf} {d : ℕ} (k : ℕ) (g : ℕ → Mat q d d) where
  abbrev place : ℕ → Subspace q d
  place i = images k g (whole q d) i

  -- There is such a chain.
  pub chain_of_images : IsImageChain k g (λ i. (images k g (whole q d) i).size) (λ i. (images k g (whole q d) i).basis)
  unfolding images
  chain_of_images = record {
    whole = λ x. in_whole x;
    has_images = λ i j l. image_under-contains k g (place i) j l;
    least = λ i f h. image_under-least k g (place i) f h;
  }

  pub after_images : {r : ℕ} (s : ℕ) (V : Mat q r d) → IsInSpan (images k g (whole q d) s).basis V → IsInSpan V (images k g (whole q d) s).basis → HasRightInverse V → IsImageAfter k g s V
  after_images s V forth back independent = record { size = _; V = _; chain = chain_of_images; forth = forth; back = back; independent = independent }

  descends : (i : ℕ) → IsInSpan (place i).basis (place (suc i)).basis
  unfolding images
  descends zero = in_whole _
  descends (suc i) = image_under-grows k g (place (suc i)) (place i) (descends i)

  smaller : (i : ℕ) → (place (suc i)).size ≤ (place i).size
  smaller i = inclusion_size (place (suc i)).basis (place i).basis (place (suc i)).independent (descends i)

  still_more : (i e : ℕ) → IsInSpan (place (suc i)).basis (place i).basis → IsInSpan (place (suc (i + e))).basis (place (i + e)).basis
  unfolding images
  still_more i zero h = subst (λ z. IsInSpan (place (suc z)).basis (place z).basis) (plus_zero i) h
  still_more i (suc e) h =
      subst (λ z. IsInSpan (place (suc z)).basis (place z).basis) (plus_suc i e) (image_under-grows k g (place (i + e)) (place (suc (i + e))) (still_more i e h))

  still_size : (i e : ℕ) → (place (suc i)).size ≡ (place i).size → (place (i + e)).size ≡ (place i).size
  still_size i zero h = ap (λ z. (place z).size) (sym (plus_zero i))
  still_size i (suc e) h =
      let a = smaller (i + e) in
      let b = inclusion_size (place (i + e)).basis (place (suc (i + e))).basis (place (i + e)).independent
      (still_more i e (inclusion_equal (place (suc i)).basis (place i).basis h (place (suc i)).independent (descends i))) in
      let c : (place (suc (i + e))).size ≡ (place (i + e)).size = omega arith in
      ap (λ z. (place z).size) (sym (plus_suc i e)) ∙ c ∙ still_size i e h

  -- Products that are zero remain so.
  longer_vanish : (s t : ℕ) → s ≤ t → ProductsVanish k g s → ProductsVanish k g t
  longer_vanish s t l z w b =
      ap (ordered_product (λ i. g (w i))) (sym (rest s t l)) ∙ ordered_product-add (λ i. g (w i)) s (t - s)
      ∙ ap (λ m. m · ordered_product (λ i. g (w (s + i))) (t - s)) (z w (λ i h. b i (omega (arith, h, l)))) ∙ zeros_mul (ordered_product (λ i. g (w (s + i))) (t - s))

  -- All rows are what they are after 0 times.
  pub image_first : (V : Mat q d d) → V ≡ one q d → IsImageAfter k g 0 V
  unfolding images whole
  image_first V e = after_images 0 V (in_whole V) (record { by = one q d; is = ap (λ z. one q d · z) e ∙ mul_one_mat (one q d) }) (record { inverse = one q d; is = mul_one_mat V ∙ e })

  module _ (i r : ℕ) (V : Mat q r d) (h : IsImageAfter k g i V) where
    in_images : IsInSpan (place i).basis V
    in_images = in_span_trans (place i).basis (h.V i) V (chain_in_images k g h.size h.V h.chain i) h.forth

    has_images : IsInSpan V (place i).basis
    has_images = in_span_trans V (h.V i) (place i).basis h.back (images_in_chain k g h.size h.V h.chain i)

    size_is : r ≡ (place i).size
    size_is = both r (place i).size (inclusion_size V (place i).basis h.independent in_images) (inclusion_size (place i).basis V (place i).independent has_images)

    -- One step.
    pub image_more : (s : ℕ) (W : Mat q s d) → HasRightInverse W → IsImageOf k g V W → IsImageAfter k g (suc i) W
    unfolding images
    image_more s W w m = after_images (suc i) W
        (m.least (image_under k g (place i)).basis (λ j l. image_under-in k g (place i) V j l in_images))
        (image_under-least k g (place i) W (λ j l. in_span_trans W (V · g j) ((place i).basis · g j) (m.has_images j l) (in_span_image V (place i).basis (g j) has_images)))
        w

    -- All products of i members are zero exactly where there are no rows after i times.
    pub vanish_here : r ≡ 0 → ProductsVanish k g i
    vanish_here e w b = vanishing_images k g i (in_zeros V (place i).basis (no_rows_zeros e V ∙ sym (no_rows_zeros e (zeros q r d))) has_images) (λ j. g (w j)) (λ j l. combination_member k g (w j) (b j l))

    pub none_here : ProductsVanish k g i → r ≡ 0
    none_here z = no_rows V h.independent (in_zeros (place i).basis V (images_vanish k g i z) in_images)

    -- The next number of rows is not larger,
    pub image_smaller : (s : ℕ) (W : Mat q s d) → IsImageAfter k g (suc i) W → s ≤ r
    image_smaller s W w = let a = smaller i in let b = size_is in let c = next_size s W w in omega (arith, a, b, c)
      where
        next_size : (s : ℕ) (W : Mat q s d) → IsImageAfter k g (suc i) W → s ≡ (place (suc i)).size
        next_size s W w = both s (place (suc i)).size
            (inclusion_size W (place (suc i)).basis w.independent (in_span_trans (place (suc i)).basis (w.V (suc i)) W (chain_in_images k g w.size w.V w.chain (suc i)) w.forth))
            (inclusion_size (place (suc i)).basis W (place (suc i)).independent (in_span_trans W (w.V (suc i)) (place (suc i)).basis w.back (images_in_chain k g w.size w.V w.chain (suc i))))

    -- where there are none, the products are zero from here on, if not before;
    pub vanish_from_here : r ≡ 0 → ((s : ℕ) → s < i → ProductsVanish k g s → ⊥) → VanishFrom k g i
    vanish_from_here e b = record {
      zero = λ s l. longer_vanish i s l (vanish_here e);
      least = λ s z. elim (cases_lt s i) [ inl before ↦ absurd (b s before z) | inr past ↦ past ];
    }

    -- and where it is the same and not 0, they never are.
    pub never_vanish : (W : Mat q r d) → IsImageAfter k g (suc i) W → r ≢ 0 → (t : ℕ) → ProductsVanish k g t → ⊥
    never_vanish W w n t z = elim (cases_lt t i) [
      | inl before ↦ n (none_here (longer_vanish t i (let l = before in omega (arith, l)) z))
      | inr past ↦ n (
          size_is ∙ sym (still_size i (t - i) (same_size W w)) ∙ ap (λ j. (place j).size) (rest i t past)
          ∙ no_rows (place t).basis (place t).independent (images_vanish k g t z))
    ]
      where
        same_size : (W : Mat q r d) → IsImageAfter k g (suc i) W → (place (suc i)).size ≡ (place i).size
        same_size W w = sym (both r (place (suc i)).size
            (inclusion_size W (place (suc i)).basis w.independent (in_span_trans (place (suc i)).basis (w.V (suc i)) W (chain_in_images k g w.size w.V w.chain (suc i)) w.forth))
            (inclusion_size (place (suc i)).basis W (place (suc i)).independent (in_span_trans W (w.V (suc i)) (place (suc i)).basis w.back (images_in_chain k g w.size w.V w.chain (suc i))))) ∙ size_is

-- Two bases of the images after s times have as many rows, and the same span.
module _ {q : Gf} {d : ℕ} (k : ℕ) (g : ℕ → Mat q d d) {r s : ℕ} (i : ℕ) (V : Mat q r d) (W : Mat q s d) (v : IsImageAfter k g i V) (w : IsImageAfter k g i W) where
  pub image_same_span : IsInSpan V W
  image_same_span = in_span_trans V (images k g (whole q d) i).basis W (has_images k g i r V v) (in_images k g i s W w)

  pub image_same_size : r ≡ s
  image_same_size = size_is k g i r V v ∙ sym (size_is k g i s W w)

-- Matrices without rows.
pub vanish_from_none : {q : Gf} {d : ℕ} (k : ℕ) (g : ℕ → Mat q d d) → d ≡ 0 → VanishFrom k g 0
vanish_from_none {q} {d} k g e = record { zero = λ s l w b. no_rows_zeros e _; least = λ s z. omega arith }

-- The least power of an ideal that is zero is the largest of the numbers at the vertices, or 1.
module _ {q : Gf} {Q : Quiver} {X : Rep q Q} (M : MatrixAlgebra X) {k : ℕ} (I : Mat q k M.size) where
  abbrev generators_at : (v : ℕ) → ℕ → Mat q (X.dim v) (X.dim v)
  generators_at v j = (M.element (row j I)).at v

  module _ (p : ℕ → ℕ) (f : (v : ℕ) → VanishFrom k (generators_at v) (p v)) where
    pub least_by_vertices : (s : ℕ) → 1 ≤ s → ((v : ℕ) → p v ≤ s) → ((t : ℕ) → 1 ≤ t → ((v : ℕ) → p v ≤ t) → s ≤ t) → IsLeastPower (algebra_of M) I s
    least_by_vertices s a b l = record {
      positive = a;
      vanishes = power_of_products M I s (λ v. (f v).zero s (b v));
      least = λ t c u. l t c (λ v. (f v).least t (products_of_power M I t u v));
    }

    pub vertices_by_least : (s : ℕ) → IsLeastPower (algebra_of M) I s → ((v : ℕ) → p v ≤ s) × ((t : ℕ) → 1 ≤ t → ((v : ℕ) → p v ≤ t) → s ≤ t)
    vertices_by_least s l = (
      (λ v. (f v).least s (products_of_power M I s l.vanishes v)),
      (λ t c b. l.least t c (power_of_products M I t (λ v. (f v).zero t (b v)))),
    )

  pub never_by_vertex : (v : ℕ) → ((t : ℕ) → ProductsVanish k (generators_at v) t → ⊥) → (s : ℕ) → PowerVanishes (algebra_of M) I s → ⊥
  never_by_vertex v n s u = n s (products_of_power M I s u v)
