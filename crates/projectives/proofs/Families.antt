-- Homomorphisms out of a sum of a family are families of homomorphisms; out of a sum of projective modules at vertices, families of rows.
use Rattle.std.proofs.Common.{ℕ, zero, suc, ◌<◌, ◌≤◌, ◌≡◌, ◌≢◌, ◌⊎◌, inl, inr, refl, sym, ap, ap₂, ◌∙◌, arith, subst, not-suc-le-zero}
use Rattle.std.proofs.Math.Path.{subst_refl, path_j}
use Rattle.std.proofs.lemmas.Bool.{cases_eq, cases_lt}
use native.Mathlib.Nat.{ℕ_set}
use Rattle.linear_algebra.specs.Field.{Gf}
use Rattle.linear_algebra.specs.Matrix.{Row, zeros, ◌·◌}
use Rattle.linear_algebra.specs.Rank.{IsInSpan}
use Rattle.linear_algebra.proofs.MatrixLaws.{mul_assoc_mat}
use Rattle.linear_algebra.proofs.Blocks.{no_rows}
use Rattle.representations.specs.Quiver.{Quiver, BoundQuiver}
use Rattle.representations.specs.Rep.{Rep, IsMod}
use Rattle.representations.specs.Hom.{Hom, Hom-eq, ◌≫◌}
use Rattle.representations.specs.Module.{IsEpi}
use Rattle.representations.specs.Sum.{sum_family, into_first, into_second, from_sum}
use Rattle.representations.proofs.Homs.{compose_assoc, compose-at}
use Rattle.representations.proofs.Sums.{first_from_sum, second_from_sum, from_sum_unique, IsMod-family}
use Rattle.representations.proofs.SumFamilies.{from_family, from_family-same}
use Rattle.projectives.specs.Words.{Words, IsWordBasis, projective}
use Rattle.projectives.specs.Projective.{generator}
use Rattle.projectives.specs.Yoneda.{yoneda}
use Rattle.projectives.specs.Families.{choose, family_in, projectives, generator_of}
use Rattle.projectives.specs.HomRows.{hom_of_rows}
use Rattle.projectives.proofs.Yoneda.{generator-yoneda, equal_on_generator}

module _ {q : Gf} {Q : Quiver} where
  choose-compose : {Z V : Rep q Q} (X : ℕ → Rep q Q) (i k : ℕ) (c : (i ≡ k) ⊎ (i ≢ k)) (g : Hom (X k) Z) (h : Hom (X i) Z) (u : Hom Z V) → choose X i k c g h ≫ u ≡ choose X i k c (g ≫ u) (h ≫ u)
  choose-compose {Z} {V} X i k (inl e) g h u =
      path_j (λ j d. subst (λ j. Hom (X j) Z) d g ≫ u ≡ subst (λ j. Hom (X j) V) d (g ≫ u))
      (ap (λ z. z ≫ u) (subst_refl (λ j. Hom (X j) Z) g) ∙ sym (subst_refl (λ j. Hom (X j) V) (g ≫ u))) (sym e)
  choose-compose X i k (inr d) g h u = refl

  -- members of one family, chosen
  choose-is : {Z : Rep q Q} (X : ℕ → Rep q Q) (f : (i : ℕ) → Hom (X i) Z) (i k : ℕ) (c : (i ≡ k) ⊎ (i ≢ k)) (h : Hom (X i) Z) → (i ≢ k → h ≡ f i) → choose X i k c (f k) h ≡ f i
  choose-is {Z} X f i k (inl e) h n = path_j (λ j d. subst (λ j. Hom (X j) Z) d (f k) ≡ f j) (subst_refl (λ j. Hom (X j) Z) (f k)) (sym e)
  choose-is X f i k (inr d) h n = n d

  pub choose-same : {Z : Rep q Q} (X : ℕ → Rep q Q) (k : ℕ) (c : (k ≡ k) ⊎ (k ≢ k)) (g h : Hom (X k) Z) → choose X k k c g h ≡ g
  choose-same {Z} X k (inl e) g h = ap (λ d. subst (λ j. Hom (X j) Z) d g) (ℕ_set k k (sym e) refl) ∙ subst_refl (λ j. Hom (X j) Z) g
  choose-same X k (inr d) g h = absurd (d refl)

  pub choose-other : {Z : Rep q Q} (X : ℕ → Rep q Q) (i k : ℕ) (c : (i ≡ k) ⊎ (i ≢ k)) (g : Hom (X k) Z) (h : Hom (X i) Z) → i ≢ k → choose X i k c g h ≡ h
  choose-other X i k (inl e) g h n = absurd (n e)
  choose-other X i k (inr d) g h n = refl

  -- A family of homomorphisms, on each part.
  pub in-from_family : {Z : Rep q Q} (k : ℕ) (X : ℕ → Rep q Q) (f : (i : ℕ) → Hom (X i) Z) (i : ℕ) → i < k → family_in k X i ≫ from_family k X f ≡ f i
  unfolding family_in from_family sum_family
  in-from_family zero X f i h = absurd (not-suc-le-zero h)
  in-from_family (suc k) X f i h =
      choose-compose X i k (cases_eq i k) (into_second (sum_family k X) (X k)) (family_in k X i ≫ into_first (sum_family k X) (X k)) (from_sum (from_family k X f) (f k))
      ∙ ap (λ z. choose X i k (cases_eq i k) z (family_in k X i ≫ into_first (sum_family k X) (X k) ≫ from_sum (from_family k X f) (f k))) (second_from_sum (from_family k X f) (f k))
      ∙ choose-is X f i k (cases_eq i k) (family_in k X i ≫ into_first (sum_family k X) (X k) ≫ from_sum (from_family k X f) (f k)) (λ n.
      compose_assoc (family_in k X i) (into_first (sum_family k X) (X k)) (from_sum (from_family k X f) (f k))
      ∙ ap (λ z. family_in k X i ≫ z) (first_from_sum (from_family k X f) (f k)) ∙ in-from_family k X f i (omega arith))

  -- Each homomorphism out of the sum is given by what it is on the parts.
  pub from_family_unique : {Z : Rep q Q} (k : ℕ) (X : ℕ → Rep q Q) (h : Hom (sum_family k X) Z) → from_family k X (λ i. family_in k X i ≫ h) ≡ h
  unfolding family_in from_family sum_family
  from_family_unique zero X h = Hom-eq _ _ (λ v. no_rows _ _)
  from_family_unique (suc k) X h =
      ap₂ from_sum
      (from_family-same k X _ (λ i. family_in k X i ≫ (into_first (sum_family k X) (X k) ≫ h))
      (λ i l.
      ap (λ z. z ≫ h) (choose-other X i k (cases_eq i k) (into_second (sum_family k X) (X k)) (family_in k X i ≫ into_first (sum_family k X) (X k)) (omega arith))
      ∙ compose_assoc (family_in k X i) (into_first (sum_family k X) (X k)) h)
      ∙ from_family_unique k X (into_first (sum_family k X) (X k) ≫ h))
      (ap (λ z. z ≫ h) (choose-same X k (cases_eq k k) (into_second (sum_family k X) (X k)) (family_in k X k ≫ into_first (sum_family k X) (X k))))
      ∙ from_sum_unique (sum_family k X) (X k) h

  pub equal_on_parts : {Z : Rep q Q} (k : ℕ) (X : ℕ → Rep q Q) (f g : Hom (sum_family k X) Z) → ((i : ℕ) → i < k → family_in k X i ≫ f ≡ family_in k X i ≫ g) → f ≡ g
  equal_on_parts k X f g e = sym (from_family_unique k X f) ∙ from_family-same k X _ _ e ∙ from_family_unique k X g

module _ {q : Gf} (A : BoundQuiver) (W : Words q A.quiver) (B : IsWordBasis A W) (k : ℕ) (v : ℕ → ℕ) where
  pub projectives_mod : IsMod A (projectives W k v)
  projectives_mod = IsMod-family A k (λ j. projective W (v j)) (λ j l. B.modules (v j))

  -- The homomorphism that takes the generators to the rows x 0, .., x (k − 1).
  abbrev pub from_rows : (X : Rep q A.quiver) → IsMod A X → ((j : ℕ) → Row q (X.dim (v j))) → Hom (projectives W k v) X
  from_rows X M x = hom_of_rows A W B k v X M x

  pub generator-hom : (X : Rep q A.quiver) (f : Hom (projectives W k v) X) (j : ℕ) → generator_of A W B k v j · f.at (v j) ≡ generator A W B (v j) · (family_in k (λ j. projective W (v j)) j ≫ f).at (v j)
  generator-hom X f j =
      mul_assoc_mat (generator A W B (v j)) ((family_in k (λ j. projective W (v j)) j).at (v j)) (f.at (v j))
      ∙ ap (λ z. generator A W B (v j) · z) (sym (compose-at (family_in k (λ j. projective W (v j)) j) f (v j)))

  pub generator-from_rows : (X : Rep q A.quiver) (M : IsMod A X) (x : (j : ℕ) → Row q (X.dim (v j))) (j : ℕ) → j < k → generator_of A W B k v j · (from_rows X M x).at (v j) ≡ x j
  unfolding hom_of_rows
  generator-from_rows X M x j h =
      generator-hom X (from_rows X M x) j
      ∙ ap (λ (z : Hom (projective W (v j)) X). generator A W B (v j) · z.at (v j)) (in-from_family k (λ j. projective W (v j)) (λ j. yoneda A W B X M (v j) (x j)) j h)
      ∙ generator-yoneda A W B X M (v j) (x j)

  -- A homomorphism is determined by the values of the generators.
  pub equal_on_generators : (X : Rep q A.quiver) → IsMod A X → (f g : Hom (projectives W k v) X) → ((j : ℕ) → j < k → generator_of A W B k v j · f.at (v j) ≡ generator_of A W B k v j · g.at (v j)) → f ≡ g
  equal_on_generators X M f g e = equal_on_parts k (λ j. projective W (v j)) f g (λ j h.
      equal_on_generator A W B X M (v j) (family_in k (λ j. projective W (v j)) j ≫ f) (family_in k (λ j. projective W (v j)) j ≫ g)
      (sym (generator-hom X f j) ∙ e j h ∙ generator-hom X g j))

  -- Lifting: where f reaches the values of the generators under u, u is another homomorphism and then f.
  module _ (Y Z : Rep q A.quiver) (N : IsMod A Y) (L : IsMod A Z) (f : Hom Y Z) (u : Hom (projectives W k v) Z)
      (s : (j : ℕ) → j < k → IsInSpan (f.at (v j)) (generator_of A W B k v j · u.at (v j))) where
    chosen_at : (j : ℕ) → (j < k) ⊎ (k ≤ j) → Row q (Y.dim (v j))
    chosen_at j (inl l) = (s j l).by
    chosen_at j (inr l) = zeros q 1 (Y.dim (v j))

    chosen_at-is : (j : ℕ) → j < k → (c : (j < k) ⊎ (k ≤ j)) → chosen_at j c · f.at (v j) ≡ generator_of A W B k v j · u.at (v j)
    unfolding chosen_at
    chosen_at-is j h (inl l) = (s j l).is
    chosen_at-is j h (inr l) = absurd (omega arith)

    lifted : Hom (projectives W k v) Y
    lifted = from_rows Y N (λ j. chosen_at j (cases_lt j k))

    pub lift : (h : Hom (projectives W k v) Y) × (h ≫ f ≡ u)
    unfolding lifted
    lift = (
      lifted,
      equal_on_generators Z L (lifted ≫ f) u (λ j l.
          ap (λ z. generator_of A W B k v j · z) (compose-at lifted f (v j)) ∙ sym (mul_assoc_mat (generator_of A W B k v j) (lifted.at (v j)) (f.at (v j)))
          ∙ ap (λ z. z · f.at (v j)) (generator-from_rows Y N (λ j. chosen_at j (cases_lt j k)) j l) ∙ chosen_at-is j l (cases_lt j k)),
    )

  pub projectives_lift : (Y Z : Rep q A.quiver) → IsMod A Y → IsMod A Z → (f : Hom Y Z) → IsEpi f → (u : Hom (projectives W k v) Z) → (h : Hom (projectives W k v) Y) × (h ≫ f ≡ u)
  projectives_lift Y Z N L f epi u = lift Y Z N L f u (λ j l. epi (v j) (generator_of A W B k v j · u.at (v j)))
