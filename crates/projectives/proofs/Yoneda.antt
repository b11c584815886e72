-- Homomorphisms out of the projective module at a vertex are the rows there: the generator's value, and back.
use Rattle.std.proofs.Common.{ℕ, ◌<◌, ◌≤◌, ◌≡◌, ◌⊎◌, inl, inr, sym, ap, ap₂, ◌∙◌, arith}
use Rattle.std.proofs.lemmas.Bool.{cases_lt}
use Rattle.linear_algebra.specs.Field.{Gf}
use Rattle.linear_algebra.specs.Matrix.{Row, ◌⊞◌, ◌⊙◌, ◌·◌}
use Rattle.linear_algebra.specs.Rank.{IsInSpan}
use Rattle.linear_algebra.proofs.MatrixLaws.{mul_add_mat, mul_scale, mul_assoc_mat, mul_one_mat, mul_zeros, zeros_mul}
use Rattle.linear_algebra.proofs.PartsLaws.{rows_equal, unit_mul}
use Rattle.representations.specs.Quiver.{Quiver, BoundQuiver}
use Rattle.representations.specs.Rep.{Rep, along, IsMod}
use Rattle.representations.specs.Hom.{Hom, Hom-eq, ◌≫◌, ◌⊕◌, multiple}
use Rattle.representations.specs.Module.{IsEpi}
use Rattle.representations.proofs.Homs.{compose-at, sum-at, multiple-at}
use Rattle.representations.proofs.Paths.{along-hom, along-trivial}
use Rattle.representations.proofs.MatrixExtras.{zero_columns}
use Rattle.projectives.specs.Words.{Words, IsWordBasis, word_at, along_word, projective}
use Rattle.projectives.specs.Projective.{generator}
use Rattle.projectives.specs.Yoneda.{word_rows, row-word_rows, yoneda}

-- Homomorphisms go with words.
word_at-hom : {q : Gf} {Q : Quiver} (W : Words q Q) {X Y : Rep q Q} (f : Hom X Y) (v w i : ℕ) (c : (i < W.count v w) ⊎ (W.count v w ≤ i)) → word_at W X v w i c · f.at w ≡ f.at v · word_at W Y v w i c
word_at-hom W f v w i (inl h) = along-hom f (W.word v w i h)
word_at-hom W f v w i (inr h) = zeros_mul (f.at w) ∙ sym (mul_zeros (f.at v))

pub along_word-hom : {q : Gf} {Q : Quiver} (W : Words q Q) {X Y : Rep q Q} (f : Hom X Y) (v w i : ℕ) → along_word W X v w i · f.at w ≡ f.at v · along_word W Y v w i
unfolding along_word
along_word-hom W f v w i = word_at-hom W f v w i (cases_lt i (W.count v w))

module _ {q : Gf} (A : BoundQuiver) (W : Words q A.quiver) (B : IsWordBasis A W) where
  along_trivial_word : (X : Rep q A.quiver) (v : ℕ) → v < A.quiver.vertices → (x : Row q (X.dim v)) → x · along_word W X v v (B.place v) ≡ x
  unfolding along_word
  along_trivial_word X v h x = here (cases_lt (B.place v) (W.count v v))
    where
      here : (c : (B.place v < W.count v v) ⊎ (W.count v v ≤ B.place v)) → x · word_at W X v v (B.place v) c ≡ x
      here (inl l) = ap (λ p. x · along X p) (B.place_trivial v l) ∙ ap (λ z. x · z) (along-trivial X v) ∙ mul_one_mat x
      here (inr l) = absurd (let b = B.place_below v h in omega arith)

  module _ (X : Rep q A.quiver) (M : IsMod A X) (v : ℕ) where
    -- The generator goes to x.
    pub generator-yoneda : (x : Row q (X.dim v)) → generator A W B v · (yoneda A W B X M v x).at v ≡ x
    unfolding yoneda
    generator-yoneda x = elim (cases_lt v A.quiver.vertices) [
      | inl h ↦ unit_mul (B.place v) (word_rows A W B X M v x v) ∙ row-word_rows A W B X M v x v (B.place v) (B.place_below v h) ∙ along_trivial_word X v h x
      | inr h ↦ zero_columns (X.past v h) _ ∙ sym (zero_columns (X.past v h) x)
    ]

    -- Each homomorphism is given by where the generator goes.
    pub yoneda-generator : (f : Hom (projective W v) X) → yoneda A W B X M v (generator A W B v · f.at v) ≡ f
    unfolding yoneda
    yoneda-generator f = Hom-eq _ _ (λ w. rows_equal _ _ (λ i h.
        row-word_rows A W B X M v (generator A W B v · f.at v) w i h
        ∙ mul_assoc_mat (generator A W B v) (f.at v) (along_word W X v w i)
        ∙ ap (λ z. generator A W B v · z) (sym (along_word-hom W f v w i))
        ∙ sym (mul_assoc_mat (generator A W B v) (along_word W (projective W v) v w i) (f.at w))
        ∙ ap (λ z. z · f.at w) (B.generates v w i h) ∙ unit_mul i (f.at w)))

    pub equal_on_generator : (f g : Hom (projective W v) X) → generator A W B v · f.at v ≡ generator A W B v · g.at v → f ≡ g
    equal_on_generator f g e = sym (yoneda-generator f) ∙ ap (yoneda A W B X M v) e ∙ yoneda-generator g

    -- The bijection is linear.
    pub yoneda-sum : (x y : Row q (X.dim v)) → yoneda A W B X M v (x ⊞ y) ≡ yoneda A W B X M v x ⊕ yoneda A W B X M v y
    yoneda-sum x y = equal_on_generator _ _ (
        generator-yoneda (x ⊞ y) ∙ sym (ap₂ (λ a b. a ⊞ b) (generator-yoneda x) (generator-yoneda y))
        ∙ sym (mul_add_mat (generator A W B v) ((yoneda A W B X M v x).at v) ((yoneda A W B X M v y).at v))
        ∙ ap (λ z. generator A W B v · z) (sym (sum-at (yoneda A W B X M v x) (yoneda A W B X M v y) v)))

    pub yoneda-multiple : (c : ℕ) (x : Row q (X.dim v)) → yoneda A W B X M v (c ⊙ x) ≡ multiple c (yoneda A W B X M v x)
    yoneda-multiple c x = equal_on_generator _ _ (
        generator-yoneda (c ⊙ x) ∙ ap (λ z. c ⊙ z) (sym (generator-yoneda x))
        ∙ sym (mul_scale c (generator A W B v) ((yoneda A W B X M v x).at v))
        ∙ ap (λ z. generator A W B v · z) (sym (multiple-at c (yoneda A W B X M v x) v)))

  -- It is natural.
  pub yoneda-natural : (X Y : Rep q A.quiver) (M : IsMod A X) (N : IsMod A Y) (v : ℕ) (h : Hom X Y) (x : Row q (X.dim v)) → yoneda A W B X M v x ≫ h ≡ yoneda A W B Y N v (x · h.at v)
  yoneda-natural X Y M N v h x = equal_on_generator Y N v _ _ (
      ap (λ z. generator A W B v · z) (compose-at (yoneda A W B X M v x) h v)
      ∙ sym (mul_assoc_mat (generator A W B v) ((yoneda A W B X M v x).at v) (h.at v))
      ∙ ap (λ z. z · h.at v) (generator-yoneda X M v x) ∙ sym (generator-yoneda Y N v (x · h.at v)))

  -- Lifting: where f reaches the value of the generator, the homomorphism is another one and then f.
  pub lift_one : (Y Z : Rep q A.quiver) → IsMod A Y → IsMod A Z → (v : ℕ) (f : Hom Y Z) (u : Hom (projective W v) Z) → IsInSpan (f.at v) (generator A W B v · u.at v) → (k : Hom (projective W v) Y) × (k ≫ f ≡ u)
  lift_one Y Z N L v f u s = (yoneda A W B Y N v s.by, yoneda-natural Y Z N L v f s.by ∙ ap (yoneda A W B Z L v) s.is ∙ yoneda-generator Z L v u)

  -- The projective module at v is projective: what goes into Z lifts along each surjection onto Z.
  pub projective_lifts : (Y Z : Rep q A.quiver) → IsMod A Y → IsMod A Z → (v : ℕ) (f : Hom Y Z) → IsEpi f → (u : Hom (projective W v) Z) → (k : Hom (projective W v) Y) × (k ≫ f ≡ u)
  projective_lifts Y Z N L v f epi u = lift_one Y Z N L v f u (epi v (generator A W B v · u.at v))
