-- Homomorphisms into a sum of injective modules are lists of columns: this is Yoneda's lemma on the other side, turned round.
use Rattle.std.proofs.Common.{ℕ, ◌<◌, ◌≤◌, ◌≡◌, ◌⊎◌, inl, inr, sym, ap, ap₂, ◌∙◌}
use Rattle.std.proofs.lemmas.Bool.{cases_lt}
use Rattle.linear_algebra.specs.Field.{Gf}
use Rattle.linear_algebra.specs.Matrix.{Column, ◌⊞◌, ◌⊙◌, ◌·◌, transpose}
use Rattle.linear_algebra.specs.Parts.{row, column}
use Rattle.linear_algebra.proofs.MatrixLaws.{mul_assoc_mat, add_mul_mat, scale_mul, transpose_mul, transpose_transpose, transpose_zeros}
use Rattle.linear_algebra.proofs.PartsLaws.{transpose_row}
use Rattle.representations.specs.Quiver.{BoundQuiver, opposite_algebra}
use Rattle.representations.specs.Rep.{Rep, IsMod}
use Rattle.representations.specs.Hom.{Hom, ◌≫◌, ◌⊕◌, multiple}
use Rattle.representations.specs.Dual.{dual, dual_hom}
use Rattle.representations.proofs.Homs.{compose-at, sum-at, multiple-at}
use Rattle.representations.proofs.Duals.{dual-at, IsMod-dual, along-reverse}
use Rattle.projectives.specs.Words.{Words, IsWordBasis, word_at, along_word, projective}
use Rattle.projectives.specs.Projective.{generator}
use Rattle.projectives.specs.Yoneda.{yoneda, row-word_rows}
use Rattle.projectives.specs.Families.{family_in, projectives, generator_of}
use Rattle.projectives.specs.HomRows.{value, hom_of_rows}
use Rattle.projectives.specs.TwoSided.{TwoSided, other}
use Rattle.projectives.specs.Injective.{injectives, turn}
use Rattle.projectives.specs.Pairing.{column_of, part_of, hom_of_columns}
use Rattle.projectives.proofs.Yoneda.{yoneda-generator}
use Rattle.projectives.proofs.Families.{generator-from_rows, equal_on_generators, generator-hom}
use Rattle.projectives.proofs.Turning.{turn-at, turn_turn}

-- The matrix of the reversed word on the dual is the transposed one.
word_at-reversed : {q : Gf} {A : BoundQuiver} (T : TwoSided q A) (X : Rep q A.quiver) (v w i : ℕ) (c : (i < T.words.count w v) ⊎ (T.words.count w v ≤ i)) → word_at (other T) (dual X) v w i c ≡ transpose (word_at T.words X w v i c)
word_at-reversed T X v w i (inl h) = along-reverse X (T.words.word w v i h)
word_at-reversed {q} T X v w i (inr h) = sym (transpose_zeros q (X.dim w) (X.dim v))

pub along_word-reversed : {q : Gf} {A : BoundQuiver} (T : TwoSided q A) (X : Rep q A.quiver) (v w i : ℕ) → along_word (other T) (dual X) v w i ≡ transpose (along_word T.words X w v i)
unfolding along_word
along_word-reversed T X v w i = word_at-reversed T X v w i (cases_lt i (T.words.count w v))

-- A row of a homomorphism out of the part j goes along the word from the value of the generator.
pub value_along : {q : Gf} (A : BoundQuiver) (W : Words q A.quiver) (B : IsWordBasis A W) (k : ℕ) (v : ℕ → ℕ) (X : Rep q A.quiver) → IsMod A X → (f : Hom (projectives W k v) X) (j w i : ℕ) → i < W.count (v j) w
    → row i ((family_in k (λ j. projective W (v j)) j ≫ f).at w) ≡ value A W B k v f j · along_word W X (v j) w i
unfolding yoneda
value_along A W B k v X M f j w i h =
    ap (λ (z : Hom (projective W (v j)) X). row i (z.at w)) (sym (yoneda-generator A W B X M (v j) (family_in k (λ j. projective W (v j)) j ≫ f)))
    ∙ row-word_rows A W B X M (v j) (generator A W B (v j) · (family_in k (λ j. projective W (v j)) j ≫ f).at (v j)) w i h
    ∙ ap (λ z. z · along_word W X (v j) w i) (sym (generator-hom A W B k v X f j))

module _ {q : Gf} {A : BoundQuiver} (T : TwoSided q A) (k : ℕ) (v : ℕ → ℕ) where
  -- The columns are the values of the generators of the other side.
  pub column-turn : (X : Rep q A.quiver) (s : Hom X (injectives T k v)) (j : ℕ) → value (opposite_algebra A) (other T) T.opposite_basis k v (turn s) j ≡ transpose (column_of T k v s j)
  column-turn X s j =
      ap (λ z. generator_of (opposite_algebra A) (other T) T.opposite_basis k v j · z) (turn-at (projectives (other T) k v) X s (v j))
      ∙ ap (λ z. z · transpose (s.at (v j))) (sym (transpose_transpose (generator_of (opposite_algebra A) (other T) T.opposite_basis k v j)))
      ∙ sym (transpose_mul (s.at (v j)) (transpose (generator_of (opposite_algebra A) (other T) T.opposite_basis k v j)))

  pub turn-column : (X : Rep q A.quiver) (s : Hom X (injectives T k v)) (j : ℕ) → column_of T k v s j ≡ transpose (value (opposite_algebra A) (other T) T.opposite_basis k v (turn s) j)
  turn-column X s j = sym (transpose_transpose (column_of T k v s j)) ∙ ap transpose (sym (column-turn X s j))

  -- Each list of columns is that of a homomorphism, and of just one.
  pub column-hom_of_columns : (X : Rep q A.quiver) (M : IsMod A X) (y : (j : ℕ) → Column q (X.dim (v j))) (j : ℕ) → j < k → column_of T k v (hom_of_columns T k v X M y) j ≡ y j
  unfolding hom_of_columns
  column-hom_of_columns X M y j h =
      turn-column X (turn (hom_of_rows (opposite_algebra A) (other T) T.opposite_basis k v (dual X) (IsMod-dual A X M) (λ j. transpose (y j)))) j
      ∙ ap (λ (z : Hom (projectives (other T) k v) (dual X)). transpose (value (opposite_algebra A) (other T) T.opposite_basis k v z j)) (turn_turn X (projectives (other T) k v) (hom_of_rows (opposite_algebra A) (other T) T.opposite_basis k v (dual X) (IsMod-dual A X M) (λ j. transpose (y j))))
      ∙ ap transpose (generator-from_rows (opposite_algebra A) (other T) T.opposite_basis k v (dual X) (IsMod-dual A X M) (λ j. transpose (y j)) j h)
      ∙ transpose_transpose (y j)

  pub equal_by_columns : (X : Rep q A.quiver) → IsMod A X → (s t : Hom X (injectives T k v)) → ((j : ℕ) → j < k → column_of T k v s j ≡ column_of T k v t j) → s ≡ t
  equal_by_columns X M s t e =
      sym (turn_turn (projectives (other T) k v) X s)
      ∙ ap (λ (z : Hom (projectives (other T) k v) (dual X)). turn z)
      (equal_on_generators (opposite_algebra A) (other T) T.opposite_basis k v (dual X) (IsMod-dual A X M) (turn s) (turn t) (λ j h.
      column-turn X s j ∙ ap transpose (e j h) ∙ sym (column-turn X t j)))
      ∙ turn_turn (projectives (other T) k v) X t

  pub hom_of_columns-columns : (X : Rep q A.quiver) (M : IsMod A X) (s : Hom X (injectives T k v)) → hom_of_columns T k v X M (column_of T k v s) ≡ s
  hom_of_columns-columns X M s = equal_by_columns X M (hom_of_columns T k v X M (column_of T k v s)) s (column-hom_of_columns X M (column_of T k v s))

  -- The bijection is linear and natural.
  pub column-sum : (X : Rep q A.quiver) (s t : Hom X (injectives T k v)) (j : ℕ) → column_of T k v (s ⊕ t) j ≡ column_of T k v s j ⊞ column_of T k v t j
  column-sum X s t j =
      ap (λ z. z · transpose (generator_of (opposite_algebra A) (other T) T.opposite_basis k v j)) (sum-at s t (v j))
      ∙ add_mul_mat (s.at (v j)) (t.at (v j)) (transpose (generator_of (opposite_algebra A) (other T) T.opposite_basis k v j))

  pub column-multiple : (X : Rep q A.quiver) (c : ℕ) (s : Hom X (injectives T k v)) (j : ℕ) → column_of T k v (multiple c s) j ≡ c ⊙ column_of T k v s j
  column-multiple X c s j =
      ap (λ z. z · transpose (generator_of (opposite_algebra A) (other T) T.opposite_basis k v j)) (multiple-at c s (v j))
      ∙ scale_mul c (s.at (v j)) (transpose (generator_of (opposite_algebra A) (other T) T.opposite_basis k v j))

  pub column-natural : (X Y : Rep q A.quiver) (f : Hom X Y) (s : Hom Y (injectives T k v)) (j : ℕ) → column_of T k v (f ≫ s) j ≡ f.at (v j) · column_of T k v s j
  column-natural X Y f s j =
      ap (λ z. z · transpose (generator_of (opposite_algebra A) (other T) T.opposite_basis k v j)) (compose-at f s (v j))
      ∙ mul_assoc_mat (f.at (v j)) (s.at (v j)) (transpose (generator_of (opposite_algebra A) (other T) T.opposite_basis k v j))

  -- The entries of a homomorphism: the column at generator j and the word i is the matrix of the word times the column of j.
  pub columns_along : (X : Rep q A.quiver) → IsMod A X → (s : Hom X (injectives T k v)) (j w i : ℕ) → i < T.words.count w (v j)
      → column i (s.at w · transpose ((family_in k (λ j. projective (other T) (v j)) j).at w)) ≡ along_word T.words X w (v j) i · column_of T k v s j
  columns_along X M s j w i h =
      sym (ap (column i) (transposed_part ∙ transpose_transpose _)) ∙ sym (transpose_row i ((family_in k (λ j. projective (other T) (v j)) j ≫ turn s).at w))
      ∙ ap transpose (
      value_along (opposite_algebra A) (other T) T.opposite_basis k v (dual X) (IsMod-dual A X M) (turn s) j w i h
      ∙ ap₂ (λ a b. a · b) (column-turn X s j) (along_word-reversed T X (v j) w i)
      ∙ sym (transpose_mul (along_word T.words X w (v j) i) (column_of T k v s j)))
      ∙ transpose_transpose (along_word T.words X w (v j) i · column_of T k v s j)
    where
      transposed_part : transpose ((family_in k (λ j. projective (other T) (v j)) j ≫ turn s).at w) ≡ transpose (transpose (s.at w · transpose ((family_in k (λ j. projective (other T) (v j)) j).at w)))
      transposed_part = ap transpose (
          compose-at (family_in k (λ j. projective (other T) (v j)) j) (turn s) w
          ∙ ap (λ z. (family_in k (λ j. projective (other T) (v j)) j).at w · z) (turn-at (projectives (other T) k v) X s w)
          ∙ ap (λ z. z · transpose (s.at w)) (sym (transpose_transpose ((family_in k (λ j. projective (other T) (v j)) j).at w)))
          ∙ sym (transpose_mul (s.at w) (transpose ((family_in k (λ j. projective (other T) (v j)) j).at w))))

  pub part_columns : (X : Rep q A.quiver) → IsMod A X → (s : Hom X (injectives T k v)) (j w i : ℕ) → i < T.words.count w (v j)
      → column i ((part_of T k v s j).at w) ≡ along_word T.words X w (v j) i · column_of T k v s j
  part_columns X M s j w i h =
      ap (column i)
      (compose-at s (dual_hom (family_in k (λ j. projective (other T) (v j)) j)) w
      ∙ ap (λ z. s.at w · z) (dual-at (family_in k (λ j. projective (other T) (v j)) j) w))
      ∙ columns_along X M s j w i h
