-- The words of the two small algebras are bases of them.
use Rattle.std.proofs.Common.{ℕ, zero, suc, ◌+◌, ◌<◌, ◌≤◌, ◌≡◌, ◌≢◌, ◌⊎◌, inl, inr, refl, sym, ap, ap₂, ◌∙◌, arith, subst, not-suc-le-zero, mod-eq_of_lt}
use Rattle.std.proofs.Math.Path.{subst_refl, path_j}
use Rattle.std.proofs.lemmas.Bool.{cases_lt}
use native.Mathlib.Nat.{ℕ_set}
use Rattle.linear_algebra.specs.Field.{Gf, mul}
use Rattle.linear_algebra.specs.FieldLaws.{zero_mul, mul_zero}
use Rattle.linear_algebra.specs.Sums.{sum-zeros}
use Rattle.linear_algebra.specs.Matrix.{Mat, Mat-eq_below, zeros, one, made, delta, delta-same, delta-other, delta_below, ◌⊞◌, ◌⊙◌, ◌·◌}
use Rattle.linear_algebra.specs.Parts.{unit}
use Rattle.linear_algebra.specs.Families.{combine}
use Rattle.linear_algebra.proofs.MatrixLaws.{one-at, mul_one_mat, one_mul_mat, mul_assoc_mat, zero_scale, one_scale, add_zeros, zeros_add}
use Rattle.linear_algebra.proofs.LinearMaps.{combine-same_members}
use Rattle.linear_algebra.proofs.PartsLaws.{Row-eq, row-at, row_self, unit-at, unit_mul, made-at}
use Rattle.linear_algebra.proofs.Subspaces.{through_zero}
use Rattle.representations.specs.Quiver.{Quiver, Path, trivial, then, path_length}
use Rattle.representations.specs.Rep.{Rep, along, value_of_relation, IsMod}
use Rattle.representations.proofs.Paths.{along-trivial, along-then, along_arrow}
use Rattle.projectives.specs.Words.{IsWord, IsWordBasis, word_at, along_word, projective}
use Rattle.projectives.specs.SmallAlgebras.{loop_quiver, loop_algebra, loop_count, loop_power, loop_word, loop_act, loop_words, kronecker_quiver, kronecker_algebra, kronecker_source, kronecker_target, kronecker_count, kronecker_arrow, kronecker_word, kronecker_act, kronecker_words}
use Rattle.projectives.proofs.Units.{unit_same, unit_other}
use Rattle.projectives.proofs.TrivialWords.{without_arrows}

-- Where the matrices of all arrows are strictly upper triangular, that of a path of k arrows has zeros up to k places right of the diagonal.
pub strictly_upper : {q : Gf} {Q : Quiver} (X : Rep q Q) → ((a i j : ℕ) → j ≤ i → (X.mat a).at i j ≡ 0) → {v w : ℕ} (p : Path Q v w) (i j : ℕ) → j < i + path_length p → (along X p).at i j ≡ 0
unfolding along ◌·◌
strictly_upper {q} X h {v} trivial i j l = elim (cases_lt i (X.dim v)) [
  | inl b ↦ one-at q (X.dim v) i j b ∙ delta-other i j (λ e. omega arith)
  | inr b ↦ (one q (X.dim v)).fits.below i j b
]
strictly_upper {q} X h (then a p) i j l = sum-zeros q _ _ (λ t u. elim (cases_lt t (i + path_length p)) [
  | inl b ↦ ap (λ c. mul q c ((X.mat a).at t j)) (strictly_upper X h p i t b) ∙ zero_mul q ((X.mat a).at t j)
  | inr b ↦ ap (mul q ((along X p).at i t)) (h a t j (omega arith)) ∙ mul_zero q ((along X p).at i t)
])

module _ (q : Gf) where
  shift-at : (i j : ℕ) → i < 3 → j < 3 → (made q 3 3 (λ i j. delta (suc i) j)).at i j ≡ delta (suc i) j
  shift-at i j h l = made-at q 3 3 (λ i j. delta (suc i) j) i j h l ∙ mod-eq_of_lt (delta_below q (suc i) j)

  shift-upper : (i j : ℕ) → j ≤ i → (made q 3 3 (λ i j. delta (suc i) j)).at i j ≡ 0
  shift-upper i j h = elim (cases_lt i 3) [
    | inl b ↦ shift-at i j b (omega arith) ∙ delta-other (suc i) j (λ e. omega arith)
    | inr b ↦ (made q 3 3 (λ i j. delta (suc i) j)).fits.below i j b
  ]

  loop_upper : (v a i j : ℕ) → j ≤ i → (loop_act q v a).at i j ≡ 0
  unfolding zeros
  loop_upper zero zero i j h = shift-upper i j h
  loop_upper zero (suc a) i j h = refl
  loop_upper (suc v) a i j h = refl

  loop_small : (v w : ℕ) → loop_count v w ≤ 3
  loop_small zero zero = omega arith
  loop_small zero (suc w) = omega arith
  loop_small (suc v) w = omega arith

  bounded : (v : ℕ) {u w : ℕ} (p : Path loop_quiver u w) → path_length p ≡ 3 → (i j : ℕ) → j < loop_count v w → (along (projective (loop_words q) v) p).at i j ≡ 0
  bounded v {u} {w} p e i j l = let b = loop_small v w in strictly_upper (projective (loop_words q) v) (loop_upper v) p i j (omega arith)

  loop_modules : (v : ℕ) → IsMod loop_algebra (projective (loop_words q) v)
  unfolding value_of_relation combine zeros
  loop_modules v = record {
    relations = λ i h. refl;
    long_paths = λ p e. Mat-eq_below _ _ (λ i j h l.
        bounded v p e i j l);
  }

  along_loop : (X : Rep q loop_quiver) (i : ℕ) → i < 3 → along_word (loop_words q) X zero zero i ≡ along X (loop_power i)
  unfolding along_word
  along_loop X i h = here (cases_lt i 3)
    where
      here : (c : (i < 3) ⊎ (3 ≤ i)) → word_at (loop_words q) X zero zero i c ≡ along X (loop_power i)
      here (inl l) = refl
      here (inr l) = absurd (omega arith)

  shift-next : (i : ℕ) → suc i < 3 → (made q 3 3 (λ i j. delta (suc i) j)).at i (suc i) ≡ 1
  shift-next i h = shift-at i (suc i) (omega arith) h ∙ delta-same (suc i)

  shift-else : (i j : ℕ) → suc i ≢ j → i < 3 → j < 3 → (made q 3 3 (λ i j. delta (suc i) j)).at i j ≡ 0
  shift-else i j d h l = shift-at i j h l ∙ delta-other (suc i) j d

  combine_three : {m n : ℕ} (c : ℕ → ℕ) (g : ℕ → Mat q m n) {x y z : ℕ} → c 0 ≡ x → c 1 ≡ y → c 2 ≡ z → combine 3 c g ≡ x ⊙ g 0 ⊞ y ⊙ g 1 ⊞ z ⊙ g 2
  unfolding combine
  combine_three c g d e f = ap₂ (λ a b. a ⊞ b) (ap₂ (λ a b. a ⊞ b) (zeros_add (c 0 ⊙ g 0) ∙ ap (λ x. x ⊙ g 0) d) (ap (λ x. x ⊙ g 1) e)) (ap (λ x. x ⊙ g 2) f)

  -- x^i · x is the combination that row i of the shift says.
  loop_combination : (X : Rep q loop_quiver) (M : IsMod loop_algebra X) (i : ℕ) → i < 3
      → along X (loop_power (suc i)) ≡ combine 3 ((made q 3 3 (λ i j. delta (suc i) j)).at i) (λ j. along X (loop_power j))
  loop_combination X M zero h = sym (
      combine_three _ _ (shift-else 0 0 (λ e. omega arith) (omega arith) (omega arith)) (shift-next 0 (omega arith)) (shift-else 0 2 (λ e. omega arith) (omega arith) (omega arith))
      ∙ simp (zero_scale, one_scale, add_zeros, zeros_add))
  loop_combination X M (suc zero) h = sym (
      combine_three _ _ (shift-else 1 0 (λ e. omega arith) (omega arith) (omega arith)) (shift-else 1 1 (λ e. omega arith) (omega arith) (omega arith)) (shift-next 1 (omega arith))
      ∙ simp (zero_scale, one_scale, add_zeros, zeros_add))
  loop_combination X M (suc (suc zero)) h = M.long_paths (loop_power 3) refl ∙ sym (
      combine_three _ _ (shift-else 2 0 (λ e. omega arith) (omega arith) (omega arith)) (shift-else 2 1 (λ e. omega arith) (omega arith) (omega arith)) (shift-else 2 2 (λ e. omega arith) (omega arith) (omega arith))
      ∙ simp (zero_scale, add_zeros))
  loop_combination X M (suc (suc (suc i))) h = absurd (omega arith)

  loop_acts : (X : Rep q loop_quiver) → IsMod loop_algebra X → (v a i : ℕ) → i < loop_count v a
      → along_word (loop_words q) X v a i · X.mat a ≡ combine (loop_count v a) ((loop_act q v a).at i) (along_word (loop_words q) X v a)
  loop_acts X M zero zero i h =
      ap (λ z. z · X.mat 0) (along_loop X i h) ∙ sym (along-then X 0 (loop_power i)) ∙ loop_combination X M i h
      ∙ combine-same_members 3 _ (λ j. along X (loop_power j)) (along_word (loop_words q) X zero zero) (λ j l. sym (along_loop X j l))
  loop_acts X M zero (suc a) i h = absurd (not-suc-le-zero h)
  loop_acts X M (suc v) a i h = absurd (not-suc-le-zero h)

  -- The generator goes along x^i to x^i.
  unit_shift : (i : ℕ) → suc i < 3 → unit q 3 i · made q 3 3 (λ i j. delta (suc i) j) ≡ unit q 3 (suc i)
  unit_shift i h = unit_mul i _ ∙ Row-eq _ _ (λ j l. row-at i _ j ∙ shift-at i j (omega arith) l ∙ sym (unit-at q 3 (suc i) j ∙ one-at q 3 (suc i) j h))

  unit_power : (i : ℕ) → i < 3 → unit q 3 0 · along (projective (loop_words q) zero) (loop_power i) ≡ unit q 3 i
  unit_power zero h = ap (λ z. unit q 3 0 · z) (along-trivial (projective (loop_words q) zero) 0) ∙ mul_one_mat (unit q 3 0)
  unit_power (suc i) h =
      ap (λ z. unit q 3 0 · z) (along-then (projective (loop_words q) zero) 0 (loop_power i))
      ∙ sym (mul_assoc_mat (unit q 3 0) (along (projective (loop_words q) zero) (loop_power i)) (made q 3 3 (λ i j. delta (suc i) j)))
      ∙ ap (λ z. z · made q 3 3 (λ i j. delta (suc i) j)) (unit_power i (omega arith)) ∙ unit_shift i h

  loop_generates : (v w i : ℕ) → i < loop_count v w → unit q (loop_count v v) 0 · along_word (loop_words q) (projective (loop_words q) v) v w i ≡ unit q (loop_count v w) i
  loop_generates zero zero i h = ap (λ z. unit q 3 0 · z) (along_loop (projective (loop_words q) zero) i h) ∙ unit_power i h
  loop_generates zero (suc w) i h = absurd (not-suc-le-zero h)
  loop_generates (suc v) w i h = absurd (not-suc-le-zero h)

  -- Paths of the loop are its powers.
  loop_length : (i : ℕ) → path_length (loop_power i) ≡ i
  loop_length zero = refl
  loop_length (suc i) = ap suc (loop_length i)

  power_at : (v : ℕ) → ℕ → Path loop_quiver v v
  power_at v zero = trivial
  power_at v (suc i) = then v (power_at v i)

  power_next : (v a i : ℕ) (e : v ≡ a) → subst (Path loop_quiver v) e (power_at v (suc i)) ≡ then a (subst (Path loop_quiver v) e (power_at v i))
  unfolding power_at
  power_next v a i e = path_j (λ a e. subst (Path loop_quiver v) e (power_at v (suc i)) ≡ then a (subst (Path loop_quiver v) e (power_at v i)))
      (subst_refl (Path loop_quiver v) (power_at v (suc i)) ∙ ap (then v) (sym (subst_refl (Path loop_quiver v) (power_at v i)))) e

  is_power : {v w : ℕ} (p : Path loop_quiver v w) → (e : v ≡ w) × (subst (Path loop_quiver v) e (power_at v (path_length p)) ≡ p)
  unfolding power_at
  is_power {v} trivial = (refl, subst_refl (Path loop_quiver v) trivial)
  is_power {v} (then a p) = let r = is_power p in (r.0, power_next v a (path_length p) r.0 ∙ ap (then a) r.1)

  power_at-zero : (i : ℕ) → power_at 0 i ≡ loop_power i
  unfolding power_at
  power_at-zero zero = refl
  power_at-zero (suc i) = ap (then 0) (power_at-zero i)

  loop_is_power : (p : Path loop_quiver zero zero) → loop_power (path_length p) ≡ p
  loop_is_power p =
      let r = is_power p in
      sym (power_at-zero (path_length p)) ∙ sym (subst_refl (Path loop_quiver zero) (power_at 0 (path_length p)))
      ∙ ap (λ (e : zero ≡ zero). subst (Path loop_quiver zero) e (power_at 0 (path_length p))) (ℕ_set 0 0 refl r.0) ∙ r.1

  loop_without_last : (v a i : ℕ) (h : i < loop_count v a) (p : Path loop_quiver v a) → loop_word v a i h ≡ then a p → IsWord (loop_words q) v a p
  loop_without_last zero zero i h p e =
      let long : i ≡ suc (path_length p) = sym (loop_length i) ∙ ap path_length e in
      record { place = path_length p; below = omega arith; is = loop_is_power p }
  loop_without_last zero (suc a) i h p e = absurd (not-suc-le-zero h)
  loop_without_last (suc v) a i h p e = absurd (not-suc-le-zero h)

  loop_place_only : (v i : ℕ) (h : i < loop_count v v) → loop_word v v i h ≡ trivial → i ≡ 0
  loop_place_only zero i h e = sym (loop_length i) ∙ ap path_length e
  loop_place_only (suc v) i h e = absurd (not-suc-le-zero h)

  loop_place_below : (v : ℕ) → v < 1 → 0 < loop_count v v
  loop_place_below zero h = omega arith
  loop_place_below (suc v) h = absurd (omega arith)

  loop_place_trivial : (v : ℕ) (h : 0 < loop_count v v) → loop_word v v 0 h ≡ trivial
  loop_place_trivial zero h = refl
  loop_place_trivial (suc v) h = absurd (not-suc-le-zero h)

  loop_not_trivial : (v a i : ℕ) → a ≡ v → (loop_act q v a).at i 0 ≡ 0
  unfolding zeros
  loop_not_trivial zero zero i e = shift-upper i 0 (omega arith)
  loop_not_trivial zero (suc a) i e = refl
  loop_not_trivial (suc v) a i e = refl

  pub loop_basis : IsWordBasis loop_algebra (loop_words q)
  loop_basis = record {
    modules = loop_modules;
    acts = loop_acts;
    place = λ v. 0;
    place_below = loop_place_below;
    place_trivial = loop_place_trivial;
    generates = loop_generates;
    place_only = loop_place_only;
    without_last = loop_without_last;
    not_trivial = loop_not_trivial;
  }

-- The Kronecker quiver: no path has two arrows between vertices.
target_not_zero : (a : ℕ) → kronecker_target a ≢ 0
target_not_zero zero e = absurd (omega arith)
target_not_zero (suc zero) e = absurd (omega arith)
target_not_zero (suc (suc a)) e = absurd (omega arith)

source_far : (a : ℕ) → kronecker_source a ≢ 0 → 2 ≤ kronecker_source a
source_far zero d = absurd (d refl)
source_far (suc zero) d = absurd (d refl)
source_far (suc (suc a)) d = omega arith

end_not_zero : {v w : ℕ} (p : Path kronecker_quiver v w) (k : ℕ) → path_length p ≡ suc k → w ≢ 0
end_not_zero trivial k e = absurd (omega arith)
end_not_zero (then a p) k e = target_not_zero a

two_arrows : {q : Gf} (X : Rep q kronecker_quiver) {v w : ℕ} (p : Path kronecker_quiver v w) → path_length p ≡ 2 → along X p ≡ zeros q (X.dim v) (X.dim w)
two_arrows X trivial e = absurd (omega arith)
two_arrows X (then a p) e =
    along-then X a p
    ∙ through_zero (along X p) (X.mat a) (X.past (kronecker_source a) (source_far a (end_not_zero p 0 (omega arith))))

module _ (q : Gf) where
  kronecker_modules : (v : ℕ) → IsMod kronecker_algebra (projective (kronecker_words q) v)
  unfolding value_of_relation combine
  kronecker_modules v = record { relations = λ i h. refl; long_paths = λ p e. two_arrows (projective (kronecker_words q) v) p e }

  module _ (X : Rep q kronecker_quiver) where
    along_first : along_word (kronecker_words q) X 0 0 0 ≡ one q (X.dim 0)
    unfolding along_word
    along_first = here (cases_lt 0 1)
      where
        here : (c : (0 < 1) ⊎ (1 ≤ 0)) → word_at (kronecker_words q) X 0 0 0 c ≡ one q (X.dim 0)
        here (inl l) = along-trivial X 0
        here (inr l) = absurd (omega arith)

    along_second : along_word (kronecker_words q) X 1 1 0 ≡ one q (X.dim 1)
    unfolding along_word
    along_second = here (cases_lt 0 1)
      where
        here : (c : (0 < 1) ⊎ (1 ≤ 0)) → word_at (kronecker_words q) X 1 1 0 c ≡ one q (X.dim 1)
        here (inl l) = along-trivial X 1
        here (inr l) = absurd (omega arith)

    along_a : along_word (kronecker_words q) X 0 1 0 ≡ X.mat 0
    unfolding along_word
    along_a = here (cases_lt 0 2)
      where
        here : (c : (0 < 2) ⊎ (2 ≤ 0)) → word_at (kronecker_words q) X 0 1 0 c ≡ X.mat 0
        here (inl l) = along_arrow X 0
        here (inr l) = absurd (omega arith)

    along_b : along_word (kronecker_words q) X 0 1 1 ≡ X.mat 1
    unfolding along_word
    along_b = here (cases_lt 1 2)
      where
        here : (c : (1 < 2) ⊎ (2 ≤ 1)) → word_at (kronecker_words q) X 0 1 1 c ≡ X.mat 1
        here (inl l) = along_arrow X 1
        here (inr l) = absurd (omega arith)

    combine_two : {m n : ℕ} (c : ℕ → ℕ) (g : ℕ → Mat q m n) {x y : ℕ} → c 0 ≡ x → c 1 ≡ y → combine 2 c g ≡ x ⊙ g 0 ⊞ y ⊙ g 1
    unfolding combine
    combine_two c g d e = ap₂ (λ a b. a ⊞ b) (zeros_add (c 0 ⊙ g 0) ∙ ap (λ x. x ⊙ g 0) d) (ap (λ x. x ⊙ g 1) e)

    kronecker_acts : (v a i : ℕ) → i < kronecker_count v (kronecker_source a)
        → along_word (kronecker_words q) X v (kronecker_source a) i · X.mat a ≡ combine (kronecker_count v (kronecker_target a)) ((kronecker_act q v a).at i) (along_word (kronecker_words q) X v (kronecker_target a))
    kronecker_acts zero zero zero h =
        ap (λ z. z · X.mat 0) along_first ∙ one_mul_mat (X.mat 0)
        ∙ sym (combine_two _ _ (unit_same q 2 0 (omega arith)) (unit_other q 2 0 1 (omega arith) (λ e. omega arith)) ∙ simp (one_scale, zero_scale, add_zeros) along_a)
    kronecker_acts zero (suc zero) zero h =
        ap (λ z. z · X.mat 1) along_first ∙ one_mul_mat (X.mat 1)
        ∙ sym (combine_two _ _ (unit_other q 2 1 0 (omega arith) (λ e. omega arith)) (unit_same q 2 1 (omega arith)) ∙ simp (one_scale, zero_scale, zeros_add) along_b)
    kronecker_acts zero zero (suc i) h = absurd (omega arith)
    kronecker_acts zero (suc zero) (suc i) h = absurd (omega arith)
    kronecker_acts zero (suc (suc a)) i h = absurd (not-suc-le-zero h)
    kronecker_acts (suc zero) zero i h = absurd (not-suc-le-zero h)
    kronecker_acts (suc zero) (suc zero) i h = absurd (not-suc-le-zero h)
    kronecker_acts (suc zero) (suc (suc a)) i h = absurd (not-suc-le-zero h)
    kronecker_acts (suc (suc v)) a i h = absurd (not-suc-le-zero h)

  kronecker_generates : (v w i : ℕ) → i < kronecker_count v w
      → unit q (kronecker_count v v) 0 · along_word (kronecker_words q) (projective (kronecker_words q) v) v w i ≡ unit q (kronecker_count v w) i
  kronecker_generates zero zero zero h = ap (λ z. unit q 1 0 · z) (along_first (projective (kronecker_words q) 0)) ∙ mul_one_mat (unit q 1 0)
  kronecker_generates zero zero (suc i) h = absurd (omega arith)
  kronecker_generates zero (suc zero) zero h = ap (λ z. unit q 1 0 · z) (along_a (projective (kronecker_words q) 0)) ∙ unit_mul 0 (unit q 2 0) ∙ row_self (unit q 2 0)
  kronecker_generates zero (suc zero) (suc zero) h = ap (λ z. unit q 1 0 · z) (along_b (projective (kronecker_words q) 0)) ∙ unit_mul 0 (unit q 2 1) ∙ row_self (unit q 2 1)
  kronecker_generates zero (suc zero) (suc (suc i)) h = absurd (omega arith)
  kronecker_generates zero (suc (suc w)) i h = absurd (not-suc-le-zero h)
  kronecker_generates (suc zero) zero i h = absurd (not-suc-le-zero h)
  kronecker_generates (suc zero) (suc zero) zero h = ap (λ z. unit q 1 0 · z) (along_second (projective (kronecker_words q) 1)) ∙ mul_one_mat (unit q 1 0)
  kronecker_generates (suc zero) (suc zero) (suc i) h = absurd (omega arith)
  kronecker_generates (suc zero) (suc (suc w)) i h = absurd (not-suc-le-zero h)
  kronecker_generates (suc (suc v)) w i h = absurd (not-suc-le-zero h)

  arrow_length : (i : ℕ) (h : i < 2) → path_length (kronecker_arrow i h) ≡ 1
  arrow_length zero h = refl
  arrow_length (suc zero) h = refl
  arrow_length (suc (suc i)) h = absurd (omega arith)

  kronecker_without_last : (v a i : ℕ) (h : i < kronecker_count v (kronecker_target a)) (p : Path kronecker_quiver v (kronecker_source a))
      → kronecker_word v (kronecker_target a) i h ≡ then a p → IsWord (kronecker_words q) v (kronecker_source a) p
  kronecker_without_last zero zero i h p e =
      let long : 1 ≡ suc (path_length p) = sym (arrow_length i h) ∙ ap path_length e in
      record { place = 0; below = omega arith; is = sym (without_arrows p (omega arith)) }
  kronecker_without_last zero (suc zero) i h p e =
      let long : 1 ≡ suc (path_length p) = sym (arrow_length i h) ∙ ap path_length e in
      record { place = 0; below = omega arith; is = sym (without_arrows p (omega arith)) }
  kronecker_without_last zero (suc (suc a)) i h p e = absurd (not-suc-le-zero h)
  kronecker_without_last (suc zero) zero i h p e = absurd (let long : 0 ≡ suc (path_length p) = ap path_length e in omega arith)
  kronecker_without_last (suc zero) (suc zero) i h p e = absurd (let long : 0 ≡ suc (path_length p) = ap path_length e in omega arith)
  kronecker_without_last (suc zero) (suc (suc a)) i h p e = absurd (not-suc-le-zero h)
  kronecker_without_last (suc (suc v)) a i h p e = absurd (not-suc-le-zero h)

  kronecker_place_only : (v i : ℕ) (h : i < kronecker_count v v) → kronecker_word v v i h ≡ trivial → i ≡ 0
  kronecker_place_only zero i h e = omega arith
  kronecker_place_only (suc zero) i h e = omega arith
  kronecker_place_only (suc (suc v)) i h e = absurd (not-suc-le-zero h)

  kronecker_place_below : (v : ℕ) → v < 2 → 0 < kronecker_count v v
  kronecker_place_below zero h = omega arith
  kronecker_place_below (suc zero) h = omega arith
  kronecker_place_below (suc (suc v)) h = absurd (omega arith)

  kronecker_place_trivial : (v : ℕ) (h : 0 < kronecker_count v v) → kronecker_word v v 0 h ≡ trivial
  kronecker_place_trivial zero h = refl
  kronecker_place_trivial (suc zero) h = refl
  kronecker_place_trivial (suc (suc v)) h = absurd (not-suc-le-zero h)

  kronecker_not_trivial : (v a i : ℕ) → kronecker_target a ≡ v → (kronecker_act q v a).at i 0 ≡ 0
  unfolding zeros
  kronecker_not_trivial zero a i e = absurd (target_not_zero a e)
  kronecker_not_trivial (suc zero) zero i e = refl
  kronecker_not_trivial (suc zero) (suc zero) i e = refl
  kronecker_not_trivial (suc zero) (suc (suc a)) i e = refl
  kronecker_not_trivial (suc (suc v)) a i e = refl

  pub kronecker_basis : IsWordBasis kronecker_algebra (kronecker_words q)
  kronecker_basis = record {
    modules = kronecker_modules;
    acts = λ X M. kronecker_acts X;
    place = λ v. 0;
    place_below = kronecker_place_below;
    place_trivial = kronecker_place_trivial;
    generates = kronecker_generates;
    place_only = kronecker_place_only;
    without_last = kronecker_without_last;
    not_trivial = kronecker_not_trivial;
  }
