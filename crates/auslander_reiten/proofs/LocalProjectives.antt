-- The projective module at a vertex is local, and so is the injective one: an endomorphism is a multiple of the identity up to the radical.
use Rattle.std.proofs.Common.{ℕ, zero, suc, ◌+◌, ◌<◌, ◌≤◌, ◌≡◌, ◌≢◌, ◌⊎◌, inl, inr, refl, sym, ap, ◌∙◌, arith, subst}
use Rattle.std.proofs.Math.Path.{path_j}
use Rattle.std.proofs.lemmas.Bool.{cases_lt}
use Rattle.linear_algebra.specs.Field.{Gf, order, add, mul, neg, inv}
use Rattle.linear_algebra.specs.FieldLaws.{mul_one, mul_zero, mul_inv, mul_comm, add_neg}
use Rattle.linear_algebra.specs.Sums.{sum-zeros}
use Rattle.linear_algebra.specs.Matrix.{Row, one, delta-same, ◌⊞◌, ◌⊙◌, negative, ◌·◌}
use Rattle.linear_algebra.specs.Parts.{unit, row}
use Rattle.linear_algebra.proofs.MatrixLaws.{mul_assoc_mat, mul_add_mat, mul_negative, mul_scale, scale_mul, scale_add, scale_scale, one_scale, mul_one_mat, mul_zeros, zeros_mul, add_mul_mat, add_assoc_mat, add_zeros, negative_add, add_comm_mat, add_negative, one-at}
use Rattle.linear_algebra.proofs.PartsLaws.{unit-at, unit_mul, row-at}
use Rattle.linear_algebra.proofs.LinearMaps.{as_units}
use Rattle.linear_algebra.proofs.Families.{combine_mul}
use Rattle.linear_algebra.proofs.Search.{zero_or_not, search_or_all}
use Rattle.linear_algebra.proofs.Inverses.{left_inverse_square}
use Rattle.linear_algebra.proofs.Solving.{surjective_left_inverse}
use Rattle.representations.specs.Quiver.{Quiver, Path, path_length, path_join, BoundQuiver, opposite_algebra}
use Rattle.representations.specs.Rep.{Rep, along, IsMod}
use Rattle.representations.specs.Hom.{Hom, ◌≫◌, ◌⊕◌, identity, negative_hom, multiple, power, zero_hom}
use Rattle.representations.specs.Module.{IsEpi, IsIso, IsNilpotent, IsSplitEpi, IsZero}
use Rattle.representations.specs.Submodule.{inclusion}
use Rattle.representations.specs.RadicalModule.{radical}
use Rattle.representations.specs.Dual.{dual, dual_hom}
use Rattle.representations.specs.Radical.{IsInRadical, IsReachedModuloRadical}
use Rattle.representations.proofs.Homs.{compose_assoc, compose-at, same-at, sum-at, negative-at, multiple-at, identity-at, power-zero, power-suc, zero_multiple, negative_add_hom, sum_zero}
use Rattle.representations.proofs.Endomorphisms.{iso_by_vertices}
use Rattle.representations.proofs.Paths.{along_join}
use Rattle.representations.proofs.Duals.{dual_compose, dual_identity, dual_zero}
use Rattle.representations.proofs.Radical.{path_length-join, radical-zeros, radical-sum, radical-scale, by_terms, into_radical_nilpotent, nakayama, nakayama_zero}
use Rattle.representations.proofs.RadicalModule.{radical_in_basis, basis_in_radical}
use Rattle.representations.proofs.Submodules.{inclusion_mono}
use Rattle.representations.proofs.Factoring.{through_mono}
use Rattle.projectives.specs.Words.{Words, IsWordBasis, word_at, along_word, projective}
use Rattle.projectives.specs.Projective.{generator}
use Rattle.projectives.specs.Yoneda.{yoneda}
use Rattle.projectives.specs.TwoSided.{TwoSided, other}
use Rattle.projectives.specs.Injective.{injective, undual}
use Rattle.projectives.proofs.Yoneda.{along_word-hom, generator-yoneda}
use Rattle.projectives.proofs.RadicalWords.{radical_of_long}
use Rattle.projectives.proofs.ProjectiveRadical.{one_in_radical, radical_combine}
use Rattle.projectives.proofs.Covers.{radical_negative}
use Rattle.projectives.proofs.Turning.{dual-undual}
use Rattle.local_modules.specs.Local.{IsLocal}
use Rattle.local_modules.proofs.LocalRings.{power-shift}
use Rattle.auslander_reiten.specs.AlmostSplit.{Lifts}

-- A surjective endomorphism is an isomorphism.
pub epi_iso : {q : Gf} {Q : Quiver} {X : Rep q Q} (x : Hom X X) → IsEpi x → IsIso x
epi_iso x e = iso_by_vertices x (λ w. left_inverse_square (x.at w) refl (surjective_left_inverse (x.at w) (e w)))

-- A row of the radical goes along a path to one of the radical.
pub radical_path : {q : Gf} {Q : Quiver} {X : Rep q Q} {v w : ℕ} (p : Path Q v w) {x : Row q (X.dim v)} → IsInRadical X v x → IsInRadical X w (x · along X p)
radical_path {q} {Q} {X} {v} {w} p = by_terms (λ x. IsInRadical X w (x · along X p))
    (subst (IsInRadical X w) (sym (zeros_mul (along X p))) (radical-zeros 1 w))
    (λ x y r s. subst (IsInRadical X w) (sym (add_mul_mat x y (along X p))) (radical-sum r s))
    (λ u r e y. subst (IsInRadical X w) (ap (λ z. y · z) (along_join X r p) ∙ sym (mul_assoc_mat y (along X r) (along X p)))
    (let long : path_length (path_join r p) ≡ suc (path_length p) = path_length-join r p ∙ ap (λ n. n + path_length p) e ∙ (let one : 1 + path_length p ≡ suc (path_length p) = omega arith in one) in
    radical_of_long X (path_join r p) long y))

module _ {q : Gf} (A : BoundQuiver) (W : Words q A.quiver) (B : IsWordBasis A W) (v : ℕ) (inside : v < A.quiver.vertices) (x : Hom (projective W v) (projective W v)) where
  abbrev P : Rep q A.quiver
  P = projective W v

  -- the coefficient of the generator in its value
  scalar_part : ℕ
  scalar_part = (generator A W B v · x.at v).at 0 (B.place v)

  scalar_small : scalar_part < order q
  unfolding scalar_part
  scalar_small = (generator A W B v · x.at v).fits.small 0 (B.place v)

  rest : Hom P P
  rest = x ⊕ negative_hom (multiple scalar_part (identity P))

  rest_rows : (w : ℕ) (z : Row q (P.dim w)) → z · rest.at w ≡ z · x.at w ⊞ negative (scalar_part ⊙ z)
  unfolding rest
  rest_rows w z =
      ap (λ m. z · m) (sum-at x (negative_hom (multiple scalar_part (identity P))) w
      ∙ ap (λ m. x.at w ⊞ m) (negative-at (multiple scalar_part (identity P)) w ∙ ap negative (multiple-at scalar_part (identity P) w ∙ ap (λ m. scalar_part ⊙ m) (identity-at P w))))
      ∙ mul_add_mat z (x.at w) (negative (scalar_part ⊙ one q (P.dim w)))
      ∙ ap (λ m. z · x.at w ⊞ m) (mul_negative z (scalar_part ⊙ one q (P.dim w)) ∙ ap negative (mul_scale scalar_part z (one q (P.dim w)) ∙ ap (λ m. scalar_part ⊙ m) (mul_one_mat z)))

  value_rest : (generator A W B v · rest.at v).at 0 (B.place v) ≡ 0
  unfolding scalar_part ◌⊞◌ negative ◌⊙◌
  value_rest =
      let below = B.place_below v inside in
      let one_there : (generator A W B v).at 0 (B.place v) ≡ 1 = unit-at q (W.count v v) (B.place v) (B.place v) ∙ one-at q (W.count v v) (B.place v) (B.place v) below ∙ delta-same (B.place v) in
      ap (λ (m : Row q (W.count v v)). m.at 0 (B.place v)) (rest_rows v (generator A W B v))
      ∙ ap (λ n. add q scalar_part (neg q (mul q scalar_part n))) one_there
      ∙ ap (λ n. add q scalar_part (neg q n)) (mul_one q scalar_part ((generator A W B v · x.at v).fits.small 0 (B.place v)))
      ∙ add_neg q scalar_part

  value_small : IsInRadical P v (generator A W B v · rest.at v)
  value_small = one_in_radical A W B v v (generator A W B v · rest.at v) (λ e. value_rest)

  along_small : (w i : ℕ) (c : (i < W.count v w) ⊎ (W.count v w ≤ i)) → IsInRadical P w (generator A W B v · rest.at v · word_at W P v w i c)
  along_small w i (inl l) = radical_path (W.word v w i l) value_small
  along_small w i (inr l) = subst (IsInRadical P w) (sym (mul_zeros (generator A W B v · rest.at v))) (radical-zeros 1 w)

  word_small : (w i : ℕ) → IsInRadical P w (generator A W B v · rest.at v · along_word W P v w i)
  unfolding along_word
  word_small w i = along_small w i (cases_lt i (W.count v w))

  unit_small : (w i : ℕ) → i < W.count v w → IsInRadical P w (unit q (W.count v w) i · rest.at w)
  unit_small w i h = subst (IsInRadical P w)
      (mul_assoc_mat (generator A W B v) (rest.at v) (along_word W P v w i) ∙ ap (λ z. generator A W B v · z) (sym (along_word-hom W rest v w i))
      ∙ sym (mul_assoc_mat (generator A W B v) (along_word W P v w i) (rest.at w)) ∙ ap (λ z. z · rest.at w) (B.generates v w i h))
      (word_small w i)

  -- x is a multiple of the identity up to the radical.
  rest_small : (w : ℕ) (z : Row q (P.dim w)) → IsInRadical P w (z · rest.at w)
  rest_small w z = subst (IsInRadical P w) (sym (ap (λ m. m · rest.at w) (as_units z) ∙ combine_mul (W.count v w) (z.at 0) (unit q (W.count v w)) (rest.at w)))
      (radical_combine (W.count v w) (z.at 0) (λ i. unit q (W.count v w) i · rest.at w) (λ i h. radical-scale (z.at 0 i) (unit_small w i h)))

  nilpotent_rest : scalar_part ≡ 0 → IsNilpotent x
  unfolding rest
  nilpotent_rest e = subst IsNilpotent same (record { exponent = A.bound; vanishes = into_radical_nilpotent A (B.modules v) rest rest_small })
    where
      none : multiple scalar_part (identity P) ≡ zero_hom P P
      none = ap (λ n. multiple n (identity P)) e ∙ zero_multiple (identity P)

      same : rest ≡ x
      same = ap (λ z. x ⊕ z) (sym (sum_zero (negative_hom (multiple scalar_part (identity P)))) ∙ ap (λ z. negative_hom (multiple scalar_part (identity P)) ⊕ z) (sym none)
          ∙ negative_add_hom (multiple scalar_part (identity P))) ∙ sum_zero x

  reached : scalar_part ≢ 0 → (w : ℕ) (z : Row q (P.dim w)) → IsReachedModuloRadical x w z
  reached d w z = record {
    from = inv q scalar_part ⊙ z;
    rest = negative (inv q scalar_part ⊙ (z · rest.at w));
    in_radical = radical_negative (radical-scale (inv q scalar_part) (rest_small w z));
    is = ap (λ m. m ⊞ negative (inv q scalar_part ⊙ (z · rest.at w))) (scale_mul (inv q scalar_part) z (x.at w) ∙ ap (λ m. inv q scalar_part ⊙ m) whole
        ∙ scale_add (inv q scalar_part) (z · rest.at w) (scalar_part ⊙ z) ∙ ap (λ m. inv q scalar_part ⊙ (z · rest.at w) ⊞ m) back)
        ∙ add_cancelled (inv q scalar_part ⊙ (z · rest.at w)) z;
  }
    where
      whole : z · x.at w ≡ z · rest.at w ⊞ scalar_part ⊙ z
      whole = sym (ap (λ m. m ⊞ scalar_part ⊙ z) (rest_rows w z) ∙ add_assoc_mat (z · x.at w) (negative (scalar_part ⊙ z)) (scalar_part ⊙ z)
          ∙ ap (λ m. z · x.at w ⊞ m) (negative_add (scalar_part ⊙ z)) ∙ add_zeros (z · x.at w))

      back : inv q scalar_part ⊙ (scalar_part ⊙ z) ≡ z
      back = scale_scale (inv q scalar_part) scalar_part z
          ∙ ap (λ n. n ⊙ z) (mul_comm q (inv q scalar_part) scalar_part ∙ mul_inv q scalar_part scalar_small d) ∙ one_scale z

      add_cancelled : (a b : Row q (P.dim w)) → (a ⊞ b) ⊞ negative a ≡ b
      add_cancelled a b = ap (λ m. m ⊞ negative a) (add_comm_mat a b) ∙ add_assoc_mat b a (negative a) ∙ ap (λ m. b ⊞ m) (add_negative a) ∙ add_zeros b

  iso_of_scalar : scalar_part ≢ 0 → IsIso x
  iso_of_scalar d = epi_iso x (nakayama A (B.modules v) x (reached d))

  pub iso_of_entry : (generator A W B v · x.at v).at 0 (B.place v) ≢ 0 → IsIso x
  unfolding scalar_part
  iso_of_entry d = iso_of_scalar d

  pub decided : IsIso x ⊎ IsNilpotent x
  decided = elim (zero_or_not scalar_part) [
    | inl d ↦ inl (iso_of_scalar d)
    | inr e ↦ inr (nilpotent_rest e)
  ]

pub projective_local : {q : Gf} (A : BoundQuiver) (W : Words q A.quiver) (B : IsWordBasis A W) (v : ℕ) → v < A.quiver.vertices → IsLocal (projective W v)
projective_local A W B v h = record {
  vertex = v;
  nonzero = λ e. let below = B.place_below v h in absurd (omega (arith, e, below));
  decides = λ x. decided A W B v h x;
}

-- Each homomorphism to the projective module goes into its radical, or is a split epimorphism.
module _ {q : Gf} (A : BoundQuiver) (W : Words q A.quiver) (B : IsWordBasis A W) (v : ℕ) (inside : v < A.quiver.vertices) {X : Rep q A.quiver} (M : IsMod A X) (h : Hom X (projective W v)) where
  abbrev to_unit : ℕ → Hom (projective W v) X
  to_unit i = yoneda A W B X M v (unit q (X.dim v) i)

  value_of_unit : (i : ℕ) → generator A W B v · (to_unit i ≫ h).at v ≡ row i (h.at v)
  value_of_unit i =
      ap (λ z. generator A W B v · z) (compose-at (to_unit i) h v) ∙ sym (mul_assoc_mat (generator A W B v) ((to_unit i).at v) (h.at v))
      ∙ ap (λ z. z · h.at v) (generator-yoneda A W B X M v (unit q (X.dim v) i)) ∙ unit_mul i (h.at v)

  entry_of_unit : (i : ℕ) → (generator A W B v · (to_unit i ≫ h).at v).at 0 (B.place v) ≡ (h.at v).at i (B.place v)
  entry_of_unit i = ap (λ (z : Row q (W.count v v)). z.at 0 (B.place v)) (value_of_unit i) ∙ row-at i (h.at v) (B.place v)

  splits_by_entry : (i : ℕ) → (h.at v).at i (B.place v) ≢ 0 → IsSplitEpi h
  splits_by_entry i d =
      let iso = iso_of_entry A W B v inside (to_unit i ≫ h) (λ e. d (sym (entry_of_unit i) ∙ e)) in
      record { section = iso.inverse ≫ to_unit i; is = compose_assoc iso.inverse (to_unit i) h ∙ iso.left }

  entry_zero : ((i : ℕ) → i < X.dim v → (h.at v).at i (B.place v) ≡ 0) → (x : Row q (X.dim v)) → (x · h.at v).at 0 (B.place v) ≡ 0
  unfolding ◌·◌
  entry_zero all x = sum-zeros q (X.dim v) _ (λ i l. ap (mul q (x.at 0 i)) (all i l) ∙ mul_zero q (x.at 0 i))

  into_radical : ((i : ℕ) → i < X.dim v → (h.at v).at i (B.place v) ≡ 0) → (w : ℕ) (x : Row q (X.dim w)) → IsInRadical (projective W v) w (x · h.at w)
  into_radical all w x = one_in_radical A W B v w (x · h.at w) (λ e. path_j (λ w e. (x : Row q (X.dim w)) → (x · h.at w).at 0 (B.place v) ≡ 0) (entry_zero all) e x)

  pub into_radical_or_splits : ((w : ℕ) (x : Row q (X.dim w)) → IsInRadical (projective W v) w (x · h.at w)) ⊎ IsSplitEpi h
  into_radical_or_splits = elim (search_or_all (X.dim v) (λ i. (h.at v).at i (B.place v) ≢ 0) (λ i. (h.at v).at i (B.place v) ≡ 0) (λ i. zero_or_not ((h.at v).at i (B.place v)))) [
    | inl f ↦ inr (splits_by_entry f.0 f.2)
    | inr all ↦ inl (into_radical all)
  ]

  -- So it lifts along the inclusion of the radical, or is a split epimorphism.
  pub lifts_to_radical_or_splits : Lifts (inclusion (radical (projective W v))) h ⊎ IsSplitEpi h
  lifts_to_radical_or_splits = elim into_radical_or_splits [
    | inl r ↦ inl (let k = through_mono (inclusion (radical (projective W v))) h (inclusion_mono (radical (projective W v))) (λ w x. radical_in_basis (r w x)) in record { lift = k.factor; is = k.is })
    | inr s ↦ inr s
  ]

-- The inclusion of the radical of a module that is not zero is no split epimorphism.
pub radical_inclusion_not_split : {q : Gf} (A : BoundQuiver) {X : Rep q A.quiver} → IsMod A X → (IsZero X → ⊥) → IsSplitEpi (inclusion (radical X)) → ⊥
radical_inclusion_not_split A {X} M n s = n (nakayama_zero A M (λ w x. basis_in_radical x (record {
  by = x · s.section.at w;
  is = mul_assoc_mat x (s.section.at w) ((radical X).basis w) ∙ ap (λ z. x · z) (sym (compose-at s.section (inclusion (radical X)) w) ∙ same-at s.is w ∙ identity-at X w) ∙ mul_one_mat x;
})))

-- The dual of a local module is local.
module _ {q : Gf} {Q : Quiver} {X : Rep q Q} where
  dual_power : (x : Hom X X) (k : ℕ) → power (dual_hom x) k ≡ dual_hom (power x k)
  dual_power x zero = power-zero (dual_hom x) ∙ sym (dual_identity X) ∙ ap (λ (z : Hom X X). dual_hom z) (sym (power-zero x))
  dual_power x (suc k) =
      power-suc (dual_hom x) k ∙ sym (power-shift (dual_hom x) (dual_hom x) (dual_hom x) refl k)
      ∙ ap (λ z. z ≫ dual_hom x) (dual_power x k) ∙ sym (dual_compose x (power x k)) ∙ ap (λ (z : Hom X X). dual_hom z) (sym (power-suc x k))

  dual_iso : (x : Hom X X) → IsIso x → IsIso (dual_hom x)
  dual_iso x i = record {
    inverse = dual_hom i.inverse;
    right = sym (dual_compose i.inverse x) ∙ ap (λ (z : Hom X X). dual_hom z) i.left ∙ dual_identity X;
    left = sym (dual_compose x i.inverse) ∙ ap (λ (z : Hom X X). dual_hom z) i.right ∙ dual_identity X;
  }

  dual_nilpotent : (x : Hom X X) → IsNilpotent x → IsNilpotent (dual_hom x)
  dual_nilpotent x n = record { exponent = n.exponent; vanishes = dual_power x n.exponent ∙ ap (λ (z : Hom X X). dual_hom z) n.vanishes ∙ dual_zero X X }

  dual_decides : IsLocal X → (x : Hom X X) → IsIso (dual_hom x) ⊎ IsNilpotent (dual_hom x)
  dual_decides l x = elim (l.decides x) [ inl i ↦ inl (dual_iso x i) | inr n ↦ inr (dual_nilpotent x n) ]

  pub dual_local : IsLocal X → IsLocal (dual X)
  dual_local l = record {
    vertex = l.vertex;
    nonzero = l.nonzero;
    decides = λ (y : Hom (dual X) (dual X)). subst (λ (z : Hom (dual X) (dual X)). IsIso z ⊎ IsNilpotent z) (dual-undual X X y) (dual_decides l (undual y));
  }

pub injective_local : {q : Gf} {A : BoundQuiver} (T : TwoSided q A) (v : ℕ) → v < A.quiver.vertices → IsLocal (injective T v)
injective_local {A = A} T v h = dual_local (projective_local (opposite_algebra A) (other T) T.opposite_basis v h)
