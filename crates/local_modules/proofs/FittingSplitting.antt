-- Fitting's lemma: an endomorphism is an isomorphism, or nilpotent, or it splits the module properly. (Assem, Simson, Skowroński, volume 1,
-- chapter I, 4.)
use Rattle.std.proofs.Common.{ℕ, suc, ◌≡◌, ◌≢◌, ◌≤◌, ◌⊎◌, inl, inr, refl, sym, ap, ◌∙◌, subst, arith}
use Rattle.std.proofs.lemmas.Bool.{cases_lt}
use Rattle.linear_algebra.specs.Field.{Gf}
use Rattle.linear_algebra.specs.Matrix.{zeros, stack, ◌·◌}
use Rattle.linear_algebra.specs.Rank.{HasInverse, Complement}
use Rattle.linear_algebra.specs.BlockFamilies.{total}
use Rattle.linear_algebra.proofs.MatrixLaws.{mul_assoc_mat, zeros_mul}
use Rattle.linear_algebra.proofs.BlockFamilies.{total_grows}
use Rattle.linear_algebra.proofs.Search.{search_or_all, zero_or_not}
use Rattle.linear_algebra.proofs.Solving.{left_f, injective_right_inverse}
use Rattle.linear_algebra.proofs.Inverses.{right_inverse_square}
use Rattle.linear_algebra.proofs.Subspaces.{through_zero}
use Rattle.linear_algebra.proofs.Dimension.{complement, kernel_spans}
use Rattle.linear_algebra.proofs.Fitting.{fitting_invertible}
use Rattle.representations.specs.Quiver.{Quiver}
use Rattle.representations.specs.Rep.{Rep}
use Rattle.representations.specs.Hom.{Hom, Hom-eq, ◌≫◌, identity, zero_hom, power}
use Rattle.representations.specs.Module.{IsIso, IsNilpotent}
use Rattle.representations.specs.Submodule.{Submodule, sub_rep, inclusion}
use Rattle.representations.specs.Kernel.{kernel}
use Rattle.representations.specs.Sum.{sum_rep, into_first, into_second, onto_first, onto_second, from_sum}
use Rattle.representations.proofs.Homs.{compose-at, zero_hom-at, same-at, compose_assoc, compose_identity, identity_compose, compose_zero, zero_compose, power-at, power-suc}
use Rattle.representations.proofs.Endomorphisms.{iso_by_vertices}
use Rattle.representations.proofs.Sums.{first_first, second_second, second_first}
use Rattle.local_modules.specs.Local.{IsLocal}
use Rattle.local_modules.specs.Splitting.{HasRows, ProperSplitting}
use Rattle.local_modules.proofs.LocalRings.{identity_not_zero, idempotents}

module _ {q : Gf} {Q : Quiver} where
  -- a module has rows or it has none
  pub rows_or_none : (X : Rep q Q) → HasRows X ⊎ ((v : ℕ) → X.dim v ≡ 0)
  rows_or_none X = elim (search_or_all Q.vertices (λ v. X.dim v ≢ 0) (λ v. X.dim v ≡ 0) (λ v. zero_or_not (X.dim v))) [
    | inl s ↦ inl (record { vertex = s.0; nonzero = s.2 })
    | inr n ↦ inr (λ v. elim (cases_lt v Q.vertices) [ inl l ↦ n v l | inr l ↦ X.past v l ])
  ]

  -- an exponent from which on powers settle at each vertex
  abbrev exponent_of : Rep q Q → ℕ
  exponent_of X = suc (total Q.vertices X.dim)

  large : (X : Rep q Q) (v : ℕ) → X.dim v ≤ exponent_of X
  large X v = elim (cases_lt v Q.vertices) [
    | inl l ↦ let g = total_grows X.dim Q.vertices v l in omega (arith, g)
    | inr l ↦ let n = X.past v l in omega (arith, n)
  ]

  -- the image of f, with the basis of a rank factorisation
  image_by_rank : {X : Rep q Q} (f : Hom X X) → Submodule X
  image_by_rank {X} f = record {
    size = λ v. (complement (f.at v)).rank.size;
    basis = λ v. (complement (f.at v)).rank.basis;
    independent = λ v. record { inverse = (complement (f.at v)).rank.right; is = (complement (f.at v)).rank.right_inverse };
    stable = λ a.
        let s = (complement (f.at (Q.source a))).rank in
        let t = (complement (f.at (Q.target a))).rank in
        record {
          by = s.left · X.mat a · t.into;
          is = mul_assoc_mat (s.left · X.mat a) t.into t.basis ∙ ap (λ z. s.left · X.mat a · z) t.product ∙ mul_assoc_mat s.left (X.mat a) (f.at (Q.target a))
              ∙ ap (λ z. s.left · z) (f.square a) ∙ sym (mul_assoc_mat s.left (f.at (Q.source a)) (X.mat a)) ∙ ap (λ z. z · X.mat a) (left_f s);
        };
  }

  module _ {X : Rep q Q} (x : Hom X X) where
    abbrev settled : Hom X X
    settled = power x (exponent_of X)

    abbrev nilpotent_part : Rep q Q
    nilpotent_part = sub_rep (kernel settled)

    abbrev invertible_part : Rep q Q
    invertible_part = sub_rep (image_by_rank settled)

    parts_to_whole : Hom (sum_rep nilpotent_part invertible_part) X
    parts_to_whole = from_sum (inclusion (kernel settled)) (inclusion (image_by_rank settled))

    basis_at : (v : ℕ) → HasInverse (stack (complement (settled.at v)).kernel (complement (settled.at v)).rank.basis)
    basis_at v = subst (λ g. (C : Complement g) → HasInverse (stack C.kernel C.rank.basis)) (sym (power-at x (exponent_of X) v))
        (fitting_invertible (x.at v) (exponent_of X) (large X v)) (complement (settled.at v))

    parts_are_whole : IsIso parts_to_whole
    unfolding parts_to_whole from_sum kernel image_by_rank
    parts_are_whole = iso_by_vertices parts_to_whole (λ v. basis_at v)

    nilpotent_where_none : ((v : ℕ) → invertible_part.dim v ≡ 0) → IsNilpotent x
    unfolding image_by_rank
    nilpotent_where_none n = record {
      exponent = exponent_of X;
      vanishes = Hom-eq settled (zero_hom X X) (λ v.
          let F = (complement (settled.at v)).rank in
          sym F.product ∙ through_zero F.into F.basis (n v) ∙ sym (zero_hom-at X X v));
    }

    iso_where_none : ((v : ℕ) → nilpotent_part.dim v ≡ 0) → IsIso x
    unfolding kernel
    iso_where_none n = iso_by_vertices x (λ v. right_inverse_square (x.at v) refl (injective_right_inverse (x.at v) (λ y e.
        let goes : y · settled.at v ≡ zeros q 1 (X.dim v) =
        ap (λ z. y · z) (same-at (power-suc x (total Q.vertices X.dim)) v ∙ compose-at x (power x (total Q.vertices X.dim)) v)
        ∙ sym (mul_assoc_mat y (x.at v) ((power x (total Q.vertices X.dim)).at v)) ∙ ap (λ z. z · (power x (total Q.vertices X.dim)).at v) e ∙ zeros_mul ((power x (total Q.vertices X.dim)).at v) in
        let s = kernel_spans (settled.at v) (complement (settled.at v)) y goes in
        sym s.is ∙ through_zero s.by (complement (settled.at v)).kernel (n v))))

    pub fitting_cases : IsIso x ⊎ (IsNilpotent x ⊎ ProperSplitting X)
    fitting_cases = elim (rows_or_none nilpotent_part) [
      | inr n ↦ inl (iso_where_none n)
      | inl k ↦ inr (elim (rows_or_none invertible_part) [
        | inr n ↦ inl (nilpotent_where_none n)
        | inl j ↦ inr (record { first = nilpotent_part; second = invertible_part; whole = parts_to_whole; iso = parts_are_whole; first_has = k; second_has = j })
      ])
    ]

  -- a local module does not split properly
  pub local_no_splitting : {X : Rep q Q} → IsLocal X → ProperSplitting X → ⊥
  local_no_splitting {X} L s = elim (idempotents L e twice) [ inl o ↦ second_zero o | inr z ↦ first_zero z ]
    where
      back : Hom X (sum_rep s.first s.second)
      back = s.iso.inverse

      keep : Hom (sum_rep s.first s.second) (sum_rep s.first s.second)
      keep = onto_first s.first s.second ≫ into_first s.first s.second

      e : Hom X X
      e = back ≫ (keep ≫ s.whole)

      keep_twice : keep ≫ keep ≡ keep
      keep_twice = compose_assoc (onto_first s.first s.second) (into_first s.first s.second) keep
          ∙ ap (λ z. onto_first s.first s.second ≫ z) (sym (compose_assoc (into_first s.first s.second) (onto_first s.first s.second) (into_first s.first s.second))
          ∙ ap (λ z. z ≫ into_first s.first s.second) (first_first s.first s.second) ∙ identity_compose (into_first s.first s.second))

      after_whole : s.whole ≫ e ≡ keep ≫ s.whole
      after_whole = sym (compose_assoc s.whole back (keep ≫ s.whole)) ∙ ap (λ z. z ≫ (keep ≫ s.whole)) s.iso.right ∙ identity_compose (keep ≫ s.whole)

      twice : e ≫ e ≡ e
      twice = compose_assoc back (keep ≫ s.whole) e ∙ ap (λ z. back ≫ z)
          (compose_assoc keep s.whole e ∙ ap (λ z. keep ≫ z) after_whole ∙ sym (compose_assoc keep keep s.whole) ∙ ap (λ z. z ≫ s.whole) keep_twice)

      whole_back : {Y : Rep q Q} (f : Hom Y (sum_rep s.first s.second)) → f ≫ s.whole ≡ zero_hom Y X → f ≡ zero_hom Y (sum_rep s.first s.second)
      whole_back {Y} f z = sym (compose_identity f) ∙ ap (λ w. f ≫ w) (sym s.iso.right) ∙ sym (compose_assoc f s.whole back) ∙ ap (λ w. w ≫ back) z ∙ zero_compose Y back

      second_zero : e ≡ identity X → ⊥
      second_zero o =
          let i = into_second s.first s.second in
          let none : i ≫ s.whole ≡ zero_hom s.second X =
          sym (compose_identity (i ≫ s.whole)) ∙ ap (λ w. (i ≫ s.whole) ≫ w) (sym o) ∙ compose_assoc i s.whole e ∙ ap (λ w. i ≫ w) after_whole
          ∙ sym (compose_assoc i keep s.whole) ∙ ap (λ w. w ≫ s.whole) (sym (compose_assoc i (onto_first s.first s.second) (into_first s.first s.second))
          ∙ ap (λ w. w ≫ into_first s.first s.second) (second_first s.first s.second) ∙ zero_compose s.second (into_first s.first s.second))
          ∙ zero_compose s.second s.whole in
          identity_not_zero s.second_has.vertex s.second_has.nonzero
          (sym (second_second s.first s.second) ∙ ap (λ w. w ≫ onto_second s.first s.second) (whole_back i none) ∙ zero_compose s.second (onto_second s.first s.second))

      first_zero : e ≡ zero_hom X X → ⊥
      first_zero z =
          let i = into_first s.first s.second in
          let keeps : i ≫ keep ≡ i = sym (compose_assoc i (onto_first s.first s.second) i) ∙ ap (λ w. w ≫ i) (first_first s.first s.second) ∙ identity_compose i in
          let none : i ≫ s.whole ≡ zero_hom s.first X =
          ap (λ w. w ≫ s.whole) (sym keeps) ∙ compose_assoc i keep s.whole ∙ ap (λ w. i ≫ w) (sym after_whole) ∙ ap (λ w. i ≫ (s.whole ≫ w)) z
          ∙ ap (λ w. i ≫ w) (compose_zero s.whole X) ∙ compose_zero i X in
          identity_not_zero s.first_has.vertex s.first_has.nonzero
          (sym (first_first s.first s.second) ∙ ap (λ w. w ≫ onto_first s.first s.second) (whole_back i none) ∙ zero_compose s.first (onto_first s.first s.second))
