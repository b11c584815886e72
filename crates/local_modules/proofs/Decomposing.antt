-- Each module is a direct sum of local modules: a module that is neither zero nor local is split, and its two parts are decomposed.
use Rattle.std.proofs.Common.{ℕ, zero, suc, ◌+◌, ◌-◌, ◌<◌, ◌≤◌, ◌≡◌, ◌⊎◌, inl, inr, refl, sym, ap, ap₂, ◌∙◌, arith, subst}
use Rattle.std.proofs.lemmas.Bool.{cases_lt}
use Rattle.linear_algebra.specs.Field.{Gf}
use Rattle.linear_algebra.specs.BlockFamilies.{total}
use Rattle.linear_algebra.proofs.Blocks.{no_rows_zeros}
use Rattle.linear_algebra.proofs.BlockFamilies.{total_grows}
use Rattle.linear_algebra.proofs.Inverses.{inverse_sizes}
use Rattle.representations.specs.Quiver.{Quiver}
use Rattle.representations.specs.Rep.{Rep}
use Rattle.representations.specs.Hom.{Hom, Hom-eq, ◌≫◌, ◌⊕◌, identity, zero_hom}
use Rattle.representations.specs.Module.{Summand, Orthogonal, IsIso, IsZero}
use Rattle.representations.specs.Sum.{sum_family, sum_rep, into_first, into_second, onto_first, onto_second}
use Rattle.representations.proofs.Homs.{compose_assoc, compose_identity, compose_zero, zero_compose}
use Rattle.representations.proofs.Endomorphisms.{iso_at}
use Rattle.representations.proofs.Sums.{first_first, second_second, first_second, second_first, whole_sum}
use Rattle.representations.proofs.HomSpace.{hom_basis}
use Rattle.representations.proofs.Biproducts.{with_sum, no_parts, one_part, join_parts, carried, transported, carried-count, carried-part, join_parts-first, join_parts-second, join_parts-count, transported-summand, transported-count}
use Rattle.representations.proofs.SumFamilies.{from_family, sum_of_parts}
use Rattle.local_modules.specs.Isomorphic.{Matching}
use Rattle.local_modules.proofs.LocalRings.{iso_compose}
use Rattle.local_modules.proofs.KrullSchmidt.{krull_schmidt}
use Rattle.local_modules.specs.Local.{IsLocal}
use Rattle.local_modules.specs.Splitting.{HasRows, ProperSplitting}
use Rattle.local_modules.specs.Decomposition.{LocalDecomposition}
use Rattle.local_modules.proofs.FittingSplitting.{fitting_cases}
use Rattle.local_modules.proofs.Endomorphisms.{decide}

-- Totals.
total_sum : (k : ℕ) (a b : ℕ → ℕ) → total k (λ v. a v + b v) ≡ total k a + total k b
total_sum zero a b = refl
total_sum (suc k) a b = let e = total_sum k a b in omega (arith, e)

total_same : (k : ℕ) (a b : ℕ → ℕ) → ((v : ℕ) → a v ≡ b v) → total k a ≡ total k b
total_same zero a b h = refl
total_same (suc k) a b h = ap₂ (λ x y. x + y) (total_same k a b h) (h k)

module _ {q : Gf} {Q : Quiver} where
  -- all parts are local
  abbrev AreLocal : {X : Rep q Q} {e : Hom X X} → Orthogonal e → Type 0
  AreLocal B = (i : ℕ) → i < B.count → IsLocal (B.summand i).part

  -- Each module is zero, local or a sum of two modules that are not zero.
  pub zero_local_or_splits : (X : Rep q Q) → IsZero X ⊎ IsLocal X ⊎ ProperSplitting X
  zero_local_or_splits X = elim (decide X (hom_basis X X)) [
    | inl z ↦ inl z
    | inr r ↦ elim r [
      | inl l ↦ inr (inl l.0)
      | inr m ↦ elim (fitting_cases m.0) [ inl i ↦ absurd (m.1 i) | inr c ↦ elim c [ inl n ↦ absurd (m.2 n) | inr s ↦ inr (inr s) ] ]
    ]
  ]

  -- The zero module has no parts; a local module is its own part.
  decompose_zero : (X : Rep q Q) → IsZero X → LocalDecomposition X
  unfolding with_sum no_parts
  decompose_zero X z = record {
    parts = with_sum (Hom-eq (zero_hom X X) (identity X) (λ v. no_rows_zeros (z v) _ ∙ sym (no_rows_zeros (z v) _))) (no_parts X);
    local = λ i h. absurd (omega arith);
  }

  decompose_local : (X : Rep q Q) → IsLocal X → LocalDecomposition X
  unfolding with_sum one_part
  decompose_local X l = record {
    parts = with_sum (compose_identity (identity X)) (one_part (record { part = X; injection = identity X; projection = identity X }) (compose_identity (identity X)));
    local = λ i h. l;
  }

  carried_local : {X : Rep q Q} (s : Summand X) (u : s.injection ≫ s.projection ≡ identity s.part) {e : Hom s.part s.part} (B : Orthogonal e) → AreLocal B → AreLocal (carried s u B)
  carried_local s u B l i h = subst IsLocal (sym (carried-part s u B i)) (l i (subst (λ n. i < n) (carried-count s u B) h))

  with_sum_local : {X : Rep q Q} {e d : Hom X X} (h : e ≡ d) (B : Orthogonal e) → AreLocal B → AreLocal (with_sum h B)
  unfolding with_sum
  with_sum_local h B l = l

  joined_local : {X : Rep q Q} {e d : Hom X X} (B : Orthogonal e) (C : Orthogonal d) (y : e ≫ d ≡ zero_hom X X) (z : d ≫ e ≡ zero_hom X X) → AreLocal B → AreLocal C → AreLocal (join_parts B C y z)
  joined_local B C y z l m i h =
      let below : i < B.count + C.count = subst (λ n. i < n) (join_parts-count B C y z) h in
      elim (cases_lt i B.count) [
        | inl k ↦ subst (λ s. IsLocal s.part) (sym (join_parts-first B C y z i k)) (l i k)
        | inr k ↦
            let same : B.count + (i - B.count) ≡ i = omega arith in
            subst (λ j. IsLocal ((join_parts B C y z).summand j).part) same
            (subst (λ s. IsLocal s.part) (sym (join_parts-second B C y z (i - B.count))) (m (i - B.count) (omega arith)))
      ]

  -- A sum of two modules that are decomposed.
  module _ (X Y : Rep q Q) (D : LocalDecomposition X) (E : LocalDecomposition Y) where
    apart : {V W : Rep q Q} (a : Hom (sum_rep X Y) V) (b : Hom V (sum_rep X Y)) (c : Hom (sum_rep X Y) W) (d : Hom W (sum_rep X Y)) → b ≫ c ≡ zero_hom V W → (a ≫ b) ≫ (c ≫ d) ≡ zero_hom (sum_rep X Y) (sum_rep X Y)
    apart {V} {W} a b c d e =
        compose_assoc a b (c ≫ d) ∙ ap (λ z. a ≫ z) (sym (compose_assoc b c d) ∙ ap (λ z. z ≫ d) e ∙ zero_compose V d) ∙ compose_zero a (sum_rep X Y)

    decompose_sum : LocalDecomposition (sum_rep X Y)
    decompose_sum = record {
      parts = with_sum whole (join_parts B C (apart (onto_first X Y ≫ identity X) (into_first X Y) (onto_second X Y ≫ identity Y) (into_second X Y) first_then_second)
          (apart (onto_second X Y ≫ identity Y) (into_second X Y) (onto_first X Y ≫ identity X) (into_first X Y) second_then_first));
      local = with_sum_local whole _ (joined_local B C _ _ (carried_local _ (first_first X Y) D.parts D.local) (carried_local _ (second_second X Y) E.parts E.local));
    }
      where
        B : Orthogonal (onto_first X Y ≫ identity X ≫ into_first X Y)
        B = carried (record { part = X; injection = into_first X Y; projection = onto_first X Y }) (first_first X Y) D.parts

        C : Orthogonal (onto_second X Y ≫ identity Y ≫ into_second X Y)
        C = carried (record { part = Y; injection = into_second X Y; projection = onto_second X Y }) (second_second X Y) E.parts

        first_then_second : into_first X Y ≫ (onto_second X Y ≫ identity Y) ≡ zero_hom X Y
        first_then_second = ap (λ z. into_first X Y ≫ z) (compose_identity (onto_second X Y)) ∙ first_second X Y

        second_then_first : into_second X Y ≫ (onto_first X Y ≫ identity X) ≡ zero_hom Y X
        second_then_first = ap (λ z. into_second X Y ≫ z) (compose_identity (onto_first X Y)) ∙ second_first X Y

        whole : onto_first X Y ≫ identity X ≫ into_first X Y ⊕ onto_second X Y ≫ identity Y ≫ into_second X Y ≡ identity (sum_rep X Y)
        whole = ap₂ (λ f g. f ≫ into_first X Y ⊕ g ≫ into_second X Y) (compose_identity (onto_first X Y)) (compose_identity (onto_second X Y)) ∙ whole_sum X Y

  decompose_along : {X Y : Rep q Q} (f : Hom X Y) → IsIso f → LocalDecomposition X → LocalDecomposition Y
  decompose_along f i D = record { parts = transported f i D.parts; local = λ j h. subst IsLocal (ap (λ s. s.part) (sym (transported-summand f i D.parts j))) (D.local j (subst (λ n. j < n) (transported-count f i D.parts) h)) }

  -- The two parts of a proper splitting are smaller.
  size_of : Rep q Q → ℕ
  size_of X = total Q.vertices X.dim

  some_size : (X : Rep q Q) → HasRows X → 0 < size_of X
  unfolding size_of
  some_size X h = elim (cases_lt h.vertex Q.vertices) [
    | inl l ↦ let g = total_grows X.dim Q.vertices h.vertex l in let n = h.nonzero in omega (arith, g, n)
    | inr l ↦ absurd (h.nonzero (X.past h.vertex l))
  ]

  splitting_size : {X : Rep q Q} (s : ProperSplitting X) → size_of X ≡ size_of s.first + size_of s.second
  unfolding size_of
  splitting_size {X} s = total_same Q.vertices X.dim (λ v. s.first.dim v + s.second.dim v) (λ v. sym (inverse_sizes (s.whole.at v) (iso_at s.whole s.iso v))) ∙ total_sum Q.vertices s.first.dim s.second.dim

  go : (fuel : ℕ) (X : Rep q Q) → size_of X ≤ fuel → LocalDecomposition X
  go zero X h = elim (zero_local_or_splits X) [
    | inl z ↦ decompose_zero X z
    | inr r ↦ elim r [
      | inl l ↦ decompose_local X l
      | inr s ↦ absurd (let e = splitting_size s in let a = some_size s.first s.first_has in omega (arith, e, a, h))
    ]
  ]
  go (suc fuel) X h = elim (zero_local_or_splits X) [
    | inl z ↦ decompose_zero X z
    | inr r ↦ elim r [
      | inl l ↦ decompose_local X l
      | inr s ↦
          let e = splitting_size s in
          let a = some_size s.first s.first_has in
          let b = some_size s.second s.second_has in
          decompose_along s.whole s.iso (decompose_sum s.first s.second (go fuel s.first (omega (arith, e, a, b, h))) (go fuel s.second (omega (arith, e, a, b, h))))
    ]
  ]

  -- Each module is a direct sum of local modules.
  pub decompose : (X : Rep q Q) → LocalDecomposition X
  decompose X = go (size_of X) X (omega arith)

-- Two decompositions of a module into local modules match.
pub decompositions_match : {q : Gf} {Q : Quiver} (X : Rep q Q) (D E : LocalDecomposition X)
    → Matching D.parts.count (λ i. (D.parts.summand i).part) E.parts.count (λ i. (E.parts.summand i).part)
decompositions_match {q} {Q} X D E = krull_schmidt D.parts.count E.parts.count (λ i. (D.parts.summand i).part) (λ i. (E.parts.summand i).part) D.local E.local (f ≫ i.inverse) through
  where
    f : Hom (sum_family D.parts.count (λ i. (D.parts.summand i).part)) X
    f = from_family D.parts.count (λ i. (D.parts.summand i).part) (λ i. (D.parts.summand i).injection)

    i : IsIso (from_family E.parts.count (λ i. (E.parts.summand i).part) (λ i. (E.parts.summand i).injection))
    i = sum_of_parts E.parts

    through : IsIso (f ≫ i.inverse)
    through = iso_compose f i.inverse (sum_of_parts D.parts) (record { inverse = from_family E.parts.count (λ i. (E.parts.summand i).part) (λ i. (E.parts.summand i).injection); right = i.left; left = i.right })
