-- Multiplicities in lists of local modules, and in decompositions.
use Rattle.std.proofs.Common.{ℕ, ◌<◌, ◌≡◌, ◌⊎◌, inl, inr, sym, ap, ◌∙◌, subst, arith}
use Rattle.linear_algebra.specs.Field.{Gf}
use Rattle.linear_algebra.proofs.Inverses.{inverse_sizes}
use Rattle.representations.specs.Quiver.{Quiver}
use Rattle.representations.specs.Rep.{Rep}
use Rattle.representations.specs.Hom.{Hom, ◌≫◌, power}
use Rattle.representations.specs.Module.{IsIso, IsNilpotent}
use Rattle.representations.proofs.Homs.{compose_assoc, compose_identity, identity_compose, compose_zero, zero_compose}
use Rattle.representations.proofs.HomSpace.{hom_basis}
use Rattle.representations.proofs.Endomorphisms.{iso_at}
use Rattle.local_modules.specs.Local.{IsLocal}
use Rattle.local_modules.specs.Isomorphic.{Isomorphic}
use Rattle.local_modules.specs.Counting.{IsCount}
use Rattle.local_modules.specs.Decomposition.{LocalDecomposition}
use Rattle.local_modules.proofs.LocalRings.{iso_compose, power-shift}
use Rattle.local_modules.proofs.Comparing.{isomorphic_or_apart, isomorphic_not_apart}
use Rattle.local_modules.proofs.Endomorphisms.{decide}
use Rattle.local_modules.proofs.Counting.{isomorphic_back, count, at_most}
use Rattle.local_modules.proofs.Decomposing.{decompositions_match}

module _ {q : Gf} {Q : Quiver} where
  -- Along an isomorphism f, an endomorphism z of Y is one of X.
  moved_power : {X Y : Rep q Q} (f : Hom X Y) (i : IsIso f) (z : Hom Y Y) (k : ℕ) → power (f ≫ (z ≫ i.inverse)) k ≫ f ≡ f ≫ power z k
  moved_power f i z = power-shift (f ≫ (z ≫ i.inverse)) z f (
      compose_assoc f (z ≫ i.inverse) f ∙ ap (λ u. f ≫ u) (compose_assoc z i.inverse f ∙ ap (λ u. z ≫ u) i.left ∙ compose_identity z))

  cancel : {X Y Z : Rep q Q} (f : Hom X Y) (i : IsIso f) (h : Hom Y Z) → i.inverse ≫ (f ≫ h) ≡ h
  cancel f i h = sym (compose_assoc i.inverse f h) ∙ ap (λ u. u ≫ h) i.left ∙ identity_compose h

  moved_nilpotent : {X Y : Rep q Q} (f : Hom X Y) (i : IsIso f) (z : Hom Y Y) → IsNilpotent (f ≫ (z ≫ i.inverse)) → IsNilpotent z
  moved_nilpotent {X} {Y} f i z n = record {
    exponent = n.exponent;
    vanishes = sym (cancel f i (power z n.exponent)) ∙ ap (λ u. i.inverse ≫ u) (sym (moved_power f i z n.exponent) ∙ ap (λ u. u ≫ f) n.vanishes ∙ zero_compose X f) ∙ compose_zero i.inverse Y;
  }

  moved_iso : {X Y : Rep q Q} (f : Hom X Y) (i : IsIso f) (z : Hom Y Y) → IsIso (f ≫ (z ≫ i.inverse)) → IsIso z
  moved_iso f i z j = subst IsIso
      (ap (λ u. u ≫ f) (cancel f i (z ≫ i.inverse)) ∙ compose_assoc z i.inverse f ∙ ap (λ u. z ≫ u) i.left ∙ compose_identity z)
      (iso_compose (i.inverse ≫ (f ≫ (z ≫ i.inverse))) f (iso_compose i.inverse (f ≫ (z ≫ i.inverse)) (record { inverse = f; right = i.left; left = i.right }) j) i)

  -- What is isomorphic to a local module is local.
  pub local_same : {X Y : Rep q Q} → Isomorphic X Y → IsLocal X → IsLocal Y
  local_same s l = record {
    vertex = l.vertex;
    nonzero = λ e. l.nonzero (inverse_sizes (s.forth.at l.vertex) (iso_at s.forth s.iso l.vertex) ∙ e);
    decides = λ z. elim (l.decides (s.forth ≫ (z ≫ s.iso.inverse))) [ inl i ↦ inl (moved_iso s.forth s.iso z i) | inr n ↦ inr (moved_nilpotent s.forth s.iso z n) ];
  }

  -- It is decided whether a module is isomorphic to a local one.
  pub isomorphic_or_not : (X : Rep q Q) {Z : Rep q Q} → IsLocal Z → Isomorphic X Z ⊎ (Isomorphic X Z → ⊥)
  isomorphic_or_not X {Z} l = elim (decide X (hom_basis X X)) [
    | inl z ↦ inr (λ s. let k = local_same (isomorphic_back s) l in k.nonzero (z k.vertex))
    | inr (inl k) ↦ elim (isomorphic_or_apart k.0 l) [ inl s ↦ inl s | inr a ↦ inr (λ s. isomorphic_not_apart s a) ]
    | inr (inr f) ↦ inr (λ s. elim ((local_same (isomorphic_back s) l).decides f.0) [ inl i ↦ f.1 i | inr n ↦ f.2 n ])
  ]

  -- and a local module to any.
  pub local_isomorphic_or_not : {X : Rep q Q} → IsLocal X → (Z : Rep q Q) → Isomorphic X Z ⊎ (Isomorphic X Z → ⊥)
  local_isomorphic_or_not l Z = elim (isomorphic_or_not Z l) [ inl s ↦ inl (isomorphic_back s) | inr n ↦ inr (λ s. n (isomorphic_back s)) ]

  -- The number of members isomorphic to a local module, and that of members of a list of local modules isomorphic to any.
  pub count_of_local : (m : ℕ) (X : ℕ → Rep q Q) (Z : Rep q Q) → IsLocal Z → (c : ℕ) × IsCount m X Z c
  count_of_local m X Z l = count m X Z (λ i b. isomorphic_or_not (X i) l)

  pub count_among_local : (m : ℕ) (X : ℕ → Rep q Q) → ((i : ℕ) → i < m → IsLocal (X i)) → (Z : Rep q Q) → (c : ℕ) × IsCount m X Z c
  count_among_local m X l Z = count m X Z (λ i b. local_isomorphic_or_not (l i b) Z)

  -- The same in each decomposition.
  pub decompositions_count : (X : Rep q Q) (D E : LocalDecomposition X) (Z : Rep q Q) (c d : ℕ)
      → IsCount D.parts.count (λ i. (D.parts.summand i).part) Z c → IsCount E.parts.count (λ i. (E.parts.summand i).part) Z d → c ≡ d
  decompositions_count X D E Z c d C K =
      let a = at_most D.parts.count E.parts.count (λ i. (D.parts.summand i).part) (λ i. (E.parts.summand i).part) Z c d (decompositions_match X D E) C K in
      let b = at_most E.parts.count D.parts.count (λ i. (E.parts.summand i).part) (λ i. (D.parts.summand i).part) Z d c (decompositions_match X E D) K C in
      omega (arith, a, b)
