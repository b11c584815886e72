-- Local modules are isomorphic or apart, and it is decided which.
use Rattle.std.proofs.Common.{ℕ, zero, suc, ◌≡◌, ◌<◌, ◌≤◌, ◌⊎◌, inl, inr, sym, ap, ap₂, ◌∙◌, subst, arith}
use Rattle.linear_algebra.specs.Field.{Gf}
use Rattle.linear_algebra.specs.Matrix.{Row, zeros, ◌⊞◌, ◌⊙◌}
use Rattle.linear_algebra.specs.Parts.{unit}
use Rattle.linear_algebra.specs.Families.{combine}
use Rattle.linear_algebra.proofs.MatrixLaws.{zero_scale}
use Rattle.linear_algebra.proofs.LinearMaps.{as_units}
use Rattle.linear_algebra.proofs.Search.{search_or_all}
use Rattle.representations.specs.Quiver.{Quiver}
use Rattle.representations.specs.Rep.{Rep}
use Rattle.representations.specs.Hom.{Hom, ◌≫◌, ◌⊕◌, zero_hom, multiple, sum_of}
use Rattle.representations.specs.Module.{IsIso, IsNilpotent}
use Rattle.representations.specs.HomSpace.{HomBasis}
use Rattle.representations.proofs.HomSpace.{hom_basis, coordinates, hom-coordinates, hom_sum, hom_scale}
use Rattle.representations.proofs.Homs.{compose_identity, compose_zero, zero_compose, compose_sum, sum_compose, zero_multiple, multiple_compose, compose_multiple, power-suc, power-zero}
use Rattle.representations.proofs.Biproducts.{sum_of-none, sum_of-suc}
use Rattle.local_modules.specs.Local.{IsLocal}
use Rattle.local_modules.specs.Isomorphic.{Isomorphic, AreApart}
use Rattle.local_modules.proofs.LocalRings.{never_both, nilpotent_sum, nilpotent_multiple, both_iso, iso_identity}

module _ {q : Gf} {Q : Quiver} where
  pub zero_nilpotent : (X : Rep q Q) → IsNilpotent (zero_hom X X)
  zero_nilpotent X = record { exponent = 1; vanishes = power-suc (zero_hom X X) 0 ∙ ap (λ z. zero_hom X X ≫ z) (power-zero (zero_hom X X)) ∙ compose_identity (zero_hom X X) }

  -- sums of nilpotent endomorphisms of a local module
  pub nilpotent_sum_of : {X : Rep q Q} → IsLocal X → (k : ℕ) (f : ℕ → Hom X X) → ((i : ℕ) → i < k → IsNilpotent (f i)) → IsNilpotent (sum_of k f)
  nilpotent_sum_of {X} L zero f n = subst IsNilpotent (sym (sum_of-none f)) (zero_nilpotent X)
  nilpotent_sum_of L (suc k) f n = subst IsNilpotent (sym (sum_of-suc k f))
      (nilpotent_sum L (sum_of k f) (f k) (nilpotent_sum_of L k f (λ i l. n i (omega (arith, l)))) (n k (omega arith)))

  -- where a sum of endomorphisms is the identity, one of them is an isomorphism
  pub iso_among : {X : Rep q Q} → IsLocal X → (k : ℕ) (f : ℕ → Hom X X) → IsIso (sum_of k f) → (i : ℕ) × (i < k) × IsIso (f i)
  iso_among {X} L k f s = elim (search_or_all k (λ i. IsIso (f i)) (λ i. IsNilpotent (f i)) (λ i. L.decides (f i))) [
    | inl found ↦ found
    | inr none ↦ absurd (never_both L (sum_of k f) (nilpotent_sum_of L k f none) s)
  ]

-- what holds of zero, and with a row of its sum with a multiple of a unit row, holds of each row
pub by_units : {q : Gf} {m : ℕ} (P : Row q m → Type 0) → P (zeros q 1 m) → ((r : Row q m) (c i : ℕ) → i < m → P r → P (r ⊞ c ⊙ unit q m i)) → (x : Row q m) → P x
unfolding combine
by_units {q} {m} P none more x = subst P (sym (as_units x)) (go m (omega arith))
  where
    go : (s : ℕ) → s ≤ m → P (combine s (x.at 0) (unit q m))
    go zero l = none
    go (suc s) l = more (combine s (x.at 0) (unit q m)) (x.at 0 s) s (omega (arith, l)) (go s (omega (arith, l)))

pub hom-zeros : {q : Gf} {Q : Quiver} {U V : Rep q Q} (D : HomBasis U V) → D.hom (zeros q 1 D.size) ≡ zero_hom U V
hom-zeros {q} D = ap D.hom (sym (zero_scale (zeros q 1 D.size))) ∙ hom_scale D 0 (zeros q 1 D.size) ∙ zero_multiple (D.hom (zeros q 1 D.size))

module _ {q : Gf} {Q : Quiver} {X Y : Rep q Q} (L : IsLocal X) (B : HomBasis X Y) (C : HomBasis Y X) where
  more_of : {U V : Rep q Q} (D : HomBasis U V) (r : Row q D.size) (c i : ℕ) → D.hom (r ⊞ c ⊙ unit q D.size i) ≡ D.hom r ⊕ multiple c (D.hom (unit q D.size i))
  more_of D r c i = hom_sum D r (c ⊙ unit q D.size i) ∙ ap (λ z. D.hom r ⊕ z) (hom_scale D c (unit q D.size i))

  first_by_units : ((i j : ℕ) → i < B.size → j < C.size → IsNilpotent (B.hom (unit q B.size i) ≫ C.hom (unit q C.size j))) → (i : ℕ) → i < B.size → (y : Row q C.size)
      → IsNilpotent (B.hom (unit q B.size i) ≫ C.hom y)
  first_by_units n i l = by_units (λ y. IsNilpotent (B.hom (unit q B.size i) ≫ C.hom y))
      (subst IsNilpotent (sym (ap (λ z. B.hom (unit q B.size i) ≫ z) (hom-zeros C) ∙ compose_zero (B.hom (unit q B.size i)) X)) (zero_nilpotent X))
      (λ r c j b m. subst IsNilpotent
      (sym (ap (λ z. B.hom (unit q B.size i) ≫ z) (more_of C r c j) ∙ compose_sum (B.hom (unit q B.size i)) (C.hom r) (multiple c (C.hom (unit q C.size j)))
      ∙ ap (λ z. B.hom (unit q B.size i) ≫ C.hom r ⊕ z) (compose_multiple c (B.hom (unit q B.size i)) (C.hom (unit q C.size j)))))
      (nilpotent_sum L (B.hom (unit q B.size i) ≫ C.hom r) (multiple c (B.hom (unit q B.size i) ≫ C.hom (unit q C.size j))) m
      (nilpotent_multiple L c (B.hom (unit q B.size i) ≫ C.hom (unit q C.size j)) (n i j l b))))

  all_by_units : ((i j : ℕ) → i < B.size → j < C.size → IsNilpotent (B.hom (unit q B.size i) ≫ C.hom (unit q C.size j))) → (x : Row q B.size) (y : Row q C.size) → IsNilpotent (B.hom x ≫ C.hom y)
  all_by_units n x y = by_units (λ x. IsNilpotent (B.hom x ≫ C.hom y))
      (subst IsNilpotent (sym (ap (λ z. z ≫ C.hom y) (hom-zeros B) ∙ zero_compose X (C.hom y))) (zero_nilpotent X))
      (λ r c i b m. subst IsNilpotent
      (sym (ap (λ z. z ≫ C.hom y) (more_of B r c i) ∙ sum_compose (B.hom r) (multiple c (B.hom (unit q B.size i))) (C.hom y)
      ∙ ap (λ z. B.hom r ≫ C.hom y ⊕ z) (multiple_compose c (B.hom (unit q B.size i)) (C.hom y))))
      (nilpotent_sum L (B.hom r ≫ C.hom y) (multiple c (B.hom (unit q B.size i) ≫ C.hom y)) m
      (nilpotent_multiple L c (B.hom (unit q B.size i) ≫ C.hom y) (first_by_units n i b y)))) x

  apart_by_units : ((i j : ℕ) → i < B.size → j < C.size → IsNilpotent (B.hom (unit q B.size i) ≫ C.hom (unit q C.size j))) → (f : Hom X Y) (g : Hom Y X) → IsNilpotent (f ≫ g)
  apart_by_units n f g = subst IsNilpotent (ap₂ (λ a b. a ≫ b) (hom-coordinates B f) (hom-coordinates C g)) (all_by_units n (coordinates B f) (coordinates C g))

  -- X and Y, of which Y is local too, are isomorphic, or f and then g is nilpotent for all f and g
  pub isomorphic_or_nilpotent : IsLocal Y → Isomorphic X Y ⊎ ((f : Hom X Y) (g : Hom Y X) → IsNilpotent (f ≫ g))
  isomorphic_or_nilpotent K = elim (search_or_all B.size
      (λ i. (j : ℕ) × (j < C.size) × IsIso (B.hom (unit q B.size i) ≫ C.hom (unit q C.size j)))
      (λ i. (j : ℕ) → j < C.size → IsNilpotent (B.hom (unit q B.size i) ≫ C.hom (unit q C.size j)))
      (λ i. search_or_all C.size (λ j. IsIso (B.hom (unit q B.size i) ≫ C.hom (unit q C.size j))) (λ j. IsNilpotent (B.hom (unit q B.size i) ≫ C.hom (unit q C.size j)))
      (λ j. L.decides (B.hom (unit q B.size i) ≫ C.hom (unit q C.size j))))) [
        | inl s ↦ inl (record { forth = B.hom (unit q B.size s.0); iso = (both_iso L K (B.hom (unit q B.size s.0)) (C.hom (unit q C.size s.2.0)) s.2.2).0 })
        | inr n ↦ inr (apart_by_units (λ i j l b. n i l j b))
      ]

-- Local modules are isomorphic or apart.
pub isomorphic_or_apart : {q : Gf} {Q : Quiver} {X Y : Rep q Q} → IsLocal X → IsLocal Y → Isomorphic X Y ⊎ AreApart X Y
isomorphic_or_apart {X = X} {Y = Y} L K = elim (isomorphic_or_nilpotent L (hom_basis X Y) (hom_basis Y X) K) [
  | inl s ↦ inl s
  | inr n ↦ inr (λ f g i. never_both L (f ≫ g) (n f g) i)
]

pub isomorphic_not_apart : {q : Gf} {Q : Quiver} {X Y : Rep q Q} → Isomorphic X Y → AreApart X Y → ⊥
isomorphic_not_apart {X = X} s a = a s.forth s.iso.inverse (subst IsIso (sym s.iso.right) (iso_identity X))
