-- Sums of local modules that are pairwise apart: an endomorphism all of whose diagonal components are isomorphisms is one.
use Rattle.std.proofs.Common.{ℕ, zero, suc, ◌≡◌, ◌≢◌, inl, inr, ◌<◌, sym, ap, ap₂, ◌∙◌, subst, arith}
use Rattle.std.proofs.lemmas.Bool.{cases_eq}
use Rattle.linear_algebra.specs.Field.{Gf}
use Rattle.linear_algebra.proofs.Blocks.{no_rows}
use Rattle.representations.specs.Quiver.{Quiver}
use Rattle.representations.specs.Rep.{Rep}
use Rattle.representations.specs.Hom.{Hom, Hom-eq, ◌≫◌, ◌⊕◌, identity, zero_hom, negative_hom}
use Rattle.representations.specs.Module.{IsIso, IsNilpotent}
use Rattle.representations.specs.Sum.{sum_family, zero_rep}
use Rattle.representations.proofs.Homs.{compose_assoc, compose_identity, compose_zero, compose_sum, sum_compose, compose_negative, negative_compose}
use Rattle.representations.proofs.Biproducts.{sum_of-single}
use Rattle.representations.proofs.SumFamilies.{from_family, into_family, family_through}
use Rattle.projectives.specs.Families.{choose, family_in}
use Rattle.projectives.specs.Components.{family_out}
use Rattle.projectives.proofs.Families.{choose-same, choose-other, in-from_family}
use Rattle.local_modules.specs.RadicalOfSum.{AreLocalAndApart}
use Rattle.local_modules.proofs.LocalRings.{iso_identity, iso_minus_nilpotent}
use Rattle.local_modules.proofs.Elimination.{rest_of, iso_by_elimination}
use Rattle.local_modules.proofs.KrullSchmidt.{skip, skip_other, skip_limit, skip_once, without}

module _ {q : Gf} {Q : Quiver} where
  -- what goes into a sum of a family, seen at one member
  pub into-out : {Z : Rep q Q} (n : ℕ) (X : ℕ → Rep q Q) (g : (i : ℕ) → Hom Z (X i)) (k : ℕ) → k < n → into_family n X g ≫ family_out n X k ≡ g k
  unfolding family_out
  into-out {Z} n X g k l =
      family_through n X g (λ j. choose X j k (cases_eq j k) (identity (X k)) (zero_hom (X j) (X k)))
      ∙ sum_of-single n k (λ j. g j ≫ choose X j k (cases_eq j k) (identity (X k)) (zero_hom (X j) (X k))) l
      (λ j b d. ap (λ z. g j ≫ z) (choose-other X j k (cases_eq j k) (identity (X k)) (zero_hom (X j) (X k)) d) ∙ compose_zero (g j) (X k))
      ∙ ap (λ z. g k ≫ z) (choose-same X k (cases_eq k k) (identity (X k)) (zero_hom (X k) (X k))) ∙ compose_identity (g k)

  -- from one of them to another and back is nilpotent
  pub apart_nilpotent : (n : ℕ) (Y : ℕ → Rep q Q) → AreLocalAndApart n Y → (k l : ℕ) → k < n → l < n → k ≢ l → (f : Hom (Y k) (Y l)) (g : Hom (Y l) (Y k)) → IsNilpotent (f ≫ g)
  apart_nilpotent n Y C k l a b d f g = elim ((C.local k a).decides (f ≫ g)) [ inl i ↦ absurd (C.apart k l a b d f g i) | inr z ↦ z ]

  -- the diagonal components of what is left when the last member is eliminated
  diagonal_rest : (n : ℕ) (Y : ℕ → Rep q Q) → AreLocalAndApart (suc n) Y → (x : Hom (sum_family (suc n) Y) (sum_family (suc n) Y))
      → ((k : ℕ) → k < suc n → IsIso (family_in (suc n) Y k ≫ x ≫ family_out (suc n) Y k)) → (b : n < suc n)
      → (i : IsIso ((without n Y n b).in_second ≫ x ≫ (without n Y n b).out_second)) → (k : ℕ) → k < n
      → IsIso (family_in n (λ j. Y (skip n j)) k ≫ rest_of (without n Y n b) x i ≫ family_out n (λ j. Y (skip n j)) k)
  unfolding without rest_of
  diagonal_rest n Y C x d b i k l = subst IsIso (sym component) (iso_minus_nilpotent (C.local (skip n k) (skip_limit n n k b l))
      (family_in (suc n) Y (skip n k) ≫ x ≫ family_out (suc n) Y (skip n k))
      (there ≫ (i.inverse ≫ back)) (d (skip n k) (skip_limit n n k b l))
      (apart_nilpotent (suc n) Y C (skip n k) n (skip_limit n n k b l) b (skip_other n k) there (i.inverse ≫ back)))
    where
      others : ℕ → Rep q Q
      others j = Y (skip n j)

      in_others : Hom (sum_family n others) (sum_family (suc n) Y)
      in_others = from_family n others (λ j. family_in (suc n) Y (skip n j))

      out_others : Hom (sum_family (suc n) Y) (sum_family n others)
      out_others = into_family n others (λ j. family_out (suc n) Y (skip n j))

      there : Hom (Y (skip n k)) (Y n)
      there = family_in (suc n) Y (skip n k) ≫ x ≫ family_out (suc n) Y n

      back : Hom (Y n) (Y (skip n k))
      back = family_in (suc n) Y n ≫ x ≫ family_out (suc n) Y (skip n k)

      in_k : family_in n others k ≫ in_others ≡ family_in (suc n) Y (skip n k)
      in_k = in-from_family n others (λ j. family_in (suc n) Y (skip n j)) k l

      out_k : out_others ≫ family_out n others k ≡ family_out (suc n) Y (skip n k)
      out_k = into-out n others (λ j. family_out (suc n) Y (skip n j)) k l

      direct : family_in n others k ≫ (in_others ≫ x ≫ out_others) ≫ family_out n others k ≡ family_in (suc n) Y (skip n k) ≫ x ≫ family_out (suc n) Y (skip n k)
      direct =
          ap (λ z. z ≫ family_out n others k) (sym (compose_assoc (family_in n others k) (in_others ≫ x) out_others) ∙ ap (λ z. z ≫ out_others) (sym (compose_assoc (family_in n others k) in_others x) ∙ ap (λ z. z ≫ x) in_k))
          ∙ compose_assoc (family_in (suc n) Y (skip n k) ≫ x) out_others (family_out n others k) ∙ ap (λ z. family_in (suc n) Y (skip n k) ≫ x ≫ z) out_k

      through : family_in n others k ≫ (in_others ≫ x ≫ family_out (suc n) Y n ≫ (i.inverse ≫ (family_in (suc n) Y n ≫ x ≫ out_others))) ≫ family_out n others k ≡ there ≫ (i.inverse ≫ back)
      through =
          ap (λ z. z ≫ family_out n others k)
          (sym (compose_assoc (family_in n others k) (in_others ≫ x ≫ family_out (suc n) Y n) (i.inverse ≫ (family_in (suc n) Y n ≫ x ≫ out_others)))
          ∙ ap (λ z. z ≫ (i.inverse ≫ (family_in (suc n) Y n ≫ x ≫ out_others)))
          (sym (compose_assoc (family_in n others k) (in_others ≫ x) (family_out (suc n) Y n)) ∙ ap (λ z. z ≫ family_out (suc n) Y n) (sym (compose_assoc (family_in n others k) in_others x) ∙ ap (λ z. z ≫ x) in_k)))
          ∙ compose_assoc there (i.inverse ≫ (family_in (suc n) Y n ≫ x ≫ out_others)) (family_out n others k)
          ∙ ap (λ z. there ≫ z) (compose_assoc i.inverse (family_in (suc n) Y n ≫ x ≫ out_others) (family_out n others k)
          ∙ ap (λ z. i.inverse ≫ z) (compose_assoc (family_in (suc n) Y n ≫ x) out_others (family_out n others k) ∙ ap (λ z. family_in (suc n) Y n ≫ x ≫ z) out_k))

      component : family_in n others k ≫ (in_others ≫ x ≫ out_others ⊕ negative_hom (in_others ≫ x ≫ family_out (suc n) Y n ≫ (i.inverse ≫ (family_in (suc n) Y n ≫ x ≫ out_others)))) ≫ family_out n others k
          ≡ family_in (suc n) Y (skip n k) ≫ x ≫ family_out (suc n) Y (skip n k) ⊕ negative_hom (there ≫ (i.inverse ≫ back))
      component =
          ap (λ z. z ≫ family_out n others k) (compose_sum (family_in n others k) (in_others ≫ x ≫ out_others) (negative_hom (in_others ≫ x ≫ family_out (suc n) Y n ≫ (i.inverse ≫ (family_in (suc n) Y n ≫ x ≫ out_others)))))
          ∙ sum_compose (family_in n others k ≫ (in_others ≫ x ≫ out_others)) (family_in n others k ≫ negative_hom (in_others ≫ x ≫ family_out (suc n) Y n ≫ (i.inverse ≫ (family_in (suc n) Y n ≫ x ≫ out_others)))) (family_out n others k)
          ∙ ap₂ (λ y z. y ⊕ z) direct
          (ap (λ z. z ≫ family_out n others k) (compose_negative (family_in n others k) (in_others ≫ x ≫ family_out (suc n) Y n ≫ (i.inverse ≫ (family_in (suc n) Y n ≫ x ≫ out_others))))
          ∙ negative_compose (family_in n others k ≫ (in_others ≫ x ≫ family_out (suc n) Y n ≫ (i.inverse ≫ (family_in (suc n) Y n ≫ x ≫ out_others)))) (family_out n others k)
          ∙ ap negative_hom through)

  pub diagonal_iso : (n : ℕ) (Y : ℕ → Rep q Q) → AreLocalAndApart n Y → (x : Hom (sum_family n Y) (sum_family n Y))
      → ((k : ℕ) → k < n → IsIso (family_in n Y k ≫ x ≫ family_out n Y k)) → IsIso x
  unfolding sum_family without
  diagonal_iso zero Y C x d = subst IsIso (Hom-eq (identity (zero_rep q Q)) x (λ v. no_rows ((identity (zero_rep q Q)).at v) (x.at v))) (iso_identity (zero_rep q Q))
  diagonal_iso (suc n) Y C x d =
      let b : n < suc n = omega arith in
      iso_by_elimination (without n Y n b) x (d n b) (diagonal_iso n (λ j. Y (skip n j))
      (record {
        local = λ k l. C.local (skip n k) (skip_limit n n k b l);
        apart = λ k l c e m. C.apart (skip n k) (skip n l) (skip_limit n n k b c) (skip_limit n n l b e) (λ i. m (skip_once n k l i));
      })
      (rest_of (without n Y n b) x (d n b))
      (diagonal_rest n Y C x d b (d n b)))
