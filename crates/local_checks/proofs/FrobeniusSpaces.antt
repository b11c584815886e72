-- The form of a residue ring, decided by the ranks of what is left of rows.
use Rattle.std.proofs.Common.{ℕ, ◌≡◌, ◌+◌, List, length, sym, ap, ◌∙◌, subst}
use Rattle.std.specs.Prelude.{Bool, true, false, MatchBool}
use Rattle.linear_algebra.specs.Field.{order, neg}
use Rattle.linear_algebra.specs.Matrix.{Mat, ◌⊞◌, ◌⊟◌, ◌⊙◌}
use Rattle.linear_algebra.specs.Parts.{row}
use Rattle.linear_algebra.specs.Rank.{IsInSpan}
use Rattle.path_algebra.specs.declared.Header.{Header}
use Rattle.local_modules.specs.Algebra.{Algebra, Element, power_in}
use Rattle.local_modules.specs.Residue.{IsRemainder}
use Rattle.local_modules.specs.Subalgebra.{IsSubalgebra, IsIdealOf, CommutesModulo, IsFrobeniusOf}
use Rattle.module_types.specs.declared.Module.{Module}
use Rattle.claim_conditions.specs.LocalConditions.{families_of}
use Rattle.local_checks.specs.Families.{IsFamilySpace, family_space}
use Rattle.local_checks.specs.Remainders.{HasRemaindersOfRank, IsFrobeniusSpace}
use Rattle.local_checks.proofs.Spaces.{place, space_reduced, space_independent}
use Rattle.local_checks.proofs.ResidueForms.{remainder_by_rows, powers, are_powers, no_factor, less_factor, less_row, frobenius_of_ranks, ranks_of_frobenius}

module _ (h : Header) (m : Module) (ring ring_pivots rows pivots : List ℕ) (S : IsFamilySpace h m ring ring_pivots) (T : IsFamilySpace h m rows pivots) where
  abbrev E : Algebra h.field
  E = families_of h m

  abbrev f : Mat h.field (length ring_pivots) E.size
  f = family_space h m ring ring_pivots

  abbrev J : Mat h.field (length pivots) E.size
  J = family_space h m rows pivots

  abbrev pivot_of : ℕ → ℕ
  pivot_of = place h.field E.size rows pivots T

  first_left : (a : ℕ) (x : HasRemaindersOfRank h m rows pivots f 0 a) → IsRemainder J pivot_of (powers E f) x.rest
  first_left a x = remainder_by_rows J pivot_of (powers E f) x.rest
      (λ i l. subst (λ (z : Element E). IsInSpan J (z ⊟ row i x.rest)) (no_factor E f (power_in E (row i f) (order h.field)) (row i f) ∙ sym (are_powers E f i l)) (x.are i l).differs)
      (λ i t l k. (x.are i l).clear t k)

  second_left : (b factor : ℕ) → factor ≡ neg h.field 1 → (y : HasRemaindersOfRank h m rows pivots f factor b) → IsRemainder J pivot_of (powers E f ⊟ f) y.rest
  second_left b factor e y = remainder_by_rows J pivot_of (powers E f ⊟ f) y.rest
      (λ i l. subst (λ (z : Element E). IsInSpan J (z ⊟ row i y.rest)) (ap (λ (n : ℕ). power_in E (row i f) (order h.field) ⊞ n ⊙ row i f) e ∙ less_factor E f (power_in E (row i f) (order h.field)) (row i f) ∙ sym (less_row E f i l))
      (y.are i l).differs)
      (λ i t l k. (y.are i l).clear t k)

  module _ (inside : IsInSpan f J) (ideal : IsIdealOf E f J) (closed : IsSubalgebra E f) (commutes : CommutesModulo E f J) (a b factor : ℕ) (e : factor ≡ neg h.field 1)
      (x : HasRemaindersOfRank h m rows pivots f 0 a) (y : HasRemaindersOfRank h m rows pivots f factor b) where
    ranks : IsFrobeniusOf E f J → (length pivots + a ≡ length ring_pivots) × (length pivots + (1 + b) ≡ length ring_pivots)
    ranks g = ranks_of_frobenius E f (space_independent h.field E.size ring ring_pivots S) closed J pivot_of (space_reduced h.field E.size rows pivots T) inside ideal commutes x.rest y.rest
        (first_left a x) (second_left b factor e y) a b x.rank_is y.rank_is g

    pub not_first : (length pivots + a ≡ length ring_pivots → ⊥) → IsFrobeniusSpace E f J → ⊥
    not_first n g = n (ranks g.frobenius).0

    pub frobenius_decided : (t : Bool) → length pivots + a ≡ length ring_pivots → MatchBool t (length pivots + (1 + b) ≡ length ring_pivots) (length pivots + (1 + b) ≡ length ring_pivots → ⊥)
        → MatchBool t (IsFrobeniusSpace E f J) (¬ IsFrobeniusSpace E f J)
    frobenius_decided true u v = record {
      subalgebra = closed;
      frobenius = frobenius_of_ranks E f (space_independent h.field E.size ring ring_pivots S) closed J pivot_of (space_reduced h.field E.size rows pivots T) inside ideal commutes x.rest y.rest
          (first_left a x) (second_left b factor e y) a b x.rank_is y.rank_is u v;
    }
    frobenius_decided false u v = λ g. v (ranks g.frobenius).1
