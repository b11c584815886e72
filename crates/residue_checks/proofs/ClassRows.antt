-- What is left of the rows of a ring modulo an ideal has all its classes.
use Rattle.std.proofs.Common.{ℕ, ◌≡◌, ◌*◌, List, length, take, sym, ap, ap₂, ◌∙◌, arith, subst}
use Rattle.linear_algebra.specs.Field.{Gf}
use Rattle.linear_algebra.specs.Matrix.{Mat, negative, ◌⊞◌, ◌⊟◌, ◌·◌}
use Rattle.linear_algebra.specs.Rank.{IsInSpan}
use Rattle.linear_algebra.proofs.MatrixLaws.{difference, negative_sum, negative_mul, mul_add_mat, mul_assoc_mat, add_assoc_mat, add_negative, zeros_add}
use Rattle.linear_algebra.proofs.Solving.{in_span_self, in_span_mul, in_span_sum, in_span_trans}
use Rattle.path_algebra.specs.declared.Header.{Header}
use Rattle.local_modules.specs.Residue.{IsRemainder}
use Rattle.module_types.specs.declared.Module.{Module}
use Rattle.claim_conditions.specs.LocalConditions.{families_of}
use Rattle.local_checks.specs.Standing.{standing}
use Rattle.local_checks.specs.Rows.{IsSpaceOf}
use Rattle.local_checks.specs.Families.{family_rows, family_space}
use Rattle.local_checks.specs.Remainders.{AreRemaindersUpTo}
use Rattle.local_checks.proofs.ResidueForms.{remainder_by_rows}
use Rattle.local_checks.proofs.Spaces.{place}
use Rattle.residue_checks.specs.RingsModulo.{AreRingAndIdeal, members}
use Rattle.residue_checks.specs.Representatives.{HasClass, AreRepresentatives}

module _ {q : Gf} {n k b N : ℕ} (f : Mat q n N) (J : Mat q k N) (pivot : ℕ → ℕ) (rest : Mat q n N) (some : Mat q b N) (inside : IsInSpan f J) (left : IsRemainder J pivot f rest) (forth : IsInSpan some rest) (back : IsInSpan rest some) where
  less_sum : (x w : Mat q 1 N) → x ⊟ (x ⊞ w) ≡ negative w
  less_sum x w = difference x (x ⊞ w) ∙ ap (λ z. x ⊞ z) (negative_sum x w) ∙ sym (add_assoc_mat x (negative x) (negative w)) ∙ ap (λ z. z ⊞ negative w) (add_negative x) ∙ zeros_add (negative w)

  member_of_ring : IsInSpan f rest
  member_of_ring = subst (IsInSpan f) (sym left.is) (in_span_sum f f (left.by · J) (in_span_self f) (in_span_trans f J (left.by · J) inside (in_span_mul J left.by)))

  class_of_member : (x : Mat q 1 N) → IsInSpan f x → HasClass J some x
  class_of_member x s =
      let t = in_span_trans some rest (s.by · rest) forth (in_span_mul rest s.by) in
      let w = (s.by · left.by) · J in
      let e : s.by · rest ≡ x ⊞ w = ap (λ z. s.by · z) left.is ∙ mul_add_mat s.by f (left.by · J) ∙ ap₂ (λ u v. u ⊞ v) s.is (sym (mul_assoc_mat s.by left.by J)) in
      record {
        coordinates = t.by;
        is = subst (IsInSpan J) (sym (ap (λ z. x ⊟ z) (t.is ∙ e) ∙ less_sum x w)) (subst (IsInSpan J) (negative_mul (s.by · left.by) J) (in_span_mul J (negative (s.by · left.by))));
      }

  pub representatives : AreRepresentatives f J some
  representatives = record { inside = in_span_trans f rest some member_of_ring back; each = class_of_member }

-- rows that elimination leaves of them
pub represented : (h : Header) (m : Module) (ring ring_pivots rows pivots : List ℕ) (S : AreRingAndIdeal h m ring ring_pivots rows pivots) (rest some ps : List ℕ) (i n r c : ℕ)
    → n ≡ length ring_pivots → i ≡ n → c ≡ (families_of h m).size
    → AreRemaindersUpTo h m rows pivots (members (family_space h m ring ring_pivots)) (family_rows h m (length ring_pivots) rest) i → IsSpaceOf (standing h.field n c rest) some ps r
    → AreRepresentatives (family_space h m ring ring_pivots) (family_space h m rows pivots) (family_rows h m r (take (r * (families_of h m).size) some))
represented h m ring ring_pivots rows pivots S rest some ps i n r c e d g u s =
    let F = family_space h m ring ring_pivots in
    let J = family_space h m rows pivots in
    let N : ℕ = (families_of h m).size in
    let left = remainder_by_rows J (place h.field N rows pivots S.second) F (family_rows h m (length ring_pivots) rest)
    (λ j l. (u j (omega (arith, l, d, e))).differs) (λ j t l k. (u j (omega (arith, l, d, e))).clear t k) in
    let t = subst (λ (k : ℕ). IsSpaceOf (standing h.field (length ring_pivots) k rest) some ps r) g (subst (λ (k : ℕ). IsSpaceOf (standing h.field k c rest) some ps r) e s) in
    representatives F J (place h.field N rows pivots S.second) (family_rows h m (length ring_pivots) rest) (family_rows h m r (take (r * N) some)) S.inside left
    (subst (λ (k : ℕ). IsInSpan (family_rows h m k (take (r * N) some)) (family_rows h m (length ring_pivots) rest)) t.count t.forth)
    (subst (λ (k : ℕ). IsInSpan (family_rows h m (length ring_pivots) rest) (family_rows h m k (take (r * N) some))) t.count t.back)
