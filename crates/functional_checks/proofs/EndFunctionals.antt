-- Whether a functional is one on the endomorphisms, by the column of its values on the basis.
use Rattle.std.specs.Prelude.{Bool, true, false, MatchBool}
use Rattle.std.proofs.Common.{ℕ, ◌<◌, ◌≡◌, List, length, get_or, sym, ap, ◌∙◌, arith, subst}
use Rattle.linear_algebra.specs.Matrix.{Mat, ◌·◌}
use Rattle.linear_algebra.specs.Parts.{row, scalar}
use Rattle.linear_algebra.proofs.PartsLaws.{rows_equal}
use Rattle.fp_linear.specs.Matrix.{PlainMatrix}
use Rattle.path_algebra.specs.declared.Header.{Header}
use Rattle.module_types.specs.declared.Module.{Module}
use Rattle.module_types.specs.declared.TermRows.{TermRows}
use Rattle.module_types.specs.Algebras.{sided_words}
use Rattle.module_types.specs.Readings.{read}
use Rattle.module_types.specs.Presentations.{Presentation}
use Rattle.claim_conditions.specs.Modules.{Sides}
use Rattle.claim_conditions.specs.LocalConditions.{ring_rows, ideal_rows}
use Rattle.claim_conditions.specs.SequenceConditions.{value_at, IsEndFunctional}
use Rattle.local_checks.specs.Standing.{standing}
use Rattle.functional_checks.specs.Values.{HoldsValues, VanishUpTo, HasNonzero}
use Rattle.functional_checks.proofs.ColumnValues.{weights, value_of_member, value_of_ideal}
use Rattle.functional_checks.proofs.Columns.{values_elements, row_of_column, scalar_none, scalar_zero}

module _ (h : Header) (m : Module) (t : TermRows) (functional : List ℕ) (basis ideal : PlainMatrix) (values : List ℕ) (size : length values ≡ basis.row_count) (holds : HoldsValues h m t functional basis basis.row_count values)
    (T : Sides h) (p : Presentation) (is : p.cover ≡ t) where
  abbrev pub IsFunctional : Type 0
  IsFunctional = IsEndFunctional (sided_words m.side T) p (read h m) functional (ring_rows h m basis) (ideal_rows h basis ideal)

  moved : HoldsValues h m p.cover functional basis basis.row_count values
  moved = subst (λ (c : TermRows). HoldsValues h m c functional basis basis.row_count values) (sym is) holds

  member_is : (i : ℕ) → i < basis.row_count → scalar h.field (get_or values i 0) ≡ value_at (sided_words m.side T) p (read h m) functional i (ring_rows h m basis)
  member_is i l = moved.values T i l

  column : standing h.field basis.row_count 1 values ≡ ring_rows h m basis · weights (sided_words m.side T) p (read h m) functional
  column = rows_equal _ _ (λ i l. row_of_column h.field basis.row_count values i (values_elements h m t functional basis values size holds) l ∙ member_is i l
      ∙ sym (value_of_member (sided_words m.side T) p (read h m) functional (ring_rows h m basis) (ideal_rows h basis ideal) i))

  killed : (i : ℕ) → row i (ideal_rows h basis ideal) · standing h.field basis.row_count 1 values ≡ value_at (sided_words m.side T) p (read h m) functional i (ideal_rows h basis ideal · ring_rows h m basis)
  killed i = ap (λ (z : Mat h.field basis.row_count 1). row i (ideal_rows h basis ideal) · z) column ∙ value_of_ideal (sided_words m.side T) p (read h m) functional (ring_rows h m basis) (ideal_rows h basis ideal) i

  pub vanishes : IsFunctional → VanishUpTo h.field (length values) ideal values ideal.row_count
  vanishes f = subst (λ (n : ℕ). VanishUpTo h.field n ideal values ideal.row_count) (sym size) (record { zero = λ i l. killed i ∙ f.kills i l })

  pub nonzero_value : IsFunctional → HasNonzero values
  nonzero_value f = record {
    member = f.member;
    below = let b = f.below in omega (arith, b, size);
    nonzero = λ e. f.sees (sym (member_is f.member f.below) ∙ ap (scalar h.field) e ∙ scalar_none h.field);
  }

  pub functional_of_values : VanishUpTo h.field (length values) ideal values ideal.row_count → HasNonzero values → IsFunctional
  functional_of_values v s =
      let below : s.member < basis.row_count = (let b = s.below in omega (arith, b, size)) in
      let k = subst (λ (n : ℕ). VanishUpTo h.field n ideal values ideal.row_count) size v in
      record {
        kills = λ i l. sym (killed i) ∙ k.zero i l;
        member = s.member;
        below = below;
        sees = λ e. s.nonzero (scalar_zero h.field (get_or values s.member 0) (holds.small s.member below) (member_is s.member below ∙ e));
      }

  pub functional_decided : (b : Bool) → VanishUpTo h.field (length values) ideal values ideal.row_count → MatchBool b (HasNonzero values) (¬ HasNonzero values) → MatchBool b IsFunctional (¬ IsFunctional)
  functional_decided true v s = functional_of_values v s
  functional_decided false v s = λ f. s (nonzero_value f)
