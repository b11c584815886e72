-- The verdict on all claims, from those on each in turn.
use Rattle.std.proofs.Common.{ℕ, zero, suc, ◌≡◌, ◌+◌, ◌<◌, ◌≤◌, List, [], ◌∷◌, length, None, inl, inr, refl, sym, subst, arith}
use Rattle.std.specs.Prelude.{take, slice_get}
use Rattle.std.proofs.lemmas.Bool.{cases_lt}
use Rattle.claim_conditions.specs.declared.Clause.{Clause}
use Rattle.claim_conditions.specs.Conditions.{AllHold}
use Rattle.report_types.specs.declared.reports.Report.{Report}
use Rattle.report_types.specs.declared.verdicts.Verdict.TheVariants as verdict
use Rattle.report_types.specs.Conditions.{conditions}
use Rattle.report_types.specs.Verdicts.{sides_by, ConditionsHold, FailsFirst, IsFirstFailure, IsVerdict}

past : {X : Type 0} (xs : List X) (i : ℕ) → length xs ≤ i → slice_get xs i ≡ None
past [] i l = refl
past (x ∷ xs) zero l = absurd (omega (arith, l))
past (x ∷ xs) (suc i) l = past xs i (omega (arith, l))

-- the conditions hold of all claims up to k
abbrev pub HoldTo : Report → ℕ → Type 0
HoldTo report k = (j : ℕ) → j ≤ k → ConditionsHold report j

module _ (report : Report) where
  pub first_holds : ConditionsHold report 1 → HoldTo report 1
  first_holds a zero l = λ n. tt
  first_holds a (suc zero) l = a
  first_holds a (suc (suc j)) l = absurd (omega (arith, l))

  pub one_more : (k : ℕ) → HoldTo report k → ConditionsHold report (k + 1) → HoldTo report (k + 1)
  one_more k a b j l = elim (cases_lt k j) [
    | inl more ↦ let e : k + 1 ≡ j = omega (arith, l, more) in subst (ConditionsHold report) e b
    | inr less ↦ a j less
  ]

  none_there : (k : ℕ) → length report.records < k → ConditionsHold report k
  none_there zero l = absurd (omega (arith, l))
  none_there (suc i) l = λ n.
      subst (λ o. AllHold (conditions report.header (sides_by n) (take (suc i) report.records) o)) (sym (past report.records i (omega (arith, l)))) tt

  pub all_hold : (k : ℕ) → length report.records ≤ k → HoldTo report k → IsVerdict report verdict.Holds
  all_hold k l a j = elim (cases_lt k j) [ inl more ↦ none_there j (omega (arith, l, more)) | inr less ↦ a j less ]

  pub one_fails : (k : ℕ) (which : Clause) → HoldTo report k → FailsFirst report (k + 1) which → IsFirstFailure report (k + 1) which
  one_fails k which a f = record { before = λ j l. a j (omega (arith, l)); fails = f }
