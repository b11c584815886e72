-- The verdict on a run of claims from those on each, and that on all claims from those on the runs.
use Rattle.std.proofs.Common.{ℕ, zero, suc, ◌≡◌, ◌+◌, ◌<◌, ◌≤◌, List, [], ◌∷◌, ◌++◌, length, get_or, drop, inl, inr, refl, sym, ap, ◌∙◌, subst, arith}
use Rattle.std.proofs.lemmas.Bool.{cases_lt}
use Rattle.std.specs.Prelude.{All}
use Rattle.std.specs.List.{AllZip}
use Rattle.std.proofs.lemmas.List.Elements.{All-nil, All-cons}
use Rattle.fp_linear.specs.declared.scratch.Scratch.{Scratch}
use Rattle.claim_conditions.specs.declared.Clause.{Clause}
use Rattle.report_types.specs.declared.reports.Report.{Report}
use Rattle.report_types.specs.declared.verdicts.Verdict.{Verdict}
use Rattle.report_types.specs.declared.verdicts.Verdict.TheVariants as verdict
use Rattle.report_types.specs.Verdicts.{ConditionsHold, FailsFirst, IsVerdict}
use Rattle.claim_check.specs.declared.runs.Run.{Run}
use Rattle.claim_check.specs.Room.{HasRoom}
use Rattle.claim_check.specs.Runs.{AreClaims, IsRun, AreRuns, IsFirstBehind, IsRunVerdict, first_failure}
use Rattle.claim_check.proofs.Later.{first_holds, all_hold}

module _ (report : Report) where
  -- ---- the runs

  pub run_added : (i k : ℕ) (runs : List Run) (run : Run) → AreRuns report i k runs → run.behind ≡ k → IsRun report run → AreRuns report i run.last (runs ++ run ∷ [])
  run_added i k [] run a e is = (e ∙ sym a, is, refl)
  run_added i k (x ∷ xs) run a e is = (a.0, a.1, run_added x.last k xs run a.2 e is)

  pub run_pushed : (i k last : ℕ) (runs new : List Run) (scratch : Scratch) → AreRuns report i k runs → AreClaims report k last → HasRoom report.records scratch.bytes.items scratch.numbers.items
      → new ≡ runs ++ record { behind = k; last = last; scratch = scratch } ∷ [] → AreRuns report i last new
  run_pushed i k last runs new scratch a c r e =
      subst (AreRuns report i last) (sym e) (run_added i k runs record { behind = k; last = last; scratch = scratch } a refl record { claims = c; room = r })

  pub all_runs : (i k : ℕ) (runs : List Run) → AreRuns report i k runs → All (IsRun report) runs
  all_runs i k [] a = All-nil (IsRun report)
  all_runs i k (run ∷ runs) a = All-cons (IsRun report) run runs a.1 (all_runs run.last k runs a.2)

  -- ---- the claims of a run

  -- the conditions hold of the claims behind i up to k
  abbrev pub HoldBehind : ℕ → ℕ → Type 0
  HoldBehind i k = IsRunVerdict report i k verdict.Holds

  pub none_yet : (i : ℕ) → HoldBehind i i
  none_yet i = λ j l m. absurd (omega (arith, l, m))

  pub one_behind : (i k : ℕ) → HoldBehind i k → ConditionsHold report (k + 1) → HoldBehind i (k + 1)
  one_behind i k a b = λ j l m. elim (cases_lt k j) [
    | inl more ↦ let e : k + 1 ≡ j = omega (arith, m, more) in subst (ConditionsHold report) e b
    | inr less ↦ a j l less
  ]

  pub fails_behind : (i k : ℕ) (which : Clause) → i ≤ k → HoldBehind i k → FailsFirst report (k + 1) which → IsFirstBehind report i (k + 1) which
  fails_behind i k which l a f = record { behind = omega (arith, l); before = λ j m n. a j m (omega (arith, n)); fails = f }

  -- ---- all runs

  -- the claims behind i up to m, and those behind m
  both : (i m k : ℕ) (v : Verdict) → i ≤ m → HoldBehind i m → IsRunVerdict report m k v → IsRunVerdict report i k v
  both i m k verdict.Holds l a b = λ j n o. elim (cases_lt m j) [ inl more ↦ b j more o | inr less ↦ a j n less ]
  both i m k (verdict.Fails claim which) l a b = record {
    behind = let c = b.behind in omega (arith, l, c);
    before = λ j n o. elim (cases_lt m j) [ inl more ↦ b.before j more o | inr less ↦ a j n less ];
    fails = b.fails;
  }

  abbrev pub IsVerdictOn : Run → Verdict → Type 0
  IsVerdictOn run v = IsRunVerdict report run.behind run.last v

  pub first_of_runs : (i k : ℕ) (runs : List Run) (vs : List Verdict) → AreRuns report i k runs → AllZip IsVerdictOn runs vs → IsRunVerdict report i k (first_failure vs)
  first_of_runs i k [] [] a z = λ j l m. absurd (omega (arith, a, l, m))
  first_of_runs i k [] (v ∷ vs) a z = absurd z
  first_of_runs i k (run ∷ runs) [] a z = absurd z
  first_of_runs i k (run ∷ runs) (verdict.Holds ∷ vs) a z =
      both i run.last k (first_failure vs) (subst (λ x. x ≤ run.last) a.0 (a.1).claims.ordered) (subst (λ x. HoldBehind x run.last) a.0 z.0) (first_of_runs run.last k runs vs a.2 z.1)
  first_of_runs i k (run ∷ runs) (verdict.Fails claim which ∷ vs) a z = subst (λ x. IsFirstBehind report x claim which) a.0 z.0

  -- the claims behind the first, and the first
  pub from_first : (k : ℕ) (v : Verdict) → length report.records ≡ k → ConditionsHold report 1 → IsRunVerdict report 1 k v → IsVerdict report v
  from_first k verdict.Holds e a b = all_hold report k (omega (arith, e)) (λ j l. elim (cases_lt 1 j) [ inl more ↦ b j more l | inr less ↦ first_holds report a j less ])
  from_first k (verdict.Fails claim which) e a b = record {
    before = λ j l. elim (cases_lt 1 j) [ inl more ↦ b.before j more l | inr less ↦ first_holds report a j less ];
    fails = b.fails;
  }

  pub verdict_of_runs : (runs : List Run) (vs lent : List Verdict) (v : Verdict) → AreRuns report 1 (length report.records) runs → AllZip IsVerdictOn runs vs → lent ≡ vs → v ≡ first_failure lent
      → ConditionsHold report 1 → IsVerdict report v
  verdict_of_runs runs vs lent v a z e f h =
      subst (IsVerdict report) (sym (f ∙ ap first_failure e)) (from_first (length report.records) (first_failure vs) refl h (first_of_runs 1 (length report.records) runs vs a z))

-- ---- the first failure among verdicts

-- what the verdict at place i does to that on those from there on
pub passed : (vs : List Verdict) (i : ℕ) (v : Verdict) → i < length vs → v ≡ get_or vs i v → v ≡ verdict.Holds → first_failure (drop i vs) ≡ first_failure (drop (suc i) vs)
passed [] i v l e h = absurd (omega (arith, l))
passed (x ∷ vs) zero v l e h = ap (λ y. first_failure (y ∷ vs)) (sym e ∙ h)
passed (x ∷ vs) (suc i) v l e h = passed vs i v (omega (arith, l)) e h

pub failed : (vs : List Verdict) (i : ℕ) (v : Verdict) (claim : ℕ) (which : Clause) → i < length vs → v ≡ get_or vs i v → v ≡ verdict.Fails claim which
    → first_failure (drop i vs) ≡ verdict.Fails claim which
failed [] i v claim which l e h = absurd (omega (arith, l))
failed (x ∷ vs) zero v claim which l e h = ap (λ y. first_failure (y ∷ vs)) (sym e ∙ h)
failed (x ∷ vs) (suc i) v claim which l e h = failed vs i v claim which (omega (arith, l)) e h

pub none_left : (vs : List Verdict) (i : ℕ) → length vs ≤ i → first_failure (drop i vs) ≡ verdict.Holds
none_left [] zero l = refl
none_left [] (suc i) l = refl
none_left (x ∷ vs) zero l = absurd (omega (arith, l))
none_left (x ∷ vs) (suc i) l = none_left vs i (omega (arith, l))

-- a verdict that is none of a failure
pub holds_else : (v : Verdict) → ((claim : ℕ) (which : Clause) → v ≡ verdict.Fails claim which → ⊥) → v ≡ verdict.Holds
holds_else verdict.Holds f = refl
holds_else (verdict.Fails claim which) f = absurd (f claim which refl)
