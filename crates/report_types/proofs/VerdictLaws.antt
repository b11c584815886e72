-- A report has one verdict, and what is said of its first claims does not change where claims follow.
use Rattle.std.proofs.Common.{ℕ, zero, suc, ◌≡◌, ◌<◌, ◌≤◌, inl, inr, List, [], ◌∷◌, ◌++◌, length, refl, sym, ap, subst, arith}
use Rattle.std.specs.Prelude.{Option, take, slice_get}
use Rattle.std.proofs.lemmas.Bool.{cases_lt}
use Rattle.std.proofs.lemmas.List.{take-append-le}
use Rattle.path_algebra.specs.declared.Header.{Header}
use Rattle.path_algebra.specs.Allowed.{IsAllowed}
use Rattle.bound_algebra.proofs.NormalWordsExist.{normal_words_exist}
use Rattle.claim_conditions.specs.declared.Clause.{Clause}
use Rattle.claim_conditions.specs.Conditions.{IsFirstFailing, IsAnswer}
use Rattle.claim_conditions.specs.Modules.{Sides}
use Rattle.claim_laws.proofs.FirstFailing.{one_failing, none_failing}
use Rattle.report_types.specs.declared.claims.Record.{Record}
use Rattle.report_types.specs.declared.reports.Report.{Report}
use Rattle.report_types.specs.declared.verdicts.Verdict.{Verdict}
use Rattle.report_types.specs.declared.verdicts.Verdict.TheVariants as verdict
use Rattle.report_types.specs.Numbers.{record_of}
use Rattle.report_types.specs.Conditions.{conditions, conditions_of}
use Rattle.report_types.specs.Holding.{MayHold, HoldsOver}
use Rattle.report_types.specs.Verdicts.{NormalWords, sides_by, ConditionsHold, FailsFirst, IsFirstFailure, IsVerdict, followed_by}

pub words_of : (h : Header) → IsAllowed h → NormalWords h
words_of h ok = let w = normal_words_exist h ok in record { allowed = ok; words = w.0; normal = w.1 }

module _ (report : Report) (n : NormalWords report.header) where
  fails_not_holds : (k : ℕ) (which : Clause) → FailsFirst report k which → ConditionsHold report k → ⊥
  fails_not_holds k which f holds = none_failing (conditions_of report (sides_by n) k) which (f n) (holds n)

  same_fails : (j k : ℕ) (a b : Clause) → j ≡ k → FailsFirst report j a → FailsFirst report k b → a ≡ b
  same_fails j k a b e f g = one_failing (conditions_of report (sides_by n) k) a b (subst (λ i. IsFirstFailing (conditions_of report (sides_by n) i) a) e (f n)) (g n)

  same_failure : (j k : ℕ) (a b : Clause) → IsFirstFailure report j a → IsFirstFailure report k b → verdict.Fails j a ≡ verdict.Fails k b
  same_failure j k a b f g = elim (cases_lt j k) [
    | inl l ↦ absurd (fails_not_holds j a f.fails (g.before j l))
    | inr m ↦ elim (cases_lt k j) [
      | inl l ↦ absurd (fails_not_holds k b g.fails (f.before k l))
      | inr s ↦ let e : j ≡ k = omega arith in
          subst (λ i. verdict.Fails j a ≡ verdict.Fails i b) e (ap (verdict.Fails j) (same_fails j k a b e f.fails g.fails))
    ]
  ]

  pub one_verdict : (v w : Verdict) → IsVerdict report v → IsVerdict report w → v ≡ w
  one_verdict verdict.Holds verdict.Holds f g = refl
  one_verdict verdict.Holds (verdict.Fails k b) f g = absurd (fails_not_holds k b g.fails (f k))
  one_verdict (verdict.Fails j a) verdict.Holds f g = absurd (fails_not_holds j a f.fails (g j))
  one_verdict (verdict.Fails j a) (verdict.Fails k b) f g = same_failure j k a b f g

-- more records behind
get_append : {X : Type 0} (xs ys : List X) (i : ℕ) → i < length xs → slice_get (xs ++ ys) i ≡ slice_get xs i
get_append [] ys i l = absurd (omega (arith, l))
get_append (x ∷ xs) ys zero l = refl
get_append (x ∷ xs) ys (suc i) l = get_append xs ys i (omega (arith, l))

record_append : (rs more : List Record) (k : ℕ) → k ≤ length rs → record_of (rs ++ more) k ≡ record_of rs k
record_append rs more zero l = refl
record_append rs more (suc i) l = get_append rs more i (omega (arith, l))

module _ (report : Report) (T : Sides report.header) (more : List Record) (k : ℕ) (l : k ≤ length report.records) where
  pub answer_stays : (r : Option Clause) → IsAnswer (conditions_of report T k) r → IsAnswer (conditions_of (followed_by report more) T k) r
  answer_stays r a =
      subst (λ rs. IsAnswer (conditions report.header T rs (record_of (report.records ++ more) k)) r) (sym (take-append-le k report.records more l))
      (subst (λ x. IsAnswer (conditions report.header T (take k report.records) x) r) (sym (record_append report.records more k l)) a)

  pub answer_stood : (r : Option Clause) → IsAnswer (conditions_of (followed_by report more) T k) r → IsAnswer (conditions_of report T k) r
  answer_stood r a =
      subst (λ x. IsAnswer (conditions report.header T (take k report.records) x) r) (record_append report.records more k l)
      (subst (λ rs. IsAnswer (conditions report.header T rs (record_of (report.records ++ more) k)) r) (take-append-le k report.records more l) a)

  pub holds_stays : HoldsOver report T k → HoldsOver (followed_by report more) T k
  holds_stays a =
      subst (λ rs. MayHold report.header T rs (record_of (report.records ++ more) k)) (sym (take-append-le k report.records more l))
      (subst (λ x. MayHold report.header T (take k report.records) x) (sym (record_append report.records more k l)) a)

  pub holds_stood : HoldsOver (followed_by report more) T k → HoldsOver report T k
  holds_stood a =
      subst (λ x. MayHold report.header T (take k report.records) x) (record_append report.records more k l)
      (subst (λ rs. MayHold report.header T rs (record_of (report.records ++ more) k)) (take-append-le k report.records more l) a)
