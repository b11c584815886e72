-- `check` has one answer to an input.
use Rattle.std.proofs.Common.{◌≡◌, ℕ, List, length, inl, inr, refl, sym, ap, ◌∙◌, subst}
use Rattle.std.specs.Prelude.{◌⊎◌}
use Rattle.report_types.specs.declared.reports.Report.{Report}
use Rattle.report_types.specs.declared.verdicts.Verdict.{Verdict}
use Rattle.report_types.specs.declared.verdicts.Verdict.TheVariants as verdict
use Rattle.report_types.specs.Verdicts.{IsVerdict}
use Rattle.report_types.proofs.VerdictLaws.{words_of, one_verdict}
use Rattle.claim_text.specs.Texts.{IsTextOf, IsBadLine}
use Rattle.claim_text.proofs.ReportLaws.{one_report, one_bad_line, report_not_bad}
use Rattle.top_call.specs.declared.outcome.Outcome.{Outcome}
use Rattle.top_call.specs.declared.outcome.Outcome.TheVariants.{Done, Refused, Rejected, BadText, TooLong, Usage, ReadFault, WriteFault, NoMemory}
use Rattle.top_call.specs.Texts.{holds_text, rejected_text, bad_text}
use Rattle.top_call.specs.Answers.{CheckAnswers}

abbrev outcome_by : Verdict → Outcome
outcome_by verdict.Holds = Done
outcome_by (verdict.Fails claim which) = Rejected claim which

abbrev text_by : Report → Verdict → List ℕ
text_by report verdict.Holds = holds_text (length report.records)
text_by report (verdict.Fails claim which) = rejected_text claim which

-- a report was judged, or a line refused
record Judged (o : Outcome) (input text : List ℕ) : Type 0 where
  report : Report
  reads : IsTextOf input report
  v : Verdict
  is : IsVerdict report v
  outcome_is : o ≡ outcome_by v
  text_is : text ≡ text_by report v

record LineRefused (o : Outcome) (input text : List ℕ) : Type 0 where
  line : ℕ
  bad : IsBadLine input line
  outcome_is : o ≡ BadText line
  text_is : text ≡ bad_text line

checked : (o : Outcome) (input text : List ℕ) → CheckAnswers o input text → Judged o input text ⊎ LineRefused o input text
checked Done input text a = inl record { report = a.report; reads = a.reads; v = verdict.Holds; is = a.verdict_is; outcome_is = refl; text_is = a.written }
checked (Refused line why) input text a = absurd a
checked (Rejected claim which) input text a = inl record { report = a.report; reads = a.reads; v = verdict.Fails claim which; is = a.verdict_is; outcome_is = refl; text_is = a.written }
checked (BadText line) input text a = inr record { line = line; bad = a.bad; outcome_is = refl; text_is = a.written }
checked TooLong input text a = absurd a
checked Usage input text a = absurd a
checked ReadFault input text a = absurd a
checked WriteFault input text a = absurd a
checked NoMemory input text a = absurd a

one_judgement : (input text other : List ℕ) (o p : Outcome) → Judged o input text → Judged p input other → (o ≡ p) × (text ≡ other)
one_judgement input text other o p a b =
    let same : b.report ≡ a.report = one_report input b.report a.report b.reads a.reads in
    let v : a.v ≡ b.v = one_verdict a.report (words_of a.report.header a.reads.report_is.header) a.v b.v a.is (subst (λ (r : Report). IsVerdict r b.v) same b.is) in (
      a.outcome_is ∙ ap outcome_by v ∙ sym b.outcome_is,
      a.text_is ∙ ap (λ w. text_by a.report w) v ∙ ap (λ (r : Report). text_by r b.v) (sym same) ∙ sym b.text_is,
    )

one_refusal : (input text other : List ℕ) (o p : Outcome) → LineRefused o input text → LineRefused p input other → (o ≡ p) × (text ≡ other)
one_refusal input text other o p a b =
    let l : a.line ≡ b.line = one_bad_line input a.line b.line a.bad b.bad in
    (a.outcome_is ∙ ap BadText l ∙ sym b.outcome_is, a.text_is ∙ ap bad_text l ∙ sym b.text_is)

pub checked_once : (input text other : List ℕ) (o p : Outcome) → CheckAnswers o input text → CheckAnswers p input other → (o ≡ p) × (text ≡ other)
checked_once input text other o p a b = elim (checked o input text a) [
  | inl x ↦ elim (checked p input other b) [ inl y ↦ one_judgement input text other o p x y | inr y ↦ absurd (report_not_bad input x.report y.line x.reads y.bad) ]
  | inr x ↦ elim (checked p input other b) [ inl y ↦ absurd (report_not_bad input y.report x.line y.reads x.bad) | inr y ↦ one_refusal input text other o p x y ]
]
