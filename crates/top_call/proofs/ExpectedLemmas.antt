-- Inputs that end well.
use Rattle.std.proofs.Common.{◌≡◌, ℕ, ◌+◌, ◌≤◌, List, [], ◌∷◌, ◌++◌, length, codes, Some, None, inl, inr, refl, sym, ap, ◌∙◌, subst, arith, append-nil}
use Rattle.std.specs.declared.option.Option.{Option}
use Rattle.std.proofs.lemmas.List.{length-append}
use Rattle.quiv_io.specs.Counts.{Rose}
use Rattle.quiv_io.specs.Bytes.{Gives}
use Rattle.quiv_io.specs.Whole.{GivesAll}
use Rattle.report_types.specs.declared.reports.Report.{Report}
use Rattle.report_types.specs.declared.reports.Why.{Why}
use Rattle.report_types.specs.Verdicts.{ConditionsHold}
use Rattle.claim_conditions.specs.declared.Clause.{Clause}
use Rattle.report_types.specs.declared.verdicts.Verdict.TheVariants as verdict
use Rattle.report_types.specs.declared.reports.End.TheVariants as end
use Rattle.script_answers.specs.Answers.{HasFewPaths}
use Rattle.report_types.proofs.VerdictLaws.{words_of, one_verdict}
use Rattle.script_answers.proofs.Fronts.{ends_done}
use Rattle.claim_text.proofs.ReportLaws.{one_report, report_not_bad}
use Rattle.script_types.specs.declared.Script.{Script}
use Rattle.script_lang.specs.Scripts.{IsScript}
use Rattle.script_lang.proofs.ScriptLaws.{one_script, script_not_bad}
use Rattle.script_run.specs.Runs.{IsRightReport}
use Rattle.top_call.specs.declared.outcome.Outcome.{Outcome}
use Rattle.top_call.specs.declared.outcome.Outcome.TheVariants.{Done, Refused, Rejected, BadText, TooLong, Usage, ReadFault, WriteFault, NoMemory}
use Rattle.top_call.specs.declared.modes.Mode.{Mode}
use Rattle.top_call.specs.declared.modes.Mode.TheVariants.{Run, Check}
use Rattle.top_call.specs.Modes.{mode_name, AsksWith, AsksFor, input_limit}
use Rattle.top_call.specs.Answers.{Answers}
use Rattle.top_call.specs.Outcomes.{IsText, IsBegun, IsStopped, IsAnswered, IsTooLong, Writes, HasCause}
use Rattle.top_call.specs.Expected.{IsGood, IsDoneOrNoMemory}

name_sizes : (m n : Mode) → mode_name m ≡ mode_name n → length (mode_name m) ≡ length (mode_name n)
name_sizes m n e = ap (λ (w : List ℕ). length w) e

one_name : (m n : Mode) → mode_name m ≡ mode_name n → m ≡ n
one_name Run Run e = refl
one_name Run Check e = absurd (let n = name_sizes Run Check e in omega (arith, n))
one_name Check Run e = absurd (let n = name_sizes Check Run e in omega (arith, n))
one_name Check Check e = refl

no_name : (m : Mode) → codes "--workers" ≡ mode_name m → ⊥
no_name Run e = let n = ap (λ (w : List ℕ). length w) e in omega (arith, n)
no_name Check e = let n = ap (λ (w : List ℕ). length w) e in omega (arith, n)

one_asked : (words : List (List ℕ)) (m n : Mode) (j k : ℕ) → AsksWith words m j → AsksWith words n k → m ≡ n
one_asked [] m n j k x y = absurd x
one_asked (a ∷ []) m n j k x y = one_name m n (sym x.0 ∙ y.0)
one_asked (a ∷ b ∷ []) m n j k x y = absurd x
one_asked (a ∷ b ∷ c ∷ []) m n j k x y = elim x [
  | inl p ↦ elim y [ inl q ↦ one_name m n (sym p.mode_is ∙ q.mode_is) | inr q ↦ absurd (no_name m (sym q.workers.named ∙ p.mode_is)) ]
  | inr p ↦ elim y [ inl q ↦ absurd (no_name n (sym p.workers.named ∙ q.mode_is)) | inr q ↦ one_name m n (sym p.mode_is ∙ q.mode_is) ]
]
one_asked (a ∷ b ∷ c ∷ d ∷ more) m n j k x y = absurd x

-- words ask for one mode
pub one_mode : (words : List (List ℕ)) (m n : Mode) → AsksFor words m → AsksFor words n → m ≡ n
one_mode words m n a b = one_asked words m n a.workers b.workers a.asks b.asks

-- what was read of a source that tells all it has left
pub read_all_of : (input given : List ℕ) (left after : Option (List ℕ)) → left ≡ Some input → GivesAll left given after → given ≡ input
read_all_of input given left None tells read = absurd (subst (λ l. Gives l given None) tells read.0)
read_all_of input given left (Some rest) tells read =
    let told : input ≡ given ++ rest = subst (λ l. Gives l given (Some rest)) tells read.0 in
    sym (told ∙ (ap (λ r. given ++ r) read.1 ∙ append-nil given))

read_part_of : (input given : List ℕ) (left after : Option (List ℕ)) → left ≡ Some input → Gives left given after → length given ≤ length input
read_part_of input given left None tells read = absurd (subst (λ l. Gives l given None) tells read)
read_part_of input given left (Some rest) tells read =
    let told : input ≡ given ++ rest = subst (λ l. Gives l given (Some rest)) tells read in
    let e = ap length told in let f = length-append given rest in omega arith

-- a good input is not refused
good_not_refused : (mode : Mode) (input text : List ℕ) (line : ℕ) (why : Why) → IsGood mode input → Answers mode (Refused line why) input text → ⊥
good_not_refused Run input text line why good a =
    let same : a.script ≡ good.script = one_script input a.script good.script a.reads good.reads in
    good.never a.report line why (subst (λ s. IsRightReport s a.report) same a.right) a.ends
good_not_refused Check input text line why good a = a

verdicts_differ : (claim : ℕ) (which : Clause) → verdict.Holds ≡ verdict.Fails claim which → ⊥
verdicts_differ claim which e = cc

good_not_rejected : (mode : Mode) (input text : List ℕ) (claim : ℕ) (which : Clause) → IsGood mode input → Answers mode (Rejected claim which) input text → ⊥
good_not_rejected Run input text claim which good a = a
good_not_rejected Check input text claim which good a =
    let same : good.report ≡ a.report = one_report input good.report a.report good.reads a.reads in
    verdicts_differ claim which (one_verdict a.report (words_of a.report.header a.reads.report_is.header) verdict.Holds (verdict.Fails claim which)
    (subst (λ (r : Report). (k : ℕ) → ConditionsHold r k) same good.conditions) a.verdict_is)

good_not_bad : (mode : Mode) (input text : List ℕ) (line : ℕ) → IsGood mode input → Answers mode (BadText line) input text → ⊥
good_not_bad Run input text line good a = script_not_bad input good.script line good.reads a.bad
good_not_bad Check input text line good a = report_not_bad input good.report line good.reads a.bad

module _ (words : List (List ℕ)) (left left' : Option (List ℕ)) (mode : Mode) (input : List ℕ) (asks : AsksFor words mode) (tells : left ≡ Some input) where
  -- the answer is one to this input in this mode
  pub answer_to : (o : Outcome) (text : List ℕ) → IsAnswered words o left left' text → Answers mode o input text
  answer_to o text is =
      let m : is.mode ≡ mode = one_mode words is.mode mode is.asks asks in
      let i : is.input ≡ input = read_all_of input is.input left left' tells is.read in
      subst (λ n. Answers n o input text) m (subst (λ r. Answers is.mode o r text) i is.answer)

  pub not_longer : length input ≤ input_limit mode → (text : List ℕ) → IsTooLong words left left' text → ⊥
  not_longer short text is =
      let m : is.mode ≡ mode = one_mode words is.mode mode is.asks asks in
      let low = read_part_of input is.input left left' tells is.read in
      let past : length is.input ≡ input_limit mode + 1 = subst (λ n. length is.input ≡ input_limit n + 1) m is.past in
      omega arith

module _ (words : List (List ℕ)) (left left' taken taken' : Option (List ℕ)) (mode : Mode) (input : List ℕ) (asks : AsksFor words mode) (tells : left ≡ Some input)
    (short : length input ≤ input_limit mode) (good : IsGood mode input) where
  answer_of : (o : Outcome) (text : List ℕ) → IsAnswered words o left left' text → Answers mode o input text
  answer_of = answer_to words left left' mode input asks tells

  pub as_expected : (o : Outcome) (a b c d : ℕ) → Writes (IsText words left left') (IsBegun words left left') (IsStopped words left left') o taken taken' → HasCause o a b c d → (Rose a b → ⊥) → (Rose c d → ⊥) → IsDoneOrNoMemory o
  as_expected Done a b c d w cause x y = tt
  as_expected (Refused line why) a b c d w cause x y = good_not_refused mode input w.text line why good (answer_of (Refused line why) w.text w.is)
  as_expected (Rejected claim which) a b c d w cause x y = good_not_rejected mode input w.text claim which good (answer_of (Rejected claim which) w.text w.is)
  as_expected (BadText line) a b c d w cause x y = good_not_bad mode input w.text line good (answer_of (BadText line) w.text w.is)
  as_expected TooLong a b c d w cause x y = not_longer words left left' mode input asks tells short w.text w.is
  as_expected Usage a b c d w cause x y = w.is.other mode asks
  as_expected ReadFault a b c d w cause x y = x cause
  as_expected WriteFault a b c d w cause x y = y cause
  as_expected NoMemory a b c d w cause x y = tt

-- what `run` writes with Done is accepted
pub accepted : (input text : List ℕ) → Answers Run Done input text → IsGood Check text
accepted input text a = record { report = a.report; reads = record { report_is = a.right.lawful; spelled = a.spelled }; conditions = a.right.conditions }

-- a script without statements, with few paths below its bound
done_differs : (line : ℕ) (why : Why) → end.Done ≡ end.Refused line why → ⊥
done_differs line why e = cc

pub without_statements : (input : List ℕ) (script : Script) → IsScript input script → HasFewPaths script → script.statements ≡ [] → IsGood Run input
without_statements input script reads few empty = record {
  script = script;
  reads = reads;
  never = λ report line why right refused. done_differs line why (sym (ends_done script report few empty right.answers) ∙ refused);
}
