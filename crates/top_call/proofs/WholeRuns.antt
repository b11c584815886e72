-- A run of a script, and the records that were made in it.
use Rattle.std.proofs.Common.{◌≡◌, ℕ, ◌≤◌, List, [], length, Some, inl, inr, refl, subst}
use Rattle.std.specs.declared.option.Option.{Option}
use Rattle.quiv_io.specs.Counts.{Rose}
use Rattle.quiv_io.specs.Bytes.{Takes}
use Rattle.script_types.specs.declared.Script.{Script}
use Rattle.script_lang.specs.Scripts.{IsScript}
use Rattle.script_lang.proofs.ScriptLaws.{one_script, script_not_bad}
use Rattle.script_lang.proofs.LawfulScripts.{script_lawful}
use Rattle.report_types.specs.declared.reports.Report.{Report}
use Rattle.report_types.specs.declared.reports.End.TheVariants as end
use Rattle.script_answers.specs.Answers.{HasFewPaths}
use Rattle.script_answers.proofs.Fronts.{refusal_met}
use Rattle.script_run.specs.Runs.{IsRightReport, IsRightBeginning}
use Rattle.script_run.proofs.RightReports.{right_empty}
use Rattle.top_call.specs.declared.outcome.Outcome.{Outcome}
use Rattle.top_call.specs.declared.outcome.Outcome.TheVariants.{Done, Refused, Rejected, BadText, TooLong, Usage, ReadFault, WriteFault, NoMemory}
use Rattle.top_call.specs.declared.modes.Mode.TheVariants.{Run}
use Rattle.top_call.specs.Modes.{AsksFor, input_limit}
use Rattle.top_call.specs.Answers.{RunAnswers, Begins, BeginsReport}
use Rattle.top_call.specs.Outcomes.{IsText, IsBegun, IsStopped, IsAnswered, Writes, HasCause}
use Rattle.top_call.specs.Expected.{RunsWhole}
use Rattle.top_call.proofs.RunLemmas.{as_beginning}
use Rattle.top_call.proofs.ExpectedLemmas.{one_mode, read_all_of, answer_to, not_longer}

module _ (words : List (List ℕ)) (left left' taken taken' : Option (List ℕ)) (input : List ℕ) (asks : AsksFor words Run) (tells : left ≡ Some input)
    (short : length input ≤ input_limit Run) (script : Script) (reads : IsScript input script) (few : HasFewPaths script) where
  answer_of : (o : Outcome) (text : List ℕ) → IsAnswered words o left left' text → RunAnswers o input text
  answer_of = answer_to words left left' Run input asks tells

  same_script : (other : Script) → IsScript input other → other ≡ script
  same_script other is = one_script input other script is reads

  begun_of : (text : List ℕ) → IsBegun words left left' text → BeginsReport input text
  begun_of text is =
      let m : is.mode ≡ Run = one_mode words is.mode Run is.asks asks in
      let i : is.input ≡ input = read_all_of input is.input left left' tells is.read in
      subst (λ n. Begins n input text) m (subst (λ r. Begins is.mode r text) i is.begun)

  abbrev no_records : Report
  no_records = record { header = script.header; records = []; end = end.Done }

  pub runs_whole : (o : Outcome) (a b c d : ℕ) → Writes (IsText words left left') (IsBegun words left left') (IsStopped words left left') o taken taken' → HasCause o a b c d
      → (Rose a b → ⊥) → (Rose c d → ⊥) → RunsWhole script o taken taken'
  runs_whole Done a b c d w cause x y =
      let ans = answer_of Done w.text w.is in
      let right : IsRightReport script ans.report = subst (λ s. IsRightReport s ans.report) (same_script ans.script ans.reads) ans.right in
      record { report = ans.report; right = as_beginning script ans.report right; takes = (ans.ends, subst (λ t. Takes taken t taken') ans.spelled w.takes); complete = λ free. tt }
  runs_whole (Refused line why) a b c d w cause x y =
      let ans = answer_of (Refused line why) w.text w.is in
      let right : IsRightReport script ans.report = subst (λ s. IsRightReport s ans.report) (same_script ans.script ans.reads) ans.right in
      record {
        report = ans.report;
        right = as_beginning script ans.report right;
        takes = (ans.ends, subst (λ t. Takes taken t taken') ans.spelled w.takes);
        complete = λ free. refusal_met script ans.report line why few right.answers ans.ends free;
      }
  runs_whole (Rejected claim which) a b c d w cause x y = absurd (answer_of (Rejected claim which) w.text w.is)
  runs_whole (BadText line) a b c d w cause x y = absurd (script_not_bad input script line reads (answer_of (BadText line) w.text w.is).bad)
  runs_whole TooLong a b c d w cause x y = absurd (not_longer words left left' Run input asks tells short w.text w.is)
  runs_whole Usage a b c d w cause x y = absurd (w.is.other Run asks)
  runs_whole ReadFault a b c d w cause x y = absurd (x cause)
  runs_whole WriteFault a b c d w cause x y = absurd (y cause)
  runs_whole NoMemory a b c d (inl s) cause x y =
      record { report = no_records; right = right_empty script no_records (script_lawful input script short reads).header refl refl; takes = inl (s.1, refl); complete = λ free. tt }
  runs_whole NoMemory a b c d (inr w) cause x y =
      let is = begun_of w.text w.is in
      record {
        report = is.begun.report;
        right = subst (λ s. IsRightBeginning s is.begun.report) (same_script is.script is.reads) is.begun.right;
        takes = inr (subst (λ t. Takes taken t taken') is.begun.spelled w.takes);
        complete = λ free. tt;
      }
