-- What the parts of a run of the program have written, put together.
use Rattle.std.proofs.Common.{◌≡◌, ℕ, ◌+◌, ◌≤◌, List, ◌⊎◌, length, inl, inr, refl, sym, ap, ◌∙◌, subst}
use Rattle.std.specs.Prelude.{⊤}
use Rattle.std.specs.declared.option.Option.{Option}
use Rattle.quiv_io.specs.Bytes.{Takes}
use Rattle.quiv_io.specs.Whole.{GivesAll, GivesBefore}
use Rattle.quiv_io.specs.declared.whole.ReadError.TheVariants.{TooLong as ReadTooLong}
use Rattle.script_types.specs.declared.Script.{Script}
use Rattle.script_lang.specs.Scripts.{IsScript, IsBadLine as IsBadScriptLine}
use Rattle.report_types.specs.declared.reports.End.{End}
use Rattle.report_types.specs.declared.reports.End.TheVariants as end
use Rattle.report_types.specs.declared.reports.Report.{Report}
use Rattle.claim_text.specs.Spelling.{report_text}
use Rattle.report_types.specs.declared.verdicts.Verdict.TheVariants as verdict
use Rattle.report_types.specs.Verdicts.{IsVerdict}
use Rattle.report_types.specs.Lawful.{IsReport}
use Rattle.report_types.specs.Verdicts.{sides_by, Holds, ConditionsHold}
use Rattle.report_types.proofs.Suffices.{suffices}
use Rattle.claim_text.specs.Texts.{IsTextOf}
use Rattle.script_run.specs.Runs.{IsRightReport, IsWholeText, IsBegunText, RunsTo}
use Rattle.script_run.specs.declared.ends.RunEnd.{RunEnd}
use Rattle.script_run.specs.declared.ends.RunEnd.TheVariants as run
use Rattle.top_call.specs.declared.outcome.Outcome.{Outcome}
use Rattle.top_call.specs.declared.outcome.Outcome.TheVariants.{Done, Refused, Rejected, BadText, TooLong, Usage, ReadFault, WriteFault, NoMemory}
use Rattle.top_call.specs.declared.modes.Mode.{Mode}
use Rattle.top_call.specs.declared.modes.Mode.TheVariants.{Run, Check}
use Rattle.top_call.specs.Modes.{AsksFor, input_limit}
use Rattle.top_call.specs.Texts.{holds_text, bad_text, too_long_text}
use Rattle.top_call.specs.Answers.{Answers, CheckAnswers, Begins}
use Rattle.top_call.specs.Outcomes.{IsText, IsBegun, IsStopped, OfOutcome, Writes, HasCause}
use Rattle.top_call.specs.Steps.{Finishes, HasSinkCause, EndsWith, Refuses, run_outcome}

-- no answer ends so
answers_no_fault : (mode : Mode) (input text : List ℕ) → Answers mode ReadFault input text → ⊥
answers_no_fault Run input text a = a
answers_no_fault Check input text a = a

answers_no_write_fault : (mode : Mode) (input text : List ℕ) → Answers mode WriteFault input text → ⊥
answers_no_write_fault Run input text a = a
answers_no_write_fault Check input text a = a

answers_memory : (mode : Mode) (input text : List ℕ) → Answers mode NoMemory input text → ⊥
answers_memory Run input text a = a
answers_memory Check input text a = a

answers_length : (mode : Mode) (input text : List ℕ) → Answers mode TooLong input text → ⊥
answers_length Run input text a = a
answers_length Check input text a = a

answers_words : (mode : Mode) (input text : List ℕ) → Answers mode Usage input text → ⊥
answers_words Run input text a = a
answers_words Check input text a = a

-- ---- from an answer and what `finish` did to what was written

module _ (Is : Outcome → List ℕ → Type 0) (Begun : List ℕ → Type 0) (Stopped : Type 0) (no_read : (text : List ℕ) → Is ReadFault text → ⊥) (no_write : (text : List ℕ) → Is WriteFault text → ⊥)
    (no_memory : (text : List ℕ) → Is NoMemory text → ⊥) (taken taken' : Option (List ℕ)) where
  whole_written : (o : Outcome) (text : List ℕ) → Is o text → Takes taken text taken' → Writes Is Begun Stopped o taken taken'
  whole_written Done text is takes = record { text = text; is = is; takes = takes }
  whole_written (Refused line why) text is takes = record { text = text; is = is; takes = takes }
  whole_written (Rejected claim which) text is takes = record { text = text; is = is; takes = takes }
  whole_written (BadText line) text is takes = record { text = text; is = is; takes = takes }
  whole_written TooLong text is takes = record { text = text; is = is; takes = takes }
  whole_written Usage text is takes = record { text = text; is = is; takes = takes }
  whole_written ReadFault text is takes = absurd (no_read text is)
  whole_written WriteFault text is takes = absurd (no_write text is)
  whole_written NoMemory text is takes = absurd (no_memory text is)

  sink_cause : (o : Outcome) (text : List ℕ) (old new : ℕ) → Is o text → HasSinkCause o old new
  sink_cause Done text old new is = tt
  sink_cause (Refused line why) text old new is = tt
  sink_cause (Rejected claim which) text old new is = tt
  sink_cause (BadText line) text old new is = tt
  sink_cause TooLong text old new is = tt
  sink_cause Usage text old new is = tt
  sink_cause ReadFault text old new is = absurd (no_read text is)
  sink_cause WriteFault text old new is = absurd (no_write text is)
  sink_cause NoMemory text old new is = tt

  pub finished : (o result : Outcome) (text : List ℕ) (old new : ℕ) → Is o text → Finishes o text taken taken' old new result → Writes Is Begun Stopped result taken taken'
  finished o result text old new is (inl done) = subst (λ r. Writes Is Begun Stopped r taken taken') (sym done.0) (whole_written o text is done.1)
  finished o result text old new is (inr front) =
      subst (λ r. Writes Is Begun Stopped r taken taken') (sym front.0) record { text = text; is = inl record { outcome = o; is = is }; front = front.1.front }

  pub finished_cause : (o result : Outcome) (text : List ℕ) (old new : ℕ) → Is o text → Finishes o text taken taken' old new result → HasSinkCause result old new
  finished_cause o result text old new is (inl done) = subst (λ r. HasSinkCause r old new) (sym done.0) (sink_cause o text old new is)
  finished_cause o result text old new is (inr front) = subst (λ r. HasSinkCause r old new) (sym front.0) front.1.rose

-- an answer that was written
pub answer_written : (mode : Mode) (input : List ℕ) (taken taken' : Option (List ℕ)) (o result : Outcome) (text : List ℕ) (old new : ℕ) → Answers mode o input text
    → Finishes o text taken taken' old new result → EndsWith mode input result taken taken' old new
answer_written mode input taken taken' o result text old new is ends =
    let Is : Outcome → List ℕ → Type 0 = λ p t. Answers mode p input t in
    record {
      writes = finished Is (Begins mode input) ⊤ (answers_no_fault mode input) (answers_no_write_fault mode input) (answers_memory mode input) taken taken' o result text old new is ends;
      cause = finished_cause Is (Begins mode input) ⊤ (answers_no_fault mode input) (answers_no_write_fault mode input) (answers_memory mode input) taken taken' o result text old new is ends;
    }

-- nothing was written for want of memory
pub nothing_written : (mode : Mode) (input : List ℕ) (taken : Option (List ℕ)) (old new : ℕ) → EndsWith mode input NoMemory taken taken old new
nothing_written mode input taken old new = record { writes = inl (tt, refl); cause = tt }

pub refused_script : (input : List ℕ) (line : ℕ) (taken taken' : Option (List ℕ)) (old new : ℕ) (result : Outcome) → IsBadScriptLine input line
    → Refuses line taken taken' old new result → EndsWith Run input result taken taken' old new
refused_script input line taken taken' old new result bad (inl none) =
    subst (λ r. EndsWith Run input r taken taken' old new) (sym none.0) record { writes = inl (tt, none.1); cause = tt }
refused_script input line taken taken' old new result bad (inr ends) =
    answer_written Run input taken taken' (BadText line) result (bad_text line) old new record { bad = bad; written = refl } ends

-- ---- from the run of a script to what was written

module _ (input : List ℕ) (script : Script) (reads : IsScript input script) where
  whole_of : (e : End) (report : Report) (text : List ℕ) → IsRightReport script report → report.end ≡ e → text ≡ report_text report → OfOutcome (λ o t. Answers Run o input t) text
  whole_of end.Done report text right ends spelled = record { outcome = Done; is = record { script = script; reads = reads; report = report; right = right; ends = ends; spelled = spelled } }
  whole_of (end.Refused line why) report text right ends spelled =
      record { outcome = Refused line why; is = record { script = script; reads = reads; report = report; right = right; ends = ends; spelled = spelled } }

  of_script : (text : List ℕ) → IsWholeText script text ⊎ IsBegunText script text → OfOutcome (λ o t. Answers Run o input t) text ⊎ Begins Run input text
  of_script text (inl whole) = inl (whole_of whole.report.end whole.report text whole.right refl whole.spelled)
  of_script text (inr begun) = inr record { script = script; reads = reads; begun = begun }

  pub run_written : (e : RunEnd) (taken taken' : Option (List ℕ)) (old new : ℕ) → RunsTo script e taken taken' old new → EndsWith Run input (run_outcome e) taken taken' old new
  run_written (run.Done claims) taken taken' old new r = record {
    writes = record {
      text = report_text r.whole.report;
      is = record { script = script; reads = reads; report = r.whole.report; right = r.whole.right; ends = r.whole.ends; spelled = refl };
      takes = r.whole.takes;
    };
    cause = tt;
  }
  run_written (run.Refused line why) taken taken' old new r = record {
    writes = record {
      text = report_text r.report;
      is = record { script = script; reads = reads; report = r.report; right = r.right; ends = r.ends; spelled = refl };
      takes = r.takes;
    };
    cause = tt;
  }
  run_written run.WriteFault taken taken' old new r = record { writes = record { text = r.text; is = of_script r.text r.written; front = r.front }; cause = r.rose }
  run_written run.NoMemory taken taken' old new (inl none) = record { writes = inl (tt, none); cause = tt }
  run_written run.NoMemory taken taken' old new (inr b) =
      record { writes = inr record { text = b.text; is = record { script = script; reads = reads; begun = b.begun }; takes = b.takes }; cause = tt }

-- ---- from the work on an input to the whole run

module _ (words : List (List ℕ)) (left left' taken taken' : Option (List ℕ)) (mode : Mode) (input : List ℕ) (asks : AsksFor words mode) (read : GivesAll left input left')
    (within : length input ≤ input_limit mode) where
  answered : (o : Outcome) (text : List ℕ) → Answers mode o input text → IsText words left left' o text
  answered Done text a = record { mode = mode; asks = asks; input = input; read = read; within = within; answer = a }
  answered (Refused line why) text a = record { mode = mode; asks = asks; input = input; read = read; within = within; answer = a }
  answered (Rejected claim which) text a = record { mode = mode; asks = asks; input = input; read = read; within = within; answer = a }
  answered (BadText line) text a = record { mode = mode; asks = asks; input = input; read = read; within = within; answer = a }
  answered TooLong text a = absurd (answers_length mode input text a)
  answered Usage text a = absurd (answers_words mode input text a)
  answered ReadFault text a = absurd (answers_no_fault mode input text a)
  answered WriteFault text a = absurd (answers_no_write_fault mode input text a)
  answered NoMemory text a = absurd (answers_memory mode input text a)

  begun : (text : List ℕ) → Begins mode input text → IsBegun words left left' text
  begun text b = record { mode = mode; asks = asks; input = input; read = read; within = within; begun = b }

  part : (text : List ℕ) → OfOutcome (λ o t. Answers mode o input t) text ⊎ Begins mode input text → OfOutcome (IsText words left left') text ⊎ IsBegun words left left' text
  part text (inl whole) = inl record { outcome = whole.outcome; is = answered whole.outcome text whole.is }
  part text (inr b) = inr (begun text b)

  stopped : IsStopped words left left'
  stopped = record { mode = mode; asks = asks; given = input; few = within; gives = read.0 }

  lifted : (o : Outcome) → Writes (λ p t. Answers mode p input t) (Begins mode input) ⊤ o taken taken' → Writes (IsText words left left') (IsBegun words left left') (IsStopped words left left') o taken taken'
  lifted Done w = record { text = w.text; is = answered Done w.text w.is; takes = w.takes }
  lifted (Refused line why) w = record { text = w.text; is = answered (Refused line why) w.text w.is; takes = w.takes }
  lifted (Rejected claim which) w = record { text = w.text; is = answered (Rejected claim which) w.text w.is; takes = w.takes }
  lifted (BadText line) w = record { text = w.text; is = answered (BadText line) w.text w.is; takes = w.takes }
  lifted TooLong w = absurd (answers_length mode input w.text w.is)
  lifted Usage w = absurd (answers_words mode input w.text w.is)
  lifted ReadFault w = (stopped, w.1)
  lifted WriteFault w = record { text = w.text; is = part w.text w.is; front = w.front }
  lifted NoMemory (inl none) = inl (stopped, none.1)
  lifted NoMemory (inr w) = inr record { text = w.text; is = begun w.text w.is; takes = w.takes }

  pub whole_run : (o : Outcome) (old new : ℕ) → EndsWith mode input o taken taken' old new → Writes (IsText words left left') (IsBegun words left left') (IsStopped words left left') o taken taken'
  whole_run o old new e = lifted o e.writes

pub cause_of : (o : Outcome) (a b old new : ℕ) → HasSinkCause o old new → HasCause o a b old new
cause_of Done a b old new c = tt
cause_of (Refused line why) a b old new c = tt
cause_of (Rejected claim which) a b old new c = tt
cause_of (BadText line) a b old new c = tt
cause_of TooLong a b old new c = tt
cause_of Usage a b old new c = tt
cause_of ReadFault a b old new c = absurd c
cause_of WriteFault a b old new c = c
cause_of NoMemory a b old new c = tt

-- ---- outcomes that no input answers

module _ (words : List (List ℕ)) (left left' taken taken' : Option (List ℕ)) where
  no_fault : (text : List ℕ) → IsText words left left' ReadFault text → ⊥
  no_fault text is = is

  no_write_fault : (text : List ℕ) → IsText words left left' WriteFault text → ⊥
  no_write_fault text is = is

  memory : (text : List ℕ) → IsText words left left' NoMemory text → ⊥
  memory text is = is

  pub line_written : (o result : Outcome) (text : List ℕ) (old new : ℕ) → IsText words left left' o text → Finishes o text taken taken' old new result
      → Writes (IsText words left left') (IsBegun words left left') (IsStopped words left left') result taken taken'
  line_written = finished (IsText words left left') (IsBegun words left left') (IsStopped words left left') no_fault no_write_fault memory taken taken'

  pub line_cause : (o result : Outcome) (text : List ℕ) (a b old new : ℕ) → IsText words left left' o text → Finishes o text taken taken' old new result → HasCause result a b old new
  line_cause o result text a b old new is ends =
      cause_of result a b old new (finished_cause (IsText words left left') (IsBegun words left left') (IsStopped words left left') no_fault no_write_fault memory taken taken' o result text old new is ends)

-- more was read than the mode's limit
pub too_long_is : (words : List (List ℕ)) (left left' : Option (List ℕ)) (mode : Mode) (limit : ℕ) → AsksFor words mode → limit ≡ input_limit mode
    → GivesBefore ReadTooLong limit left left' → IsText words left left' TooLong too_long_text
too_long_is words left left' mode limit asks same before =
    record { mode = mode; asks = asks; input = before.given; read = before.gives; past = before.count ∙ ap (λ n. n + 1) same; written = refl }

-- the work on an input that was read to its end
pub input_answered : (words : List (List ℕ)) (left left' taken taken' : Option (List ℕ)) (mode found : Mode) (items text : List ℕ) (limit : ℕ) (o : Outcome) (old new : ℕ) → AsksFor words found
    → found ≡ mode → limit ≡ input_limit found → GivesAll left items left' → length items ≤ limit → text ≡ items → EndsWith mode text o taken taken' old new
    → Writes (IsText words left left') (IsBegun words left left') (IsStopped words left left') o taken taken'
input_answered words left left' taken taken' mode found items text limit o old new asks is same read within told ends =
    whole_run words left left' taken taken' mode items (subst (AsksFor words) is asks) read (subst (λ n. length items ≤ input_limit n) is (subst (λ n. length items ≤ n) same within)) o old new
    (subst (λ t. EndsWith mode t o taken taken' old new) told ends)

-- where the conditions hold, the claims do
holds_of : (report : Report) → IsReport report → (k : ℕ) → ((j : ℕ) → j ≤ k → ConditionsHold report j) → Holds report k
holds_of report is k held n = suffices report (sides_by n) is k (λ j l. held j l n)

-- a report that was read, of which the verdict is that it holds
pub accepts : (input text : List ℕ) (report : Report) → IsTextOf input report → IsVerdict report verdict.Holds → text ≡ holds_text (length report.records) → CheckAnswers Done input text
accepts input text report reads holds written =
    record { report = report; reads = reads; verdict_is = holds; hold = λ k. holds_of report reads.report_is k (λ j low. holds j); written = written }
