-- What the sink took of a report, piece by piece.
use Rattle.std.proofs.Common.{ℕ, ◌≡◌, ◌⊎◌, ◌≤◌, ◌-◌, List, [], ◌∷◌, ◌++◌, length, inl, inr, refl, sym, ap, ◌∙◌, subst, append_assoc, append-nil, arith}
use Rattle.std.specs.Prelude.{slice_index_or, take}
use Rattle.std.specs.declared.option.Option.{Option}
use Rattle.quiv_io.specs.Bytes.{Takes, TakesFront}
use Rattle.quiv_io.specs.Counts.{Rose}
use Rattle.quiv_io.proofs.Joined.{Takes-append}
use Rattle.path_algebra.specs.declared.Header.{Header}
use Rattle.script_types.specs.declared.Script.{Script}
use Rattle.script_types.specs.Lawful.{IsLawful}
use Rattle.report_types.specs.declared.claims.Record.{Record}
use Rattle.report_types.specs.declared.reports.Report.{Report}
use Rattle.report_types.specs.declared.reports.End.{End}
use Rattle.report_types.specs.declared.reports.End.TheVariants as end
use Rattle.claim_text.specs.Spelling.{front_text, text_behind, records_text, end_text, report_text}
use Rattle.claim_text.proofs.ReportLaws.{report_pieces}
use Rattle.script_run.specs.declared.ends.RunEnd.{RunEnd}
use Rattle.script_run.specs.declared.ends.RunEnd.TheVariants as run
use Rattle.script_run.specs.Records.{IsRightRecord}
use Rattle.script_run.specs.Runs.{IsRightReport, begun_text, TakesFaulty, TakesBegun, RunsTo}
use Rattle.script_run.specs.Reached.{IsReached, run_end}
use Rattle.script_run.proofs.RightReports.{right_empty, right_beginning}

-- a front behind a piece that was taken whole
front_behind : (a b c : Option (List ℕ)) (xs ys : List ℕ) → Takes a xs b → TakesFront b ys c → TakesFront a (xs ++ ys) c
front_behind a b c xs ys takes front = record {
  front = xs ++ front.front;
  rest = front.rest;
  split = ap (λ t. xs ++ t) front.split ∙ sym (append_assoc xs front.front front.rest);
  takes = Takes-append a b c xs front.front takes front.takes;
}

-- want of memory behind a piece
pub halts_for_memory : (script : Script) (report : Report) (start now : Option (List ℕ)) → IsReached script report start now → (now ≡ start) ⊎ TakesBegun script start now
halts_for_memory script report start now reached =
    inr record { text = begun_text report; begun = record { report = report; right = reached.right; spelled = refl }; takes = reached.takes }

-- ---- the front

empty_text : (h : Header) (rs : List Record) (e : End) → rs ≡ [] → begun_text (record { header = h; records = rs; end = e }) ≡ front_text (record { header = h; records = rs; end = e })
empty_text h rs e empty =
    ap (λ l. front_text (record { header = h; records = rs; end = e }) ++ records_text h 0 0 0 l) empty ∙ append-nil (front_text (record { header = h; records = rs; end = e }))

pub front_reached : (script : Script) (h : Header) (rs : List Record) (e : End) (text : List ℕ) (start now : Option (List ℕ)) → IsLawful script → h ≡ script.header → rs ≡ []
    → text ≡ front_text (record { header = h; records = rs; end = e }) → Takes start text now → IsReached script (record { header = h; records = rs; end = e }) start now
front_reached script h rs e text start now lawful same empty written takes = record {
  right = right_empty script (record { header = h; records = rs; end = e }) lawful.header same empty;
  takes = subst (λ t. Takes start t now) (written ∙ sym (empty_text h rs e empty)) takes;
}

pub front_faulty : (script : Script) (h : Header) (text : List ℕ) (start now : Option (List ℕ)) (old new : ℕ) → IsLawful script → h ≡ script.header
    → text ≡ front_text (record { header = h; records = []; end = end.Done }) → TakesFront start text now → Rose old new → TakesFaulty script start now old new
front_faulty script h text start now old new lawful same written front rose =
    let r : Report = record { header = h; records = []; end = end.Done } in
    record {
      rose = rose;
      text = text;
      written = inr record { report = r; right = right_empty script r lawful.header same refl; spelled = written ∙ sym (empty_text h [] end.Done refl) };
      front = front;
    }

-- ---- the first record

first_text : (h : Header) (rs ss : List Record) (first : Record) (e : End) → rs ≡ [] → ss ≡ first ∷ []
    → begun_text (record { header = h; records = ss; end = e }) ≡ begun_text (record { header = h; records = rs; end = e }) ++ text_behind h [] first
first_text h rs ss first e empty one =
    let front = front_text (record { header = h; records = []; end = e }) in
    ap (λ l. front ++ records_text h 0 0 0 l) one
    ∙ (ap (λ t. front ++ t) (append-nil (text_behind h [] first))
    ∙ ap (λ t. t ++ text_behind h [] first) (sym (append-nil front) ∙ sym (ap (λ l. front ++ records_text h 0 0 0 l) empty)))

module _ (script : Script) (report : Report) (first : Record) (ss : List Record) (text : List ℕ) (lawful : IsLawful script) (right : IsRightRecord script first)
    (same : report.header ≡ script.header) (empty : report.records ≡ []) (one : ss ≡ first ∷ []) (written : text ≡ text_behind report.header [] first) where
  pub first_reached : (e : End) (start mid now : Option (List ℕ)) → IsReached script report start mid → Takes mid text now
      → IsReached script (record { header = report.header; records = ss; end = e }) start now
  first_reached e start mid now reached takes = record {
    right = right_beginning script first lawful right report.header ss e same one;
    takes = subst (λ t. Takes start t now) (ap (λ t. begun_text report ++ t) written ∙ sym (first_text report.header report.records ss first e empty one))
        (Takes-append start mid now (begun_text report) text reached.takes takes);
  }

  pub first_faulty : (start mid now : Option (List ℕ)) (old new : ℕ) → IsReached script report start mid → TakesFront mid text now → Rose old new → TakesFaulty script start now old new
  first_faulty start mid now old new reached front rose =
      let r : Report = record { header = report.header; records = ss; end = report.end } in
      record {
        rose = rose;
        text = begun_text report ++ text;
        written = inr record {
          report = r;
          right = right_beginning script first lawful right report.header ss report.end same one;
          spelled = ap (λ t. begun_text report ++ t) written ∙ sym (first_text report.header report.records ss first report.end empty one);
        };
        front = front_behind start mid now (begun_text report) text reached.takes front;
      }

-- ---- the last line

whole_text : (h : Header) (rs : List Record) (e last : End)
    → report_text (record { header = h; records = rs; end = last }) ≡ begun_text (record { header = h; records = rs; end = e }) ++ end_text (record { header = h; records = rs; end = last })
whole_text h rs e last =
    let w : Report = record { header = h; records = rs; end = last } in
    report_pieces w ∙ sym (append_assoc (front_text w) (records_text h 0 0 0 rs) (end_text w))

module _ (script : Script) (report : Report) (last : End) (text : List ℕ) (right : IsRightReport script (record { header = report.header; records = report.records; end = last }))
    (written : text ≡ end_text (record { header = report.header; records = report.records; end = last })) where
  abbrev w : Report
  w = record { header = report.header; records = report.records; end = last }

  spelled : begun_text report ++ text ≡ report_text w
  spelled = ap (λ t. begun_text report ++ t) written ∙ sym (whole_text report.header report.records report.end last)

  pub last_taken : (start mid now : Option (List ℕ)) (old new claims : ℕ) → IsReached script report start mid → Takes mid text now → claims ≡ length report.records
      → RunsTo script (run_end last claims) start now old new
  last_taken start mid now old new claims reached takes count =
      let taken : Takes start (report_text w) now = subst (λ t. Takes start t now) spelled (Takes-append start mid now (begun_text report) text reached.takes takes) in
      by_end last refl taken
    where
      by_end : (e : End) → last ≡ e → Takes start (report_text w) now → RunsTo script (run_end e claims) start now old new
      by_end end.Done is taken = record { whole = record { report = w; right = right; ends = is; takes = taken }; count = sym count }
      by_end (end.Refused line why) is taken = record { report = w; right = right; ends = is; takes = taken }

  pub last_faulty : (start mid now : Option (List ℕ)) (old new : ℕ) → IsReached script report start mid → TakesFront mid text now → Rose old new → TakesFaulty script start now old new
  last_faulty start mid now old new reached front rose = record {
    rose = rose;
    text = begun_text report ++ text;
    written = inl record { report = w; right = right; spelled = spelled };
    front = front_behind start mid now (begun_text report) text reached.takes front;
  }

-- ---- one record pushed to none

pub pushed_one : (old new : List Record) (first : Record) → old ≡ [] → new ≡ old ++ first ∷ [] → new ≡ first ∷ []
pushed_one old new first empty pushed = pushed ∙ ap (λ l. l ++ first ∷ []) empty

pub record_written : (h : Header) (rs : List Record) (first : Record) (items text : List ℕ) → rs ≡ first ∷ []
    → ((r : Record) → items ≡ text_behind h (take (1 - 1) rs) (slice_index_or rs (1 - 1) r)) → text ≡ items → text ≡ text_behind h [] first
record_written h rs first items text one written same = same ∙ (written first ∙ ap (λ l. text_behind h (take 0 l) (slice_index_or l 0 first)) one)

-- a run that begins with calls that count no fewer faults
pub faults_before : (script : Script) (r : RunEnd) (start now : Option (List ℕ)) (a b c : ℕ) → a ≤ b → RunsTo script r start now b c → RunsTo script r start now a c
faults_before script (run.Done claims) start now a b c low to = to
faults_before script (run.Refused line why) start now a b c low to = to
faults_before script run.WriteFault start now a b c low to =
    record { rose = λ not_last. (let rose = to.rose not_last in omega arith); text = to.text; written = to.written; front = to.front }
faults_before script run.NoMemory start now a b c low to = to
