-- Reports that answer a script.
use Rattle.std.proofs.Common.{ℕ, zero, suc, ◌≡◌, ◌<◌, ◌≤◌, ◌^◌, ◌-◌, List, [], ◌∷◌, ◌++◌, length, Some, None, inl, inr, refl, sym, ap, ◌∙◌, subst, append-nil, arith}
use Rattle.std.specs.Prelude.{take, All}
use Rattle.std.proofs.Math.Nat.{min-le_right}
use Rattle.std.proofs.lemmas.List.Elements.{All-head}
use Rattle.quiver_paths.specs.PathList.{path_count}
use Rattle.path_algebra.specs.declared.Header.{Header}
use Rattle.path_algebra.specs.Allowed.{IsAllowed}
use Rattle.script_types.specs.declared.Script.{Script}
use Rattle.script_types.specs.declared.Statement.{Statement}
use Rattle.script_types.specs.declared.StatementKind.{StatementKind}
use Rattle.script_types.specs.declared.StatementKind.TheVariants.{Rep, Std, Sum, Map, Kernel, Cokernel, Radical, Dual, Hom, Resolve, Ext, Decompose, Transpose, Tau, Taui, Ars}
use Rattle.script_types.specs.Lawful.{IsLawful}
use Rattle.report_types.specs.declared.claims.Record.{Record}
use Rattle.report_types.specs.declared.reports.Report.{Report}
use Rattle.report_types.specs.declared.reports.Why.TheVariants.{NotBuilt, PathLimit}
use Rattle.report_types.specs.declared.reports.End.{End}
use Rattle.report_types.specs.declared.reports.End.TheVariants.{Done, Refused}
use Rattle.report_types.specs.Numbers.{record_of}
use Rattle.report_types.specs.Lawful.{IsReport, MayBeRecord}
use Rattle.report_types.specs.Ends.{IsFullEnd}
use Rattle.report_types.specs.Conditions.{conditions}
use Rattle.report_types.specs.Holding.{MayHold}
use Rattle.report_types.specs.Verdicts.{sides_by, Holds, ConditionsHold}
use Rattle.claim_conditions.specs.Conditions.{AllHold}
use Rattle.report_types.proofs.Suffices.{suffices}
use Rattle.script_answers.specs.Settings.{Setting}
use Rattle.script_answers.specs.Refusals.{refusal}
use Rattle.script_answers.specs.Taken.{at_once}
use Rattle.script_answers.specs.Answers.{setting_at, begun, IsTooMany, AnswersScript}
use Rattle.script_answers.proofs.Fronts.{fronts_begin}
use Rattle.script_run.specs.Ends.{EndsBehindBasis}
use Rattle.script_run.specs.Records.{IsRightRecord}
use Rattle.script_run.specs.Runs.{AreRecords, IsRightReport, IsRightBeginning}

-- where the conditions hold, the claims do
holds_of : (report : Report) → IsReport report → (k : ℕ) → ((j : ℕ) → j ≤ k → ConditionsHold report j) → Holds report k
holds_of report is k held n = suffices report (sides_by n) is k (λ j l. held j l n)

-- ---- no record yet

none_at : (records : List Record) → records ≡ [] → (k : ℕ) → record_of records k ≡ None
none_at records empty zero = refl
none_at records empty (suc k) = ap (λ l. record_of l (suc k)) empty

empty_conditions : (report : Report) → report.records ≡ [] → (k : ℕ) → ConditionsHold report k
empty_conditions report empty k n =
    subst (λ o. AllHold (conditions report.header (sides_by n) (take k report.records) o)) (sym (none_at report.records empty k)) tt

empty_holds : (report : Report) → report.records ≡ [] → (k : ℕ) → Holds report k
empty_holds report empty k n = subst (λ o. MayHold report.header (sides_by n) (take k report.records) o) (sym (none_at report.records empty k)) tt

empty_each : (h : Header) (k : ℕ) → MayBeRecord h (take k []) (record_of [] k)
empty_each h zero = tt
empty_each h (suc k) = tt

empty_records : (h : Header) → AreRecords h []
empty_records h = record { few = omega arith; few_modules = omega arith; few_maps = omega arith; each = empty_each h }

pub right_empty : (script : Script) (report : Report) → IsAllowed script.header → report.header ≡ script.header → report.records ≡ [] → IsRightBeginning script report
right_empty script report ok same empty = record {
  header = same;
  allowed = subst IsAllowed (sym same) ok;
  lawful = subst (AreRecords report.header) (sym empty) (empty_records report.header);
  begins = inl empty;
  conditions = empty_conditions report empty;
  hold = empty_holds report empty;
}

-- too many paths: the report ends before its first record
limit_report : (script : Script) (count : ℕ) → IsLawful script → IsTooMany script script.bound_line count
    → IsReport (record { header = script.header; records = []; end = Refused script.bound_line (PathLimit count) })
limit_report script count lawful many =
    let most = min-le_right (path_count script.header.quiver script.header.bound) (2 ^ 64 - 1) in
    let number = many.number in
    let from = lawful.order.bound in
    let later = lawful.order.basis in
    let limit = lawful.order.basis_limit in
    let none = empty_records script.header in
    record {
      header = lawful.header;
      few = none.few;
      few_modules = none.few_modules;
      few_maps = none.few_maps;
      each = none.each;
      ends = (record { from = omega arith; to = omega arith }, omega (arith, most, number));
    }

right_limit : (script : Script) (count : ℕ) → IsLawful script → IsTooMany script script.bound_line count
    → IsRightReport script (record { header = script.header; records = []; end = Refused script.bound_line (PathLimit count) })
right_limit script count lawful many =
    let r : Report = record { header = script.header; records = []; end = Refused script.bound_line (PathLimit count) } in
    record {
      lawful = limit_report script count lawful many;
      answers = record { header = refl; answers = inl (refl, many) };
      conditions = empty_conditions r refl;
      hold = empty_holds r refl;
    }

pub right_too_many : (script : Script) (h : Header) (rs : List Record) (count : ℕ) → IsLawful script → IsTooMany script script.bound_line count → h ≡ script.header → rs ≡ []
    → IsRightReport script (record { header = h; records = rs; end = Refused script.bound_line (PathLimit count) })
right_too_many script h rs count lawful many same empty =
    subst (λ l. IsRightReport script (record { header = h; records = l; end = Refused script.bound_line (PathLimit count) })) (sym empty)
    (subst (λ g. IsRightReport script (record { header = g; records = []; end = Refused script.bound_line (PathLimit count) })) (sym same) (right_limit script count lawful many))

-- ---- the record of the basis alone

-- no statement is built
none_built : (at : Setting) (kind : StatementKind) → refusal at kind ≡ Some NotBuilt
none_built at (Rep name dims lines) = refl
none_built at (Std name which vertex) = refl
none_built at (Sum name a b) = refl
none_built at (Map name a b lines) = refl
none_built at (Kernel name f) = refl
none_built at (Cokernel name f) = refl
none_built at (Radical name a) = refl
none_built at (Dual name a) = refl
none_built at (Hom a b) = refl
none_built at (Resolve a n) = refl
none_built at (Ext n a b) = refl
none_built at (Decompose a name) = refl
none_built at (Transpose name a) = refl
none_built at (Tau name a) = refl
none_built at (Taui name a) = refl
none_built at (Ars a left middle) = refl

module _ (script : Script) (first : Record) (lawful : IsLawful script) (right : IsRightRecord script first) where
  abbrev with_end : End → Report
  with_end e = record { header = script.header; records = first ∷ []; end = e }

  first_conditions : (e : End) (k : ℕ) → ConditionsHold (with_end e) k
  first_conditions e zero n = tt
  first_conditions e (suc zero) n = right.conditions n
  first_conditions e (suc (suc k)) n = tt

  first_each : (k : ℕ) → MayBeRecord script.header (take k (first ∷ [])) (record_of (first ∷ []) k)
  first_each zero = tt
  first_each (suc zero) = right.lawful
  first_each (suc (suc k)) = tt

  few_items : {A : Type 0} (items : List A) → items ≡ [] → length (items ++ []) < 2 ^ 32
  few_items items none = let e : length (items ++ []) ≡ 0 = ap length (append-nil items ∙ none) in omega arith

  first_records : AreRecords script.header (first ∷ [])
  first_records = record {
    few = omega arith;
    few_modules = few_items first.modules right.answers.prints.modules;
    few_maps = few_items first.maps right.answers.prints.maps;
    each = first_each;
  }

  -- the end of a script behind its basis is one that a report may have
  full_end : (left : List Statement) (e : End) → All (λ (s : Statement). script.basis_line < s.line) left → All (λ (s : Statement). s.line ≤ 4194304) left → EndsBehindBasis left e
      → IsFullEnd script.header e
  full_end [] e later limit ends = subst (IsFullEnd script.header) (sym ends) tt
  full_end (s ∷ left) e later limit ends =
      let low = All-head (λ (x : Statement). script.basis_line < x.line) s left later in
      let high = All-head (λ (x : Statement). x.line ≤ 4194304) s left limit in
      subst (IsFullEnd script.header) (sym ends) (record { from = omega arith; to = omega arith }, tt)

  first_report : (e : End) → EndsBehindBasis script.statements e → IsReport (with_end e)
  first_report e ends = record {
    header = lawful.header;
    few = first_records.few;
    few_modules = first_records.few_modules;
    few_maps = first_records.few_maps;
    each = first_each;
    ends = full_end script.statements e lawful.order.behind lawful.order.limit ends;
  }

  done_report : IsReport (with_end Done)
  done_report = record {
    header = lawful.header;
    few = first_records.few;
    few_modules = first_records.few_modules;
    few_maps = first_records.few_maps;
    each = first_each;
    ends = tt;
  }

  answers_with : (left : List Statement) (e : End) → script.statements ≡ left → EndsBehindBasis left e → AnswersScript script (with_end e)
  answers_with [] e none ends = subst (λ x. AnswersScript script (with_end x)) (sym ends) record {
    header = refl;
    answers = inr record {
      stage = record { names = []; records = first ∷ []; left = script.statements };
      makes = begun first right.answers;
      last = [];
      all = refl;
      ends = (none, refl);
    };
  }
  answers_with (s ∷ left) e some ends = subst (λ x. AnswersScript script (with_end x)) (sym ends) record {
    header = refl;
    answers = inr record {
      stage = record { names = []; records = first ∷ []; left = script.statements };
      makes = begun first right.answers;
      last = [];
      all = refl;
      ends = record { statement = s; rest = left; first = some; place = refl; refused = at_once refl (none_built (setting_at script record { names = []; records = first ∷ []; left = script.statements }) s.kind) };
    };
  }

  first_whole : (e : End) → EndsBehindBasis script.statements e → IsRightReport script (with_end e)
  first_whole e ends = record {
    lawful = first_report e ends;
    answers = answers_with script.statements e refl ends;
    conditions = first_conditions e;
    hold = λ k. holds_of (with_end e) (first_report e ends) k (λ j low. first_conditions e j);
  }

  pub right_first : (h : Header) (rs : List Record) (e : End) → h ≡ script.header → rs ≡ first ∷ [] → EndsBehindBasis script.statements e
      → IsRightReport script (record { header = h; records = rs; end = e })
  right_first h rs e same one ends =
      subst (λ l. IsRightReport script (record { header = h; records = l; end = e })) (sym one)
      (subst (λ g. IsRightReport script (record { header = g; records = first ∷ []; end = e })) (sym same) (first_whole e ends))

  some_end : (left : List Statement) → (e : End) × EndsBehindBasis left e
  some_end [] = (Done, refl)
  some_end (s ∷ left) = (Refused s.line NotBuilt, refl)

  beginning : (e : End) → IsRightBeginning script (with_end e)
  beginning e =
      let last = some_end script.statements in
      let whole = first_whole last.0 last.1 in
      record {
        header = refl;
        allowed = lawful.header;
        lawful = first_records;
        begins = fronts_begin script (with_end last.0) (first ∷ []) [] whole.answers refl;
        conditions = first_conditions e;
        hold = whole.hold;
      }

  pub right_beginning : (h : Header) (rs : List Record) (e : End) → h ≡ script.header → rs ≡ first ∷ [] → IsRightBeginning script (record { header = h; records = rs; end = e })
  right_beginning h rs e same one =
      subst (λ l. IsRightBeginning script (record { header = h; records = l; end = e })) (sym one)
      (subst (λ g. IsRightBeginning script (record { header = g; records = first ∷ []; end = e })) (sym same) (beginning e))

-- the record of the basis alone, as a report that ends behind it
pub alone_is_report : (script : Script) (first : Record) (h : Header) (rs : List Record) → IsLawful script → IsRightRecord script first → h ≡ script.header → rs ≡ first ∷ []
    → IsReport (record { header = h; records = rs; end = Done })
alone_is_report script first h rs lawful right same one =
    subst (λ g. IsReport (record { header = g; records = rs; end = Done })) (sym same)
    (subst (λ l. IsReport (record { header = script.header; records = l; end = Done })) (sym one) (done_report script first lawful right))
