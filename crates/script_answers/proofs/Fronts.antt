-- Fronts of the records of a report that answers a script.
use Rattle.std.proofs.Common.{ℕ, ◌≡◌, ◌⊎◌, List, [], ◌∷◌, ◌++◌, inl, inr, refl, sym, ap, ◌∙◌, subst, append-nil, arith}
use Rattle.std.specs.Prelude.{Contains}
use Rattle.quiver_paths.proofs.ListLemmas.{Contains-head, Contains-behind, Contains-nil}
use Rattle.script_types.specs.declared.Script.{Script}
use Rattle.script_types.specs.declared.Statement.{Statement}
use Rattle.report_types.specs.declared.claims.Record.{Record}
use Rattle.report_types.specs.declared.reports.Report.{Report}
use Rattle.report_types.specs.declared.reports.Why.{Why}
use Rattle.report_types.specs.declared.reports.Why.TheVariants as why
use Rattle.report_types.specs.declared.reports.End.{End}
use Rattle.report_types.specs.declared.reports.End.TheVariants.{Done, Refused}
use Rattle.script_answers.specs.Answers.{Stage, Makes, begun, next, RefusesNext, Ends, EndsAtBasis, IsWhole, AnswersScript, IsNext, taken, refused, HasBegun, BeginsToAnswer, HasFewPaths, IsUnrefused, RefusesStatement}

-- one list in two ways as two behind one another: one of the first parts is a front of the other
pub cuts : {A : Type 0} (a b c d : List A) → a ++ b ≡ c ++ d → ((m : List A) × (a ≡ c ++ m) × (d ≡ m ++ b)) ⊎ ((m : List A) × (c ≡ a ++ m) × (b ≡ m ++ d))
cuts [] b c d same = inr (c, refl, same)
cuts (x ∷ a) b [] d same = inl (x ∷ a, refl, sym same)
cuts (x ∷ a) b (y ∷ c) d same =
    let heads : x ≡ y = cc in
    let tails : a ++ b ≡ c ++ d = cc in
    elim (cuts a b c d tails) [
      | inl found ↦ inl (found.0, (let e : a ≡ c ++ found.0 = found.1 in cc), found.2)
      | inr found ↦ inr (found.0, (let e : c ≡ a ++ found.0 = found.1 in cc), found.2)
    ]

longer : {A : Type 0} (r x y : A) (front rest : List A) → r ∷ [] ≡ x ∷ (y ∷ (front ++ rest)) → ⊥
longer r x y front rest same = cc

one_front : {A : Type 0} (r : A) (front rest : List A) → r ∷ [] ≡ front ++ rest → (front ≡ []) ⊎ (front ≡ r ∷ [])
one_front r [] rest same = inl refl
one_front r (x ∷ []) rest same = inr (let e : x ≡ r = cc in ap (λ y. y ∷ []) e)
one_front r (x ∷ (y ∷ front)) rest same = absurd (longer r x y front rest same)

none_in_front : {A : Type 0} (front rest : List A) → [] ≡ front ++ rest → front ≡ []
none_in_front [] rest same = refl
none_in_front (x ∷ front) rest same = absurd cc

-- at a stage, nothing of what comes next
pub at_stage : (script : Script) (stage : Stage) → Makes script stage → (records : List Record) → records ≡ stage.records → HasBegun script records
at_stage script stage makes records same = record {
  stage = stage;
  makes = makes;
  part = [];
  rest = [];
  next = inl (refl, refl);
  all = same ∙ sym (append-nil stage.records);
}

-- behind a stage, some of what comes next
pub within_next : (script : Script) (stage : Stage) → Makes script stage → (now part rest records : List Record) → IsNext script stage now → now ≡ part ++ rest
    → records ≡ stage.records ++ part → BeginsToAnswer script records
within_next script stage makes now part rest records is split same = inr record {
  stage = stage;
  makes = makes;
  part = part;
  rest = rest;
  next = inr (subst (IsNext script stage) split is);
  all = same;
}

-- a front of the records of a stage
pub fronts_of_stage : (script : Script) (stage : Stage) → Makes script stage → (front rest : List Record) → stage.records ≡ front ++ rest → BeginsToAnswer script front
fronts_of_stage script _ (begun r basis) front rest split = elim (one_front r front rest split) [
  | inl none ↦ inl none
  | inr one ↦ inr (at_stage script _ (begun r basis) front one)
]
fronts_of_stage script _ (next stage s left now makes first is) front rest split = elim (cuts front rest stage.records now (sym split)) [
  | inl found ↦ within_next script stage makes now found.0 rest front (taken s left first is) found.2 found.1
  | inr found ↦ fronts_of_stage script stage makes front found.0 found.1
]

ending_is_next : (script : Script) (stage : Stage) (last : List Record) (e : End) → Ends script stage last e → (last ≡ []) ⊎ IsNext script stage last
ending_is_next script stage last Done ends = inl ends.1
ending_is_next script stage last (Refused line w) ends = inr (refused line w ends)

whole_begins : (script : Script) (records : List Record) (e : End) → IsWhole script records e → (front rest : List Record) → records ≡ front ++ rest → BeginsToAnswer script front
whole_begins script records e whole front rest split = elim (cuts front rest whole.stage.records whole.last (sym split ∙ whole.all)) [
  | inl found ↦ elim (ending_is_next script whole.stage whole.last e whole.ends) [
    | inl none ↦
        let m : found.0 ≡ [] = none_in_front found.0 rest (sym none ∙ found.2) in
        inr (at_stage script whole.stage whole.makes front (found.1 ∙ (ap (λ l. whole.stage.records ++ l) m ∙ append-nil whole.stage.records)))
    | inr is ↦ within_next script whole.stage whole.makes whole.last found.0 rest front is found.2 found.1
  ]
  | inr found ↦ fronts_of_stage script whole.stage whole.makes front found.0 found.1
]

pub fronts_begin : (script : Script) (report : Report) (front rest : List Record) → AnswersScript script report → report.records ≡ front ++ rest → BeginsToAnswer script front
fronts_begin script report front rest a split = elim a.answers [
  | inl none ↦ inl (none_in_front front rest (sym none.0 ∙ split))
  | inr whole ↦ whole_begins script report.records report.end whole front rest split
]

-- ---- ends

-- the statements that are left at a stage are some of the script's
left_listed : (script : Script) (stage : Stage) → Makes script stage → (s : Statement) → Contains stage.left s → Contains script.statements s
left_listed script _ (begun r basis) s m = m
left_listed script _ (next stage t left now makes first is) s m =
    left_listed script stage makes s (subst (λ l. Contains l s) (sym first) (Contains-behind t left s m))

refusal_at : (script : Script) (records : List Record) (e : End) (line : ℕ) (w : Why) → e ≡ Refused line w → IsWhole script records e → RefusesStatement script line w
refusal_at script records e line w same whole =
    let refuses : RefusesNext script whole.stage whole.last line w = subst (Ends script whole.stage whole.last) same whole.ends in
    record {
      stage = whole.stage;
      makes = whole.makes;
      shown = whole.last;
      refuses = refuses;
      listed = left_listed script whole.stage whole.makes refuses.statement
          (subst (λ l. Contains l refuses.statement) (sym refuses.first) (Contains-head refuses.statement refuses.rest));
    }

many_paths : (script : Script) (e : End) → EndsAtBasis script e → HasFewPaths script → ⊥
many_paths script Done ends few = ends
many_paths script (Refused line (why.PathLimit count)) ends few = let many = ends.many in omega arith
many_paths script (Refused line why.NotBuilt) ends few = ends
many_paths script (Refused line (why.UnknownName r)) ends few = ends
many_paths script (Refused line (why.NameTaken n)) ends few = ends
many_paths script (Refused line why.Side) ends few = ends
many_paths script (Refused line why.Shape) ends few = ends
many_paths script (Refused line (why.RelationFails k)) ends few = ends
many_paths script (Refused line (why.BoundFails p)) ends few = ends
many_paths script (Refused line (why.NotHom a)) ends few = ends
many_paths script (Refused line (why.DimLimit n)) ends few = ends
many_paths script (Refused line (why.HomLimit n)) ends few = ends
many_paths script (Refused line (why.TermLimit s n)) ends few = ends
many_paths script (Refused line (why.DualLimit s n)) ends few = ends
many_paths script (Refused line why.Zero) ends few = ends
many_paths script (Refused line why.Decomposable) ends few = ends
many_paths script (Refused line why.Projective) ends few = ends

pub statement_refused : (script : Script) (report : Report) (line : ℕ) (w : Why) → HasFewPaths script → AnswersScript script report → report.end ≡ Refused line w
    → RefusesStatement script line w
statement_refused script report line w few a same = elim a.answers [
  | inl none ↦ absurd (many_paths script report.end none.1 few)
  | inr whole ↦ refusal_at script report.records report.end line w same whole
]

nothing_refused : (script : Script) (line : ℕ) (w : Why) → script.statements ≡ [] → RefusesStatement script line w → ⊥
nothing_refused script line w none r = Contains-nil r.refuses.statement (subst (λ l. Contains l r.refuses.statement) none r.listed)

by_end : (script : Script) (report : Report) (e : End) → report.end ≡ e → HasFewPaths script → script.statements ≡ [] → AnswersScript script report → e ≡ Done
by_end script report Done same few none a = refl
by_end script report (Refused line w) same few none a = absurd (nothing_refused script line w none (statement_refused script report line w few a same))

pub ends_done : (script : Script) (report : Report) → HasFewPaths script → script.statements ≡ [] → AnswersScript script report → report.end ≡ Done
ends_done script report few none a = by_end script report report.end refl few none a

few_at : (script : Script) (stage : Stage) → Makes script stage → HasFewPaths script
few_at script _ (begun r basis) = basis.few
few_at script _ (next stage s left now makes first is) = few_at script stage makes

pub few_paths : (script : Script) (report : Report) → AnswersScript script report → report.end ≡ Done → HasFewPaths script
few_paths script report a done = elim a.answers [
  | inl none ↦ absurd (subst (EndsAtBasis script) done none.1)
  | inr whole ↦ few_at script whole.stage whole.makes
]

-- ---- refusals over records

meets : (script : Script) (records : List Record) (line : ℕ) (w : Why) → IsWhole script records (Refused line w) → IsUnrefused script records → ⊥
meets script records line w whole free =
    free whole.stage whole.last [] line w whole.makes (whole.all ∙ ap (λ l. whole.stage.records ++ l) (sym (append-nil whole.last))) whole.ends

pub refusal_met : (script : Script) (report : Report) (line : ℕ) (w : Why) → HasFewPaths script → AnswersScript script report → report.end ≡ Refused line w
    → IsUnrefused script report.records → ⊥
refusal_met script report line w few a same free = elim a.answers [
  | inl none ↦ many_paths script report.end none.1 few
  | inr whole ↦ meets script report.records line w (subst (IsWhole script report.records) same whole) free
]

pub none_met : (script : Script) (records : List Record) → script.statements ≡ [] → IsUnrefused script records
none_met script records none stage shown rest line w makes all refuses =
    Contains-nil refuses.statement (subst (λ l. Contains l refuses.statement) none
    (left_listed script stage makes refuses.statement (subst (λ l. Contains l refuses.statement) (sym refuses.first) (Contains-head refuses.statement refuses.rest))))
