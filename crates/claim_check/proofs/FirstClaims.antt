-- The first claim of a report: its numbers and shapes, and its conditions.
use Rattle.std.proofs.Common.{ℕ, zero, suc, ◌≡◌, ◌<◌, ◌≤◌, List, [], ◌∷◌, Some, length, refl, sym, ap, ◌∙◌, subst, arith}
use Rattle.std.specs.Prelude.{◌++◌, take, slice_index_or}
use Rattle.std.proofs.lemmas.List.Elements.{All-weaker}
use Rattle.quiver_paths.specs.Path.{IsPath}
use Rattle.path_algebra.specs.Words.{IsShortPath}
use Rattle.path_algebra.specs.Rules.{AreElementTerms}
use Rattle.quiver_paths.specs.declared.Path.{Path}
use Rattle.path_algebra.specs.declared.Header.{Header}
use Rattle.path_algebra.specs.declared.rules.Rule.{Rule}
use Rattle.path_algebra.specs.declared.rules.Step.{Step}
use Rattle.path_algebra.specs.declared.rules.BasisFault.{BasisFault}
use Rattle.path_algebra.specs.declared.rules.BasisFault.TheVariants as fault
use Rattle.path_algebra.specs.BasisClauses.{IsBasisClaim, MeetsClauses, IsFirstFault}
use Rattle.path_algebra.proofs.ClausesSuffice.{are_sound, words_are_normal, words_are_basis}
use Rattle.alg_table.specs.TableView.{TableView, IsTable}
use Rattle.report_types.specs.WordDimensions.{words_in}
use Rattle.report_types.specs.Numbers.{claim_in}
use Rattle.claim_check.specs.ClaimVerdicts.{IsTableOf}
use Rattle.claim_conditions.specs.Conditions.{AllHold, IsFirstFailing}
use Rattle.report_types.specs.declared.claims.Claim.{Claim}
use Rattle.report_types.specs.declared.claims.Claim.TheVariants.{Basis, Module, Map, Hom, Kernel, Cokernel, Radical, Resolution, Ext, Local, Decomposition, Translate, AlmostSplit}
use Rattle.report_types.specs.declared.claims.Record.{Record}
use Rattle.report_types.specs.declared.reports.Report.{Report}
use Rattle.report_types.specs.BasisBlocks.{IsBasisBlock, IsWrittenRule}
use Rattle.report_types.specs.BasisClaims.{basis_conditions}
use Rattle.report_types.specs.ClaimBlocks.{IsClaimBlock}
use Rattle.report_types.specs.Conditions.{conditions, claim_conditions, before_claim}
use Rattle.report_types.specs.Lawful.{HasItsPlace, IsRecord, IsReport, MayBeRecord}
use Rattle.report_types.specs.Numbers.{record_of}
use Rattle.report_types.specs.Verdicts.{sides_by, ConditionsHold, IsFirstFailure}
use Rattle.claim_check.specs.ClaimVerdicts.{clause_of}

-- what the format asks of a basis claim is what its conditions presuppose
claim_of_block : (h : Header) (words : List Path) (steps : List Step) (rules : List Rule) → IsBasisBlock h words steps rules → IsBasisClaim h words steps rules
claim_of_block h words steps rules b = record {
  few = b.are_words.few;
  paths = All-weaker (IsShortPath h) (IsPath h.quiver) (λ w s. s.path) words b.are_words.short;
  factors = b.are_steps.factors;
  tips = All-weaker (IsWrittenRule h (length steps)) (λ (r : Rule). IsPath h.quiver r.tip) (λ r w. w.tip) rules b.are_rules.each;
  tails = All-weaker (IsWrittenRule h (length steps)) (λ (r : Rule). AreElementTerms h r.tail.terms) (λ r w. w.tail) rules b.are_rules.each;
}

-- there is no claim with the number 0
none_before : (report : Report) (j : ℕ) → j < 1 → ConditionsHold report j
none_before report zero l = λ n. tt
none_before report (suc j) l = absurd (omega (arith, l))

-- the first record, where there is one
pub first_there : (rs : List Record) (first : Record) → 0 < length rs → first ≡ slice_index_or rs 0 first → record_of rs 1 ≡ Some first
first_there [] first some same = absurd (omega (arith, some))
first_there (r ∷ rs) first some same = ap Some (sym same)

pub same_basis : (c : Claim) (words ws : List Path) (steps ss : List Step) (rules rs : List Rule) → c ≡ Basis words steps rules → ws ≡ words → ss ≡ steps → rs ≡ rules
    → c ≡ Basis ws ss rs
same_basis c words ws steps ss rules rs is a b d = cc

module _ (report : Report) (first : Record) (words : List Path) (steps : List Step) (rules : List Rule) (there : record_of report.records 1 ≡ Some first) (is : first.claim ≡ Basis words steps rules) where
  pub first_block : IsReport report → IsBasisClaim report.header words steps rules
  first_block lawful =
      let r : IsRecord report.header (take 1 report.records) first = subst (MayBeRecord report.header (take 1 report.records)) there (lawful.each 1) in
      claim_of_block report.header words steps rules (subst (IsClaimBlock report.header (take 1 report.records)) is r.claim)

  failing : (f : BasisFault) → IsFirstFault report.header words steps rules f → IsFirstFailing (basis_conditions report.header words steps rules) (clause_of f)
  failing fault.Step f = (0, (refl, f))
  failing fault.Rule f = (1, (f.0, (refl, f.1)))
  failing fault.Reduced f = (2, (f.0, (f.1, (refl, f.2))))
  failing fault.Words f = (3, (f.0, (f.1, (f.2, (refl, f.3)))))
  failing fault.Action f = (4, (f.0, (f.1, (f.2, (f.3, (refl, f.4))))))

  pub first_fails : (f : BasisFault) → IsFirstFault report.header words steps rules f → IsFirstFailure report 1 (clause_of f)
  first_fails f fails = record {
    before = none_before report;
    fails = λ n.
        subst (λ o. IsFirstFailing (conditions report.header (sides_by n) (take 1 report.records) o) (clause_of f)) (sym there)
        (subst (λ c. IsFirstFailing (before_claim report.header (take 1 report.records) first c ++ claim_conditions report.header (sides_by n) (take 1 report.records) c) (clause_of f)) (sym is)
        (failing f fails));
  }

  -- the table that claim 1 gives
  pub table_of_claim : IsReport report → (table : TableView) → table.header ≡ report.header → table.words ≡ words → MeetsClauses report.header words steps rules → IsTableOf report table
  table_of_claim lawful table eh ew meets =
      let block = first_block lawful in
      let sound = are_sound report.header words steps rules lawful.header block meets in
      record {
        is =
            subst (λ h. IsTable h table.words) (sym eh) (subst (IsTable report.header) (sym ew) (record {
              allowed = lawful.header;
              few = block.few;
              normal = words_are_normal report.header words rules sound;
              basis = words_are_basis report.header words rules sound;
            }));
        header = eh;
        holds = λ n.
            subst (λ o. AllHold (conditions report.header (sides_by n) (take 1 report.records) o)) (sym there)
            (subst (λ c. AllHold (before_claim report.header (take 1 report.records) first c ++ claim_conditions report.header (sides_by n) (take 1 report.records) c)) (sym is)
            (meets.step, (meets.rule, (meets.reduced, (meets.word, (meets.action, tt))))));
        words = ew ∙ sym (ap (λ o. words_in (claim_in o)) there ∙ ap words_in is);
      }

-- claim 1 is a basis
only_basis : (rs : List Record) (r : Record) (c : Claim) → HasItsPlace rs r c → length rs ≤ 1 → ((words : List Path) (steps : List Step) (rules : List Rule) → c ≡ Basis words steps rules → ⊥) → ⊥
only_basis rs r (Basis words steps rules) p l f = f words steps rules refl
only_basis rs r (Module m) p l f = omega (arith, p, l)
only_basis rs r (Map g) p l f = omega (arith, p, l)
only_basis rs r (Hom a b rows) p l f = omega (arith, p, l)
only_basis rs r (Kernel n g i) p l f = omega (arith, p, l)
only_basis rs r (Cokernel n g i) p l f = omega (arith, p, l)
only_basis rs r (Radical n a i) p l f = omega (arith, p, l)
only_basis rs r (Resolution a n terms) p l f = omega (arith, p, l)
only_basis rs r (Ext n a b rows c) p l f = omega (arith, p, l)
only_basis rs r (Local m c ideal power residue) p l f = omega (arith, p, l)
only_basis rs r (Decomposition a s g h parts) p l f = omega (arith, p, l)
only_basis rs r (Translate which n a c rows) p l f = omega (arith, p, l)
only_basis rs r (AlmostSplit n e a g h c k phi left middle) p l f = omega (arith, p, l)

short_front : {X : Type 0} (xs : List X) → length (take 1 xs) ≤ 1
short_front [] = omega arith
short_front (x ∷ xs) = omega arith

pub basis_first : (report : Report) (first : Record) → IsReport report → record_of report.records 1 ≡ Some first
    → ((words : List Path) (steps : List Step) (rules : List Rule) → first.claim ≡ Basis words steps rules → ⊥) → ⊥
basis_first report first lawful there f =
    let r : IsRecord report.header (take 1 report.records) first = subst (MayBeRecord report.header (take 1 report.records)) there (lawful.each 1) in
    only_basis (take 1 report.records) first first.claim r.place (short_front report.records) f
