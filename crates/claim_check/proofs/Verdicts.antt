-- The verdict on a claim behind the first, from the answers on its objects and on its kind.
use Rattle.std.proofs.Common.{ℕ, zero, suc, ◌≡◌, ◌<◌, ◌≤◌, List, length, Some, None, sym, subst, arith}
use Rattle.std.specs.Prelude.{Option, take, map}
use Rattle.std.proofs.lemmas.List.{length-take-le}
use Rattle.claim_conditions.specs.declared.Clause.{Clause}
use Rattle.claim_conditions.specs.Conditions.{IsAnswer}
use Rattle.claim_conditions.specs.Modules.{Sides, object_conditions}
use Rattle.report_types.specs.declared.claims.Record.{Record}
use Rattle.report_types.specs.declared.reports.Report.{Report}
use Rattle.report_types.specs.Numbers.{record_of, printed}
use Rattle.report_types.specs.Conditions.{claim_conditions, conditions, conditions_of}
use Rattle.report_types.specs.Lawful.{IsReport}
use Rattle.report_types.proofs.Fronts.{get_below}
use Rattle.claim_check.proofs.Named.{record_lawful}
use Rattle.claim_check.proofs.AtFronts.{kind_at_front, objects_fail, objects_hold, objects_at_front}

-- a record that is there is within the list
within : (rs : List Record) (k : ℕ) (r : Record) → record_of rs k ≡ Some r → k ≤ length rs
within rs zero r e = omega arith
within rs (suc i) r e = let l = get_below rs i r e in omega (arith, l)

front_long : (rs : List Record) (k : ℕ) (r : Record) → record_of rs k ≡ Some r → 2 ≤ k → 1 < length (take k rs)
front_long rs k r e l = let s = length-take-le k rs (within rs k r e) in omega (arith, s, l)

module _ (report : Report) (is : IsReport report) (k : ℕ) (item : Record) (there : record_of report.records k ≡ Some item) (behind : 2 ≤ k) where
  pub found_in_objects : (T : Sides report.header) (w : Clause) → IsAnswer (object_conditions report.header item.modules (map (printed report.records) item.maps)) (Some w)
      → IsAnswer (conditions_of report T k) (Some w)
  found_in_objects T w a =
      let lawful = record_lawful report is k item there in
      subst (λ o. IsAnswer (conditions report.header T (take k report.records) o) (Some w)) (sym there)
      (objects_fail report is k T item item.claim w (front_long report.records k item there behind) lawful.place (objects_at_front report is k item (Some w) lawful.maps a))

  pub found_in_claim : (T : Sides report.header) (r : Option Clause) → IsAnswer (object_conditions report.header item.modules (map (printed report.records) item.maps)) None
      → IsAnswer (claim_conditions report.header T report.records item.claim) r → IsAnswer (conditions_of report T k) r
  found_in_claim T r a b =
      let lawful = record_lawful report is k item there in
      subst (λ o. IsAnswer (conditions report.header T (take k report.records) o) r) (sym there)
      (objects_hold report is k T item item.claim r (front_long report.records k item there behind) lawful.place (objects_at_front report is k item None lawful.maps a)
      (kind_at_front report is k T item.claim r lawful.claim b))
