-- Local modules: what the format asks of them and of the Hom claim that they name, over the whole report; the answer on them, and that over the records up
-- to the claim.
use Rattle.std.proofs.Common.{ℕ, ◌≡◌, ◌*◌, ◌≤◌, List, length, Some, refl, sym, ap, ◌∙◌, subst, arith}
use Rattle.std.specs.Prelude.{⊤, Option, take}
use Rattle.std.proofs.Math.Nat.{mul-le-mul}
use Rattle.fp_linear.specs.Matrix.{PlainMatrix}
use Rattle.path_algebra.specs.declared.Header.{Header}
use Rattle.module_types.specs.declared.Module.{Module}
use Rattle.claim_conditions.specs.declared.Clause.{Clause}
use Rattle.claim_conditions.specs.declared.Clause.TheVariants as clause
use Rattle.claim_conditions.specs.declared.Residue.{Residue}
use Rattle.claim_conditions.specs.Conditions.{IsAnswer}
use Rattle.claim_conditions.specs.LocalConditions.{families_of, local_conditions}
use Rattle.residue_checks.specs.LocalRoom.{HasLocalRoom}
use Rattle.report_types.specs.declared.claims.Claim.{Claim}
use Rattle.report_types.specs.declared.claims.Claim.TheVariants as claim
use Rattle.report_types.specs.declared.claims.Record.{Record}
use Rattle.report_types.specs.declared.reports.Report.{Report}
use Rattle.report_types.specs.Limits.{unknown_limit}
use Rattle.report_types.specs.Numbers.{module_of, claim_in, claim_of, NamesClaim}
use Rattle.report_types.specs.NamedClaims.{IsHomClaim, IsHomOf, rows_in}
use Rattle.report_types.specs.ClaimBlocks.{AreRows, IsHomBlock, IsLocalBlock, IsClaimBlock}
use Rattle.report_types.specs.Lawful.{IsReport}
use Rattle.report_types.proofs.Fronts.{record_there, claim_in_whole}
use Rattle.claim_check.specs.Room.{HasClaimRoom}
use Rattle.claim_check.proofs.Named.{names_module, names_claim, record_lawful}
use Rattle.claim_check.proofs.WhatNumbersSay.{behind_first, named_for}
use Rattle.claim_check.proofs.ByNumbers.{unknowns_are, hom_in_whole, whole_module, whole_claim}

-- a claim on homomorphisms has a form of its own
pub only_hom : (c : Claim) → IsHomClaim c → ((a b : ℕ) (rows : PlainMatrix) → c ≡ claim.Hom a b rows → ⊥) → ⊥
only_hom (claim.Basis words steps rules) is f = is
only_hom (claim.Module m) is f = is
only_hom (claim.Map g) is f = is
only_hom (claim.Hom a b rows) is f = f a b rows refl
only_hom (claim.Kernel n g i) is f = is
only_hom (claim.Cokernel n g p) is f = is
only_hom (claim.Radical n a i) is f = is
only_hom (claim.Resolution a n terms) is f = is
only_hom (claim.Ext n a b rows c) is f = is
only_hom (claim.Local m c ideal power residue) is f = is
only_hom (claim.Decomposition a s g h parts) is f = is
only_hom (claim.Translate which n a c rows) is f = is
only_hom (claim.AlmostSplit n e a g h c l phi left middle) is f = is

-- ---- the Hom claim that is named

module _ (report : Report) (is : IsReport report) (m c x y : ℕ) (rows ideal : PlainMatrix) (power : ℕ) (named : NamesClaim report.records c) (e : claim_of report.records c ≡ claim.Hom x y rows) where
  pub hom_named : IsHomBlock report.header report.records x y rows
  hom_named =
      let r = record_there report.records c named in
      hom_in_whole report.header c report.records x y rows
      (subst (IsClaimBlock report.header (take c report.records)) (sym (ap claim_in r.1) ∙ e) (record_lawful report is c r.0 r.1).claim)

  pub few_rows : rows.row_count ≤ rows.col_count
  few_rows = subst (λ n. rows.row_count ≤ n) (sym hom_named.are_rows.shape.col_count) hom_named.are_rows.few

  pub few_unknowns : rows.col_count ≤ unknown_limit
  few_unknowns = subst (λ n. n ≤ unknown_limit) (sym hom_named.are_rows.shape.col_count) hom_named.small

  pub rows_of_families : (mm : Module) → mm ≡ module_of report.records m → (x ≡ m) × (y ≡ m) → rows.col_count ≡ (families_of report.header mm).size
  rows_of_families mm em both =
      unknowns_are report.header report.records x y rows.col_count mm mm hom_named.are_rows.shape.col_count
      (em ∙ ap (module_of report.records) (sym both.0)) (em ∙ ap (module_of report.records) (sym both.1))

  pub ideal_columns : AreRows report.header (rows_in report.header.field (claim_of report.records c)).row_count ideal → ideal.col_count ≡ rows.row_count
  ideal_columns a = a.shape.col_count ∙ ap (λ (z : Claim). (rows_in report.header.field z).row_count) e

  pub ideal_few : AreRows report.header (rows_in report.header.field (claim_of report.records c)).row_count ideal → ideal.row_count ≤ rows.row_count
  ideal_few a = subst (λ n. ideal.row_count ≤ n) (ap (λ (z : Claim). (rows_in report.header.field z).row_count) e) a.few

pub local_room : (n : ℕ) (bytes numbers : List ℕ) (m c : ℕ) (ideal : PlainMatrix) (power : ℕ) (residue : Residue) → n ≤ unknown_limit
    → HasClaimRoom (claim.Local m c ideal power residue) bytes numbers → HasLocalRoom n bytes numbers
local_room n bytes numbers m c ideal power residue l room =
    let s : n * n ≤ 1048576 = mul-le-mul l l in
    let b : 4200448 ≤ length bytes = room.bytes_there in
    let k : 4608 ≤ length numbers = room.numbers_there in
    record { bytes_there = omega (arith, s, l, b); numbers_there = omega (arith, l, k) }

-- ---- the answer

module _ (h : Header) (rs : List Record) (m c x y : ℕ) (rows ideal : PlainMatrix) (power : ℕ) (residue : Residue) (e : claim_of rs c ≡ claim.Hom x y rows) where
  pub not_of_module : ¬ ((x ≡ m) × (y ≡ m)) → IsAnswer (local_conditions (IsHomOf (claim_of rs c) m m) h (module_of rs m) (rows_in h.field (claim_of rs c)) ideal power residue) (Some clause.Objects)
  not_of_module f = (0, (refl, λ n. f (subst (λ z. IsHomOf z m m) e n)))

  pub local_answer : (mm : Module) (r : Option Clause) → mm ≡ module_of rs m → (x ≡ m) × (y ≡ m) → IsAnswer (local_conditions ⊤ h mm rows ideal power residue) r
      → IsAnswer (local_conditions (IsHomOf (claim_of rs c) m m) h (module_of rs m) (rows_in h.field (claim_of rs c)) ideal power residue) r
  local_answer mm r em both a =
      let a1 = subst (λ n. IsAnswer (local_conditions ⊤ h n rows ideal power residue) r) em a in
      let a2 : IsAnswer (local_conditions (IsHomOf (claim.Hom x y rows) m m) h (module_of rs m) rows ideal power residue) r =
      named_for clause.Objects (behind_first (local_conditions ⊤ h (module_of rs m) rows ideal power residue)) (IsHomOf (claim.Hom x y rows) m m) r both a1 in
      subst (λ z. IsAnswer (local_conditions (IsHomOf z m m) h (module_of rs m) (rows_in h.field z) ideal power residue) r) (sym e) a2

-- ---- over the whole report, and over the records up to the claim

module _ (h : Header) (k : ℕ) (rs : List Record) (m c : ℕ) (ideal : PlainMatrix) (power : ℕ) (b : IsLocalBlock h (take k rs) m c ideal power) where
  pub local_in_whole : IsLocalBlock h rs m c ideal power
  local_in_whole = record {
    is_module = names_module k rs m b.is_module;
    named = names_claim k rs c b.named;
    homs = subst IsHomClaim (claim_in_whole k rs c b.named) b.homs;
    are_rows = subst (λ z. AreRows h (rows_in h.field z).row_count ideal) (claim_in_whole k rs c b.named) b.are_rows;
    power_from = b.power_from;
    power_to = b.power_to;
  }

  pub local_at_front : (residue : Residue) (r : Option Clause)
      → IsAnswer (local_conditions (IsHomOf (claim_of rs c) m m) h (module_of rs m) (rows_in h.field (claim_of rs c)) ideal power residue) r
      → IsAnswer (local_conditions (IsHomOf (claim_of (take k rs) c) m m) h (module_of (take k rs) m) (rows_in h.field (claim_of (take k rs) c)) ideal power residue) r
  local_at_front residue r a =
      let a1 = subst (λ z. IsAnswer (local_conditions (IsHomOf z m m) h (module_of rs m) (rows_in h.field z) ideal power residue) r) (whole_claim k rs c b.named) a in
      subst (λ n. IsAnswer (local_conditions (IsHomOf (claim_of (take k rs) c) m m) h n (rows_in h.field (claim_of (take k rs) c)) ideal power residue) r) (whole_module k rs m b.is_module) a1
