-- Decompositions: what the format asks of them over the whole report, the answer on them, and that over the records up to the claim.
use Rattle.std.proofs.Common.{ℕ, ◌≡◌, List, [], ◌∷◌, get_or, refl, sym, ap, ◌∙◌, subst}
use Rattle.std.specs.Prelude.{⊤, Option, All, take}
use Rattle.std.proofs.lemmas.List.Elements.{All-head, All-tail, All-weaker}
use Rattle.path_algebra.specs.declared.Header.{Header}
use Rattle.module_types.specs.declared.Module.{Module}
use Rattle.module_types.specs.declared.Map.{Map}
use Rattle.map_checks.specs.PartLists.{AreModules}
use Rattle.claim_conditions.specs.declared.Clause.{Clause}
use Rattle.claim_conditions.specs.declared.Clause.TheVariants as clause
use Rattle.claim_conditions.specs.Conditions.{IsAnswer}
use Rattle.claim_conditions.specs.Decompositions.{HaveSideOf}
use Rattle.claim_conditions.specs.DecompositionConditions.{decomposition_conditions}
use Rattle.report_types.specs.declared.claims.Claim.{Claim}
use Rattle.report_types.specs.declared.claims.Record.{Record}
use Rattle.report_types.specs.declared.claims.PartClaim.{PartClaim}
use Rattle.report_types.specs.declared.reports.Report.{Report}
use Rattle.report_types.specs.Numbers.{module_of, map_of, claim_of, NamesModule, NamesClaim}
use Rattle.report_types.specs.NamedClaims.{IsLocalClaim, IsLocalOf}
use Rattle.report_types.specs.ClaimBlocks.{IsPart, IsDecompositionBlock}
use Rattle.report_types.specs.Conditions.{Goes, NameParts, parts_of}
use Rattle.report_types.specs.Lawful.{IsModuleBlock, IsReport}
use Rattle.report_types.proofs.Fronts.{claim_in_whole, all_map}
use Rattle.claim_check.specs.NamedParts.{NameModules, AreLocal}
use Rattle.claim_check.proofs.Named.{names_module, names_claim, module_lawful}
use Rattle.claim_check.proofs.WhatNumbersSay.{behind_first, named_swap, goes_over}
use Rattle.claim_check.proofs.ByNumbers.{whole_module, whole_map, whole_claim, both_in_whole}

-- ---- the parts

pub parts_named : (h : Header) (rs : List Record) (parts : List PartClaim) → All (IsPart h rs) parts → NameModules rs parts
parts_named h rs parts a = All-weaker (IsPart h rs) (λ (p : PartClaim). NamesModule rs p.module) (λ p x. x.is_module) parts a

pub parts_claimed : (h : Header) (rs : List Record) (parts : List PartClaim) → All (IsPart h rs) parts → All (λ (p : PartClaim). NamesClaim rs p.local) parts
parts_claimed h rs parts a = All-weaker (IsPart h rs) (λ (p : PartClaim). NamesClaim rs p.local) (λ p x. x.named) parts a

pub parts_lawful : (report : Report) → IsReport report → (parts : List PartClaim) → NameModules report.records parts → AreModules report.header (parts_of report.records parts)
parts_lawful report is parts a = record {
  each = λ i m l.
      all_map (IsModuleBlock report.header) (λ (p : PartClaim). module_of report.records p.module) parts
      (All-weaker (λ (p : PartClaim). NamesModule report.records p.module) (λ (p : PartClaim). IsModuleBlock report.header (module_of report.records p.module))
      (λ p x. module_lawful report is p.module x) parts a) i m l;
}

-- ---- what the numbers say

abbrev conditions_by : (N : Type 0) → Header → List Record → (a s f g : ℕ) → List PartClaim → Option Clause → Type 0
conditions_by N h rs a s f g parts r =
    IsAnswer (decomposition_conditions N h (module_of rs a) (module_of rs s) (parts_of rs parts) (map_of rs f).matrices (map_of rs g).matrices) r

module _ (h : Header) (rs : List Record) (a s f g : ℕ) (parts : List PartClaim) where
  abbrev O : List Module → Type 0
  O ms = HaveSideOf (module_of rs a) (module_of rs s) ms

  pub decomposition_answer : (am sm : Module) (fm gm : Map) (r : Option Clause) → am ≡ module_of rs a → sm ≡ module_of rs s → fm ≡ map_of rs f → gm ≡ map_of rs g
      → Goes rs f s a → Goes rs g a s → AreLocal rs parts → (ms : List Module) → ms ≡ parts_of rs parts
      → IsAnswer (decomposition_conditions ⊤ h am sm ms fm.matrices gm.matrices) r → conditions_by (NameParts rs a s f g parts) h rs a s f g parts r
  decomposition_answer am sm fm gm r ea es ef eg there again local ms em x =
      let x1 = subst (λ m. IsAnswer (decomposition_conditions ⊤ h m sm ms fm.matrices gm.matrices) r) ea x in
      let x2 = subst (λ m. IsAnswer (decomposition_conditions ⊤ h (module_of rs a) m ms fm.matrices gm.matrices) r) es x1 in
      let x3 = subst (λ (m : Map). IsAnswer (decomposition_conditions ⊤ h (module_of rs a) (module_of rs s) ms m.matrices gm.matrices) r) ef x2 in
      let x4 = subst (λ (m : Map). IsAnswer (decomposition_conditions ⊤ h (module_of rs a) (module_of rs s) ms (map_of rs f).matrices m.matrices) r) eg x3 in
      let x5 = subst (λ ps. IsAnswer (decomposition_conditions ⊤ h (module_of rs a) (module_of rs s) ps (map_of rs f).matrices (map_of rs g).matrices) r) em x4 in
      named_swap clause.Objects (behind_first (decomposition_conditions ⊤ h (module_of rs a) (module_of rs s) (parts_of rs parts) (map_of rs f).matrices (map_of rs g).matrices))
      (⊤ × O (parts_of rs parts)) (NameParts rs a s f g parts × O (parts_of rs parts)) r
      (λ p. (record { there = there; again = again; local = local }, p.1)) (λ p. (tt, p.1)) x5

-- ---- over the whole report, and over the records up to the claim

local_over : (c d : Claim) (m : ℕ) → c ≡ d → IsLocalOf c m → IsLocalOf d m
local_over c d m e x = subst (λ y. IsLocalOf y m) e x

module _ (h : Header) (k : ℕ) (rs : List Record) where
  abbrev front : List Record
  front = take k rs

  part_in_whole : (p : PartClaim) → IsPart h front p → IsPart h rs p
  part_in_whole p x = record {
    is_module = names_module k rs p.module x.is_module;
    named = names_claim k rs p.local x.named;
    is_local = subst IsLocalClaim (claim_in_whole k rs p.local x.named) x.is_local;
  }

  pub decomposition_in_whole : (a s f g : ℕ) (parts : List PartClaim) → IsDecompositionBlock h front a s f g parts → IsDecompositionBlock h rs a s f g parts
  decomposition_in_whole a s f g parts x = record {
    whole = both_in_whole h k rs a f x.whole;
    sum = both_in_whole h k rs s g x.sum;
    each = All-weaker (IsPart h front) (IsPart h rs) part_in_whole parts x.each;
  }

  same_parts : (parts : List PartClaim) → All (IsPart h front) parts → parts_of rs parts ≡ parts_of front parts
  same_parts [] a = refl
  same_parts (p ∷ ps) a =
      ap (λ (m : Module). m ∷ parts_of rs ps) (whole_module k rs p.module (All-head (IsPart h front) p ps a).is_module)
      ∙ ap (λ ms. module_of front p.module ∷ ms) (same_parts ps (All-tail (IsPart h front) p ps a))

  module _ (a s f g : ℕ) (parts : List PartClaim) (x : IsDecompositionBlock h front a s f g parts) where
    names_there : NameParts rs a s f g parts → NameParts front a s f g parts
    names_there n = record {
      there = goes_over rs front f s a (whole_map k rs f x.whole.is_map) n.there;
      again = goes_over rs front g a s (whole_map k rs g x.sum.is_map) n.again;
      local = λ i d l. local_over (claim_of rs (get_or parts i d).local) (claim_of front (get_or parts i d).local) (get_or parts i d).module (whole_claim k rs (get_or parts i d).local (x.each i d l).named) (n.local i d l);
    }

    names_back : NameParts front a s f g parts → NameParts rs a s f g parts
    names_back n = record {
      there = goes_over front rs f s a (sym (whole_map k rs f x.whole.is_map)) n.there;
      again = goes_over front rs g a s (sym (whole_map k rs g x.sum.is_map)) n.again;
      local = λ i d l. local_over (claim_of front (get_or parts i d).local) (claim_of rs (get_or parts i d).local) (get_or parts i d).module (sym (whole_claim k rs (get_or parts i d).local (x.each i d l).named)) (n.local i d l);
    }

    pub decomposition_at_front : (r : Option Clause) → conditions_by (NameParts rs a s f g parts) h rs a s f g parts r → conditions_by (NameParts front a s f g parts) h front a s f g parts r
    decomposition_at_front r y =
        let N = NameParts front a s f g parts in
        let y1 = named_swap clause.Objects
        (behind_first (decomposition_conditions ⊤ h (module_of rs a) (module_of rs s) (parts_of rs parts) (map_of rs f).matrices (map_of rs g).matrices))
        (NameParts rs a s f g parts × HaveSideOf (module_of rs a) (module_of rs s) (parts_of rs parts)) (N × HaveSideOf (module_of rs a) (module_of rs s) (parts_of rs parts)) r
        (λ p. (names_there p.0, p.1)) (λ p. (names_back p.0, p.1)) y in
        let y2 = subst (λ m. IsAnswer (decomposition_conditions N h m (module_of rs s) (parts_of rs parts) (map_of rs f).matrices (map_of rs g).matrices) r) (whole_module k rs a x.whole.is_module) y1 in
        let y3 = subst (λ m. IsAnswer (decomposition_conditions N h (module_of front a) m (parts_of rs parts) (map_of rs f).matrices (map_of rs g).matrices) r) (whole_module k rs s x.sum.is_module) y2 in
        let y4 = subst (λ ps. IsAnswer (decomposition_conditions N h (module_of front a) (module_of front s) ps (map_of rs f).matrices (map_of rs g).matrices) r) (same_parts parts x.each) y3 in
        let y5 = subst (λ (m : Map). IsAnswer (decomposition_conditions N h (module_of front a) (module_of front s) (parts_of front parts) m.matrices (map_of rs g).matrices) r) (whole_map k rs f x.whole.is_map) y4 in
        subst (λ (m : Map). IsAnswer (decomposition_conditions N h (module_of front a) (module_of front s) (parts_of front parts) (map_of front f).matrices m.matrices) r) (whole_map k rs g x.sum.is_map) y5
