-- The conditions on claims of each kind, over what their numbers name.
use Rattle.std.proofs.Common.{ℕ, ◌≡◌, List, refl, sym, ap, ◌∙◌, subst}
use Rattle.std.specs.Prelude.{⊤, ◌≤◌, Option, take}
use Rattle.fp_linear.specs.Matrix.{PlainMatrix}
use Rattle.path_algebra.specs.declared.Header.{Header}
use Rattle.representations.specs.HomSpace.{unknowns}
use Rattle.module_types.specs.declared.Side.{Side}
use Rattle.module_types.specs.declared.Side.TheVariants.{Right, Left}
use Rattle.module_types.specs.declared.Module.{Module}
use Rattle.module_types.specs.declared.Map.{Map}
use Rattle.module_types.specs.Algebras.{algebra_at}
use Rattle.module_types.specs.Readings.{dim_at, rep_of, read, read_beside}
use Rattle.claim_conditions.specs.declared.Clause.{Clause}
use Rattle.claim_conditions.specs.declared.Clause.TheVariants as clause
use Rattle.claim_conditions.specs.Conditions.{IsAnswer}
use Rattle.claim_conditions.specs.HomConditions.{hom_conditions}
use Rattle.claim_conditions.specs.KernelConditions.{kernel_conditions, cokernel_conditions}
use Rattle.claim_conditions.specs.RadicalConditions.{radical_conditions}
use Rattle.report_types.specs.declared.claims.Record.{Record}
use Rattle.report_types.specs.declared.reports.Report.{Report}
use Rattle.report_types.specs.Numbers.{module_of, map_of, claim_of, NamesModule, NamesMap, NamesClaim}
use Rattle.report_types.specs.Limits.{unknown_limit}
use Rattle.report_types.specs.ClaimBlocks.{AreRows, NamesBoth, IsHomBlock, IsKernelBlock, IsRadicalBlock}
use Rattle.report_types.specs.WordDimensions.{unknown_count}
use Rattle.report_types.proofs.Fronts.{module_in_whole, map_in_whole, claim_in_whole}
use Rattle.report_types.specs.Conditions.{Goes}
use Rattle.report_types.specs.Lawful.{IsMapBlock, IsReport}
use Rattle.claim_check.proofs.Named.{names_module, names_map, map_lawful}
use Rattle.claim_check.proofs.WhatNumbersSay.{named_for, behind_first}

-- ---- maps

module _ (report : Report) (is : IsReport report) (f : ℕ) (named : NamesMap report.records f) (fm : Map) (e : fm ≡ map_of report.records f) where
  pub map_block : IsMapBlock report.header report.records fm
  map_block = subst (IsMapBlock report.header report.records) (sym e) (map_lawful report is f named)

  pub names_source : NamesModule report.records fm.source
  names_source = map_block.source

  pub names_target : NamesModule report.records fm.target
  names_target = map_block.target

-- the ends of a map that goes from module n to module s
module _ (rs : List Record) (i n s : ℕ) (im : Map) (e : im ≡ map_of rs i) (g : Goes rs i n s) (m : Module) where
  pub source_is : m ≡ module_of rs n → m ≡ module_of rs im.source
  source_is p = p ∙ ap (module_of rs) (sym (ap (λ (x : Map). x.source) e ∙ g.source))

  pub target_is : m ≡ module_of rs s → m ≡ module_of rs im.target
  target_is p = p ∙ ap (module_of rs) (sym (ap (λ (x : Map). x.target) e ∙ g.target))

-- ---- bases of homomorphisms

unknowns_by : (h : Header) (side : Side) (a b : Module) → unknown_count h a b ≡ unknowns (rep_of h.field (algebra_at side h).quiver a) (rep_of h.field (algebra_at side h).quiver b)
unfolding dim_at
unknowns_by h Right a b = refl
unknowns_by h Left a b = refl

pub unknowns_are : (h : Header) (rs : List Record) (a b n : ℕ) (am bm : Module) → n ≡ unknown_count h (module_of rs a) (module_of rs b) → am ≡ module_of rs a → bm ≡ module_of rs b
    → n ≡ unknowns (read h am) (read_beside h am bm)
unknowns_are h rs a b n am bm e p r =
    subst (λ y. n ≡ unknowns (read h am) (read_beside h am y)) (sym r)
    (subst (λ x. n ≡ unknowns (read h x) (read_beside h x (module_of rs b))) (sym p)
    (e ∙ unknowns_by h (module_of rs a).side (module_of rs a) (module_of rs b)))

pub hom_answer : (h : Header) (rs : List Record) (a b : ℕ) (rows : PlainMatrix) (am bm : Module) (r : Option Clause) → am ≡ module_of rs a → bm ≡ module_of rs b
    → IsAnswer (hom_conditions h am bm rows) r → IsAnswer (hom_conditions h (module_of rs a) (module_of rs b) rows) r
hom_answer h rs a b rows am bm r p s x =
    subst (λ y. IsAnswer (hom_conditions h (module_of rs a) y rows) r) s (subst (λ y. IsAnswer (hom_conditions h y bm rows) r) p x)

-- ---- kernels, cokernels and radicals

module _ (h : Header) (rs : List Record) (n f i : ℕ) (nm am bm : Module) (fm im : Map) (r : Option Clause) (en : nm ≡ module_of rs n) (ef : fm ≡ map_of rs f) (ei : im ≡ map_of rs i) (ea : am ≡ module_of rs fm.source) (eb : bm ≡ module_of rs fm.target) where
  pub kernel_answer : Goes rs i n fm.source → IsAnswer (kernel_conditions ⊤ h nm am bm fm.matrices im.matrices) r
      → IsAnswer (kernel_conditions (Goes rs i n (map_of rs f).source) h (module_of rs n) (module_of rs (map_of rs f).source) (module_of rs (map_of rs f).target) (map_of rs f).matrices (map_of rs i).matrices) r
  kernel_answer g x =
      let x1 = subst (λ m. IsAnswer (kernel_conditions ⊤ h m am bm fm.matrices im.matrices) r) en x in
      let x2 = subst (λ m. IsAnswer (kernel_conditions ⊤ h (module_of rs n) m bm fm.matrices im.matrices) r) ea x1 in
      let x3 = subst (λ m. IsAnswer (kernel_conditions ⊤ h (module_of rs n) (module_of rs fm.source) m fm.matrices im.matrices) r) eb x2 in
      let x4 = subst (λ (m : Map). IsAnswer (kernel_conditions ⊤ h (module_of rs n) (module_of rs fm.source) (module_of rs fm.target) fm.matrices m.matrices) r) ei x3 in
      let x5 = subst (λ (m : Map). IsAnswer (kernel_conditions ⊤ h (module_of rs n) (module_of rs m.source) (module_of rs m.target) m.matrices (map_of rs i).matrices) r) ef x4 in
      named_for clause.Objects (behind_first (kernel_conditions ⊤ h (module_of rs n) (module_of rs (map_of rs f).source) (module_of rs (map_of rs f).target) (map_of rs f).matrices (map_of rs i).matrices))
      (Goes rs i n (map_of rs f).source) r (subst (λ (m : Map). Goes rs i n m.source) ef g) x5

  pub cokernel_answer : Goes rs i fm.target n → IsAnswer (cokernel_conditions ⊤ h nm am bm fm.matrices im.matrices) r
      → IsAnswer (cokernel_conditions (Goes rs i (map_of rs f).target n) h (module_of rs n) (module_of rs (map_of rs f).source) (module_of rs (map_of rs f).target) (map_of rs f).matrices (map_of rs i).matrices) r
  cokernel_answer g x =
      let x1 = subst (λ m. IsAnswer (cokernel_conditions ⊤ h m am bm fm.matrices im.matrices) r) en x in
      let x2 = subst (λ m. IsAnswer (cokernel_conditions ⊤ h (module_of rs n) m bm fm.matrices im.matrices) r) ea x1 in
      let x3 = subst (λ m. IsAnswer (cokernel_conditions ⊤ h (module_of rs n) (module_of rs fm.source) m fm.matrices im.matrices) r) eb x2 in
      let x4 = subst (λ (m : Map). IsAnswer (cokernel_conditions ⊤ h (module_of rs n) (module_of rs fm.source) (module_of rs fm.target) fm.matrices m.matrices) r) ei x3 in
      let x5 = subst (λ (m : Map). IsAnswer (cokernel_conditions ⊤ h (module_of rs n) (module_of rs m.source) (module_of rs m.target) m.matrices (map_of rs i).matrices) r) ef x4 in
      named_for clause.Objects (behind_first (cokernel_conditions ⊤ h (module_of rs n) (module_of rs (map_of rs f).source) (module_of rs (map_of rs f).target) (map_of rs f).matrices (map_of rs i).matrices))
      (Goes rs i (map_of rs f).target n) r (subst (λ (m : Map). Goes rs i m.target n) ef g) x5

pub radical_answer : (h : Header) (rs : List Record) (n a i : ℕ) (nm am : Module) (im : Map) (r : Option Clause) → nm ≡ module_of rs n → am ≡ module_of rs a → im ≡ map_of rs i → Goes rs i n a
    → IsAnswer (radical_conditions ⊤ h nm am im.matrices) r → IsAnswer (radical_conditions (Goes rs i n a) h (module_of rs n) (module_of rs a) (map_of rs i).matrices) r
radical_answer h rs n a i nm am im r en ea ei g x =
    let x1 = subst (λ m. IsAnswer (radical_conditions ⊤ h m am im.matrices) r) en x in
    let x2 = subst (λ m. IsAnswer (radical_conditions ⊤ h (module_of rs n) m im.matrices) r) ea x1 in
    let x3 = subst (λ (m : Map). IsAnswer (radical_conditions ⊤ h (module_of rs n) (module_of rs a) m.matrices) r) ei x2 in
    named_for clause.Objects (behind_first (radical_conditions ⊤ h (module_of rs n) (module_of rs a) (map_of rs i).matrices)) (Goes rs i n a) r g x3

-- ---- a claim behind the first: over all records, and over those up to it

pub whole_module : (k : ℕ) (rs : List Record) (n : ℕ) → NamesModule (take k rs) n → module_of rs n ≡ module_of (take k rs) n
whole_module k rs n b = sym (module_in_whole k rs n b)

pub whole_map : (k : ℕ) (rs : List Record) (n : ℕ) → NamesMap (take k rs) n → map_of rs n ≡ map_of (take k rs) n
whole_map k rs n b = sym (map_in_whole k rs n b)

pub whole_claim : (k : ℕ) (rs : List Record) (n : ℕ) → NamesClaim (take k rs) n → claim_of rs n ≡ claim_of (take k rs) n
whole_claim k rs n b = sym (claim_in_whole k rs n b)

module _ (h : Header) (k : ℕ) (rs : List Record) where
  -- what the format asks of a claim
  pub hom_in_whole : (a b : ℕ) (rows : PlainMatrix) → IsHomBlock h (take k rs) a b rows → IsHomBlock h rs a b rows
  hom_in_whole a b rows x =
      let e = module_in_whole k rs a x.first in
      let f = module_in_whole k rs b x.second in
      record {
        first = names_module k rs a x.first;
        second = names_module k rs b x.second;
        small = subst (λ m. unknown_count h m (module_of rs b) ≤ unknown_limit) e (subst (λ m. unknown_count h (module_of (take k rs) a) m ≤ unknown_limit) f x.small);
        are_rows = subst (λ m. AreRows h (unknown_count h m (module_of rs b)) rows) e (subst (λ m. AreRows h (unknown_count h (module_of (take k rs) a) m) rows) f x.are_rows);
      }

  pub both_in_whole : (m f : ℕ) → NamesBoth h (take k rs) m f → NamesBoth h rs m f
  both_in_whole m f x = record { is_module = names_module k rs m x.is_module; is_map = names_map k rs f x.is_map }

  pub kernel_in_whole : (n f i : ℕ) → IsKernelBlock h (take k rs) n f i → IsKernelBlock h rs n f i
  kernel_in_whole n f i x = record { objects = both_in_whole n f x.objects; is_map = names_map k rs i x.is_map }

  pub radical_in_whole : (n a i : ℕ) → IsRadicalBlock h (take k rs) n a i → IsRadicalBlock h rs n a i
  radical_in_whole n a i x = record { objects = both_in_whole n i x.objects; is_module = names_module k rs a x.is_module }

  -- the answer on a claim
  pub hom_at_front : (a b : ℕ) (rows : PlainMatrix) (r : Option Clause) → IsHomBlock h (take k rs) a b rows → IsAnswer (hom_conditions h (module_of rs a) (module_of rs b) rows) r
      → IsAnswer (hom_conditions h (module_of (take k rs) a) (module_of (take k rs) b) rows) r
  hom_at_front a b rows r x y =
      hom_answer h (take k rs) a b rows (module_of rs a) (module_of rs b) r (whole_module k rs a x.first) (whole_module k rs b x.second) y
