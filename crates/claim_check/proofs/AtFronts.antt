-- The answer on a claim over all records is that over the records up to it.
use Rattle.std.proofs.Common.{ℕ, ◌≡◌, ◌<◌, List, [], ◌∷◌, ◌++◌, length, Some, None, refl, sym, ap, ◌∙◌, subst, arith}
use Rattle.std.specs.Prelude.{⊤, Option, All, take, map}
use Rattle.std.proofs.lemmas.List.Elements.{All-head, All-tail}
use Rattle.path_algebra.specs.declared.Header.{Header}
use Rattle.module_types.specs.declared.Module.{Module}
use Rattle.module_types.specs.declared.Map.{Map}
use Rattle.claim_conditions.specs.declared.Clause.{Clause}
use Rattle.claim_conditions.specs.declared.Clause.TheVariants as clause
use Rattle.claim_conditions.specs.Conditions.{IsAnswer}
use Rattle.claim_conditions.specs.Modules.{Sides, PrintedMap, object_conditions}
use Rattle.claim_conditions.specs.KernelConditions.{kernel_conditions, cokernel_conditions}
use Rattle.claim_conditions.specs.RadicalConditions.{radical_conditions}
use Rattle.claim_laws.proofs.FirstFailing.{answer_then, answer_before}
use Rattle.report_types.specs.declared.claims.Claim.{Claim}
use Rattle.report_types.specs.declared.claims.Claim.TheVariants as claim
use Rattle.report_types.specs.declared.claims.Record.{Record}
use Rattle.report_types.specs.declared.reports.Report.{Report}
use Rattle.report_types.specs.Numbers.{module_of, map_of, printed}
use Rattle.report_types.specs.ClaimBlocks.{IsKernelBlock, IsRadicalBlock, IsClaimBlock}
use Rattle.report_types.specs.Conditions.{Goes, claim_conditions, before_claim}
use Rattle.report_types.specs.Lawful.{IsMapBlock, HasItsPlace, IsReport}
use Rattle.claim_check.proofs.Named.{map_at_front}
use Rattle.claim_check.proofs.WhatNumbersSay.{behind_first, named_swap, goes_over}
use Rattle.claim_check.proofs.ByNumbers.{whole_module, whole_map, hom_at_front}
use Rattle.claim_check.proofs.DecompositionClaims.{decomposition_at_front}
use Rattle.claim_check.proofs.LocalClaims.{local_at_front}
use Rattle.claim_check.proofs.ResolutionClaims.{resolution_at_front}
use Rattle.claim_check.proofs.TranslateClaims.{extension_at_front, tau_at_front, transpose_at_front, taui_at_front}
use Rattle.claim_check.proofs.SequenceClaims.{sequence_at_front}
use Rattle.report_types.specs.declared.claims.Translation.TheVariants.{Tau, Transpose, Taui}

module _ (report : Report) (is : IsReport report) (k : ℕ) where
  abbrev h : Header
  h = report.header

  abbrev rs : List Record
  rs = report.records

  abbrev front : List Record
  front = take k report.records

  -- ---- kinds of claims

  kernel_at_front : (n f i : ℕ) (r : Option Clause) → IsKernelBlock h front n f i
      → IsAnswer (kernel_conditions (Goes rs i n (map_of rs f).source) h (module_of rs n) (module_of rs (map_of rs f).source) (module_of rs (map_of rs f).target) (map_of rs f).matrices (map_of rs i).matrices) r
      → IsAnswer (kernel_conditions (Goes front i n (map_of front f).source) h (module_of front n) (module_of front (map_of front f).source) (module_of front (map_of front f).target) (map_of front f).matrices (map_of front i).matrices) r
  kernel_at_front n f i r x y =
      let F = map_of front f in
      let b = map_at_front report is k f x.objects.is_map in
      let ei = whole_map k rs i x.is_map in
      let G = Goes front i n F.source in
      let y1 = subst (λ (m : Map). IsAnswer (kernel_conditions (Goes rs i n m.source) h (module_of rs n) (module_of rs m.source) (module_of rs m.target) m.matrices (map_of rs i).matrices) r) (whole_map k rs f x.objects.is_map) y in
      let y2 = named_swap clause.Objects (behind_first (kernel_conditions ⊤ h (module_of rs n) (module_of rs F.source) (module_of rs F.target) F.matrices (map_of rs i).matrices)) (Goes rs i n F.source) G r
      (goes_over rs front i n F.source ei) (goes_over front rs i n F.source (sym ei)) y1 in
      let y3 = subst (λ m. IsAnswer (kernel_conditions G h m (module_of rs F.source) (module_of rs F.target) F.matrices (map_of rs i).matrices) r) (whole_module k rs n x.objects.is_module) y2 in
      let y4 = subst (λ m. IsAnswer (kernel_conditions G h (module_of front n) m (module_of rs F.target) F.matrices (map_of rs i).matrices) r) (whole_module k rs F.source b.source) y3 in
      let y5 = subst (λ m. IsAnswer (kernel_conditions G h (module_of front n) (module_of front F.source) m F.matrices (map_of rs i).matrices) r) (whole_module k rs F.target b.target) y4 in
      subst (λ (m : Map). IsAnswer (kernel_conditions G h (module_of front n) (module_of front F.source) (module_of front F.target) F.matrices m.matrices) r) ei y5

  cokernel_at_front : (n f i : ℕ) (r : Option Clause) → IsKernelBlock h front n f i
      → IsAnswer (cokernel_conditions (Goes rs i (map_of rs f).target n) h (module_of rs n) (module_of rs (map_of rs f).source) (module_of rs (map_of rs f).target) (map_of rs f).matrices (map_of rs i).matrices) r
      → IsAnswer (cokernel_conditions (Goes front i (map_of front f).target n) h (module_of front n) (module_of front (map_of front f).source) (module_of front (map_of front f).target) (map_of front f).matrices (map_of front i).matrices) r
  cokernel_at_front n f i r x y =
      let F = map_of front f in
      let b = map_at_front report is k f x.objects.is_map in
      let ei = whole_map k rs i x.is_map in
      let G = Goes front i F.target n in
      let y1 = subst (λ (m : Map). IsAnswer (cokernel_conditions (Goes rs i m.target n) h (module_of rs n) (module_of rs m.source) (module_of rs m.target) m.matrices (map_of rs i).matrices) r) (whole_map k rs f x.objects.is_map) y in
      let y2 = named_swap clause.Objects (behind_first (cokernel_conditions ⊤ h (module_of rs n) (module_of rs F.source) (module_of rs F.target) F.matrices (map_of rs i).matrices)) (Goes rs i F.target n) G r
      (goes_over rs front i F.target n ei) (goes_over front rs i F.target n (sym ei)) y1 in
      let y3 = subst (λ m. IsAnswer (cokernel_conditions G h m (module_of rs F.source) (module_of rs F.target) F.matrices (map_of rs i).matrices) r) (whole_module k rs n x.objects.is_module) y2 in
      let y4 = subst (λ m. IsAnswer (cokernel_conditions G h (module_of front n) m (module_of rs F.target) F.matrices (map_of rs i).matrices) r) (whole_module k rs F.source b.source) y3 in
      let y5 = subst (λ m. IsAnswer (cokernel_conditions G h (module_of front n) (module_of front F.source) m F.matrices (map_of rs i).matrices) r) (whole_module k rs F.target b.target) y4 in
      subst (λ (m : Map). IsAnswer (cokernel_conditions G h (module_of front n) (module_of front F.source) (module_of front F.target) F.matrices m.matrices) r) ei y5

  radical_at_front : (n a i : ℕ) (r : Option Clause) → IsRadicalBlock h front n a i → IsAnswer (radical_conditions (Goes rs i n a) h (module_of rs n) (module_of rs a) (map_of rs i).matrices) r
      → IsAnswer (radical_conditions (Goes front i n a) h (module_of front n) (module_of front a) (map_of front i).matrices) r
  radical_at_front n a i r x y =
      let ei = whole_map k rs i x.objects.is_map in
      let G = Goes front i n a in
      let y1 = named_swap clause.Objects (behind_first (radical_conditions ⊤ h (module_of rs n) (module_of rs a) (map_of rs i).matrices)) (Goes rs i n a) G r (goes_over rs front i n a ei) (goes_over front rs i n a (sym ei)) y in
      let y2 = subst (λ m. IsAnswer (radical_conditions G h m (module_of rs a) (map_of rs i).matrices) r) (whole_module k rs n x.objects.is_module) y1 in
      let y3 = subst (λ m. IsAnswer (radical_conditions G h (module_of front n) m (map_of rs i).matrices) r) (whole_module k rs a x.is_module) y2 in
      subst (λ (m : Map). IsAnswer (radical_conditions G h (module_of front n) (module_of front a) m.matrices) r) ei y3

  module _ (T : Sides report.header) where
    pub kind_at_front : (c : Claim) (r : Option Clause) → IsClaimBlock h front c → IsAnswer (claim_conditions h T rs c) r → IsAnswer (claim_conditions h T front c) r
    kind_at_front (claim.Basis words steps rules) r x y = y
    kind_at_front (claim.Module m) r x y = y
    kind_at_front (claim.Map f) r x y = y
    kind_at_front (claim.Hom a b rows) r x y = hom_at_front h k rs a b rows r x y
    kind_at_front (claim.Kernel n f i) r x y = kernel_at_front n f i r x y
    kind_at_front (claim.Cokernel n f i) r x y = cokernel_at_front n f i r x y
    kind_at_front (claim.Radical n a i) r x y = radical_at_front n a i r x y
    kind_at_front (claim.Resolution a n terms) r x y = resolution_at_front h T k rs a n terms r x y
    kind_at_front (claim.Ext n a b rows c) r x y = extension_at_front h T k rs r n a b rows c x y
    kind_at_front (claim.Local m c ideal power residue) r x y = local_at_front h k rs m c ideal power x residue r y
    kind_at_front (claim.Decomposition a s f g parts) r x y = decomposition_at_front h k rs a s f g parts x r y
    kind_at_front (claim.Translate Tau n a c rows) r x y = tau_at_front h T k rs r n a c rows x y
    kind_at_front (claim.Translate Transpose n a c rows) r x y = transpose_at_front h T k rs r n a c rows x y
    kind_at_front (claim.Translate (Taui b) n a c rows) r x y = taui_at_front h T k rs r n a b c rows x y
    kind_at_front (claim.AlmostSplit n e a f g c l phi left middle) r x y =
        sequence_at_front report is k n e a f g c l phi left middle x T record { functional = phi; left = left; middle = middle } r y

    -- ---- the objects of the record before the claim

    pub objects_fail : (item : Record) (c : Claim) (w : Clause) → 1 < length front → HasItsPlace front item c → IsAnswer (object_conditions h item.modules (map (printed front) item.maps)) (Some w)
        → IsAnswer (before_claim h front item c ++ claim_conditions h T front c) (Some w)
    objects_fail item (claim.Basis words steps rules) w l p a = absurd (let e = p.0 in omega (arith, e, l))
    objects_fail item (claim.Module m) w l p a = answer_before (object_conditions h item.modules (map (printed front) item.maps)) [] w a
    objects_fail item (claim.Map f) w l p a = answer_before (object_conditions h item.modules (map (printed front) item.maps)) [] w a
    objects_fail item (claim.Hom x y rows) w l p a = answer_before (object_conditions h item.modules (map (printed front) item.maps)) (claim_conditions h T front (claim.Hom x y rows)) w a
    objects_fail item (claim.Kernel n f i) w l p a = answer_before (object_conditions h item.modules (map (printed front) item.maps)) (claim_conditions h T front (claim.Kernel n f i)) w a
    objects_fail item (claim.Cokernel n f i) w l p a = answer_before (object_conditions h item.modules (map (printed front) item.maps)) (claim_conditions h T front (claim.Cokernel n f i)) w a
    objects_fail item (claim.Radical n x i) w l p a = answer_before (object_conditions h item.modules (map (printed front) item.maps)) (claim_conditions h T front (claim.Radical n x i)) w a
    objects_fail item (claim.Resolution x n terms) w l p a = answer_before (object_conditions h item.modules (map (printed front) item.maps)) (claim_conditions h T front (claim.Resolution x n terms)) w a
    objects_fail item (claim.Ext n x y rows c) w l p a = answer_before (object_conditions h item.modules (map (printed front) item.maps)) (claim_conditions h T front (claim.Ext n x y rows c)) w a
    objects_fail item (claim.Local m c ideal power residue) w l p a = answer_before (object_conditions h item.modules (map (printed front) item.maps)) (claim_conditions h T front (claim.Local m c ideal power residue)) w a
    objects_fail item (claim.Decomposition x s f g parts) w l p a = answer_before (object_conditions h item.modules (map (printed front) item.maps)) (claim_conditions h T front (claim.Decomposition x s f g parts)) w a
    objects_fail item (claim.Translate which n x c rows) w l p a = answer_before (object_conditions h item.modules (map (printed front) item.maps)) (claim_conditions h T front (claim.Translate which n x c rows)) w a
    objects_fail item (claim.AlmostSplit n e x f g c m phi left middle) w l p a = answer_before (object_conditions h item.modules (map (printed front) item.maps)) (claim_conditions h T front (claim.AlmostSplit n e x f g c m phi left middle)) w a

    pub objects_hold : (item : Record) (c : Claim) (r : Option Clause) → 1 < length front → HasItsPlace front item c → IsAnswer (object_conditions h item.modules (map (printed front) item.maps)) None
        → IsAnswer (claim_conditions h T front c) r → IsAnswer (before_claim h front item c ++ claim_conditions h T front c) r
    objects_hold item (claim.Basis words steps rules) r l p a b = b
    objects_hold item (claim.Module m) r l p a b = answer_then (object_conditions h item.modules (map (printed front) item.maps)) [] r a b
    objects_hold item (claim.Map f) r l p a b = answer_then (object_conditions h item.modules (map (printed front) item.maps)) [] r a b
    objects_hold item (claim.Hom x y rows) r l p a b = answer_then (object_conditions h item.modules (map (printed front) item.maps)) (claim_conditions h T front (claim.Hom x y rows)) r a b
    objects_hold item (claim.Kernel n f i) r l p a b = answer_then (object_conditions h item.modules (map (printed front) item.maps)) (claim_conditions h T front (claim.Kernel n f i)) r a b
    objects_hold item (claim.Cokernel n f i) r l p a b = answer_then (object_conditions h item.modules (map (printed front) item.maps)) (claim_conditions h T front (claim.Cokernel n f i)) r a b
    objects_hold item (claim.Radical n x i) r l p a b = answer_then (object_conditions h item.modules (map (printed front) item.maps)) (claim_conditions h T front (claim.Radical n x i)) r a b
    objects_hold item (claim.Resolution x n terms) r l p a b = answer_then (object_conditions h item.modules (map (printed front) item.maps)) (claim_conditions h T front (claim.Resolution x n terms)) r a b
    objects_hold item (claim.Ext n x y rows c) r l p a b = answer_then (object_conditions h item.modules (map (printed front) item.maps)) (claim_conditions h T front (claim.Ext n x y rows c)) r a b
    objects_hold item (claim.Local m c ideal power residue) r l p a b =
        answer_then (object_conditions h item.modules (map (printed front) item.maps)) (claim_conditions h T front (claim.Local m c ideal power residue)) r a b
    objects_hold item (claim.Decomposition x s f g parts) r l p a b =
        answer_then (object_conditions h item.modules (map (printed front) item.maps)) (claim_conditions h T front (claim.Decomposition x s f g parts)) r a b
    objects_hold item (claim.Translate which n x c rows) r l p a b =
        answer_then (object_conditions h item.modules (map (printed front) item.maps)) (claim_conditions h T front (claim.Translate which n x c rows)) r a b
    objects_hold item (claim.AlmostSplit n e x f g c m phi left middle) r l p a b =
        answer_then (object_conditions h item.modules (map (printed front) item.maps)) (claim_conditions h T front (claim.AlmostSplit n e x f g c m phi left middle)) r a b

  -- the same objects are printed
  same_printed : (f : Map) → IsMapBlock h front f → printed rs f ≡ printed front f
  same_printed f b =
      let s = whole_module k rs f.source b.source in
      let t = whole_module k rs f.target b.target in
      ap (λ (m : Module). record { source = m; target = module_of rs f.target; matrices = f.matrices }) s
      ∙ ap (λ (m : Module). record { source = module_of front f.source; target = m; matrices = f.matrices }) t

  same_maps : (fs : List Map) → All (IsMapBlock h front) fs → map (printed rs) fs ≡ map (printed front) fs
  same_maps [] a = refl
  same_maps (f ∷ fs) a =
      ap (λ (x : PrintedMap). x ∷ map (printed rs) fs) (same_printed f (All-head (IsMapBlock h front) f fs a))
      ∙ ap (λ xs. printed front f ∷ xs) (same_maps fs (All-tail (IsMapBlock h front) f fs a))

  pub objects_at_front : (item : Record) (r : Option Clause) → All (IsMapBlock h front) item.maps → IsAnswer (object_conditions h item.modules (map (printed rs) item.maps)) r
      → IsAnswer (object_conditions h item.modules (map (printed front) item.maps)) r
  objects_at_front item r b a = subst (λ ms. IsAnswer (object_conditions h item.modules ms) r) (same_maps item.maps b) a
