-- Where the conditions on claims 1 to k of a report hold, claim k holds.
use Rattle.std.proofs.Common.{ℕ, zero, suc, ◌≡◌, ◌<◌, ◌≤◌, List, [], ◌++◌, length, get_or, Some, None, refl, sym, ap, ◌∙◌, subst, arith}
use Rattle.std.specs.Prelude.{⊤, Option, All, take, map}
use Rattle.std.proofs.lemmas.List.{length-take}
use Rattle.std.proofs.lemmas.List.Elements.{All-nil, All-same, All-weaker}
use Rattle.fp_linear.specs.Matrix.{PlainMatrix}
use Rattle.quiver_paths.specs.declared.Path.{Path}
use Rattle.quiver_paths.specs.Path.{IsPath}
use Rattle.path_algebra.specs.declared.Header.{Header}
use Rattle.path_algebra.specs.declared.rules.Rule.{Rule}
use Rattle.path_algebra.specs.declared.rules.Step.{Step}
use Rattle.path_algebra.specs.Allowed.{IsAllowed}
use Rattle.path_algebra.specs.Words.{IsShortPath, AreNormalWords}
use Rattle.path_algebra.specs.Rules.{AreElementTerms}
use Rattle.path_algebra.specs.BasisClauses.{IsBasisClaim, MeetsClauses}
use Rattle.path_algebra.proofs.ClausesSuffice.{are_sound, words_are_normal, words_are_basis, rules_are_reduced}
use Rattle.module_types.specs.declared.Module.{Module}
use Rattle.module_types.specs.declared.Map.{Map}
use Rattle.claim_conditions.specs.declared.Residue.{Residue}
use Rattle.claim_conditions.specs.Conditions.{AllHold}
use Rattle.claim_conditions.specs.Modules.{Sides, ModuleHolds, MapHolds, PrintedMap}
use Rattle.claim_conditions.specs.HomConditions.{hom_conditions}
use Rattle.claim_conditions.specs.LocalConditions.{local_conditions}
use Rattle.claim_conditions.specs.Resolutions.{ResolutionHolds}
use Rattle.claim_conditions.specs.Locals.{LocalHolds}
use Rattle.claim_laws.proofs.HomLaws.{hom_suffices}
use Rattle.claim_laws.proofs.KernelLaws.{kernel_suffices, cokernel_suffices}
use Rattle.claim_laws.proofs.RadicalLaws.{radical_suffices}
use Rattle.claim_laws.proofs.ResolutionLaws.{resolution_suffices}
use Rattle.claim_laws.proofs.ExtensionLaws.{extension_suffices}
use Rattle.claim_laws.proofs.LocalLaws.{local_suffices}
use Rattle.claim_laws.proofs.DecompositionLaws.{decomposition_suffices}
use Rattle.claim_laws.proofs.TranslateLaws.{tau_suffices, transpose_suffices, taui_suffices}
use Rattle.claim_laws.proofs.SequenceLaws.{sequence_suffices}
use Rattle.report_types.specs.declared.claims.Claim.{Claim}
use Rattle.report_types.specs.declared.claims.Claim.TheVariants as claim
use Rattle.report_types.specs.declared.claims.PartClaim.{PartClaim}
use Rattle.report_types.specs.declared.claims.Translation.TheVariants.{Tau, Transpose, Taui}
use Rattle.report_types.specs.declared.claims.Record.{Record}
use Rattle.report_types.specs.declared.reports.Report.{Report}
use Rattle.report_types.specs.Numbers.{modules_of, maps_of, no_module, no_map, module_of, map_of, record_of, claim_in, claim_of, printed, NamesModule, NamesMap, NamesClaim}
use Rattle.report_types.specs.NamedClaims.{IsHomOf, rows_in, HasLength, IsResolutionOf, terms_in, IsLocalOf, hom_in, ideal_in}
use Rattle.report_types.specs.BasisClaims.{BasisHolds, basis_conditions}
use Rattle.report_types.specs.BasisBlocks.{IsBasisBlock, IsWrittenRule}
use Rattle.report_types.specs.ClaimBlocks.{IsClaimBlock, IsPart}
use Rattle.report_types.specs.WordDimensions.{words_in, printed_words}
use Rattle.report_types.specs.Conditions.{Goes, claim_conditions, before_claim, conditions, conditions_of, parts_of}
use Rattle.report_types.specs.Holding.{IsHomomorphism, ClaimHolds, MayHold, HoldsOver}
use Rattle.report_types.specs.Lawful.{IsMapBlock, HasItsPlace, IsRecord, MayBeRecord, IsReport}
use Rattle.report_types.specs.Verdicts.{sides_by, ConditionsHold}
use Rattle.report_types.proofs.VerdictLaws.{words_of}
use Rattle.report_types.proofs.Fronts.{numbered_all, same_module, record_front, get_there, record_there, named_below, all_modules, all_maps, front_record, all_map, all_of_map}

-- what the format asks of a basis claim is what its conditions presuppose
claim_of_block : (h : Header) (words : List Path) (steps : List Step) (rules : List Rule) → IsBasisBlock h words steps rules → IsBasisClaim h words steps rules
claim_of_block h words steps rules b = record {
  few = b.are_words.few;
  paths = All-weaker (IsShortPath h) (IsPath h.quiver) (λ w s. s.path) words b.are_words.short;
  factors = b.are_steps.factors;
  tips = All-weaker (IsWrittenRule h (length steps)) (λ (r : Rule). IsPath h.quiver r.tip) (λ r w. w.tip) rules b.are_rules.each;
  tails = All-weaker (IsWrittenRule h (length steps)) (λ (r : Rule). AreElementTerms h r.tail.terms) (λ r w. w.tail) rules b.are_rules.each;
}

basis_suffices : (h : Header) (words : List Path) (steps : List Step) (rules : List Rule) → IsAllowed h → IsBasisBlock h words steps rules → AllHold (basis_conditions h words steps rules)
    → BasisHolds h words rules
basis_suffices h words steps rules ok block c =
    let meets : MeetsClauses h words steps rules = record { step = c.0; rule = c.1.0; reduced = c.1.1.0; word = c.1.1.1.0; action = c.1.1.1.1.0 } in
    let sound = are_sound h words steps rules ok (claim_of_block h words steps rules block) meets in
    record {
      normal = words_are_normal h words rules sound;
      basis = words_are_basis h words rules sound;
      reduced = rules_are_reduced h words rules sound;
    }

-- the conditions on a record, apart
record Apart (h : Header) (T : Sides h) (rs : List Record) (r : Record) (c : Claim) : Type 0 where
  modules : All (ModuleHolds h) r.modules
  maps : All (λ (f : PrintedMap). MapHolds h f.source f.target f.matrices) (map (printed rs) r.maps)
  claim : AllHold (claim_conditions h T rs c)

apart : (h : Header) (T : Sides h) (rs : List Record) (r : Record) (c : Claim) → HasItsPlace rs r c → AllHold (before_claim h rs r c ++ claim_conditions h T rs c) → Apart h T rs r c
apart h T rs r (claim.Basis words steps rules) p a = record {
  modules = All-same (ModuleHolds h) r.modules [] p.1 (All-nil (ModuleHolds h));
  maps = All-same (λ (f : PrintedMap). MapHolds h f.source f.target f.matrices) (map (printed rs) r.maps) [] (ap (map (printed rs)) p.2) (All-nil _);
  claim = a;
}
apart h T rs r (claim.Module m) p a = record { modules = a.0; maps = a.1.0; claim = a.1.1 }
apart h T rs r (claim.Map f) p a = record { modules = a.0; maps = a.1.0; claim = a.1.1 }
apart h T rs r (claim.Hom x y rows) p a = record { modules = a.0; maps = a.1.0; claim = a.1.1 }
apart h T rs r (claim.Kernel n f i) p a = record { modules = a.0; maps = a.1.0; claim = a.1.1 }
apart h T rs r (claim.Cokernel n f i) p a = record { modules = a.0; maps = a.1.0; claim = a.1.1 }
apart h T rs r (claim.Radical n x i) p a = record { modules = a.0; maps = a.1.0; claim = a.1.1 }
apart h T rs r (claim.Resolution x n terms) p a = record { modules = a.0; maps = a.1.0; claim = a.1.1 }
apart h T rs r (claim.Ext n x y rows c) p a = record { modules = a.0; maps = a.1.0; claim = a.1.1 }
apart h T rs r (claim.Local m c ideal power residue) p a = record { modules = a.0; maps = a.1.0; claim = a.1.1 }
apart h T rs r (claim.Decomposition x s f g parts) p a = record { modules = a.0; maps = a.1.0; claim = a.1.1 }
apart h T rs r (claim.Translate which n x c rows) p a = record { modules = a.0; maps = a.1.0; claim = a.1.1 }
apart h T rs r (claim.AlmostSplit n e x f g c l phi left middle) p a = record { modules = a.0; maps = a.1.0; claim = a.1.1 }

-- a module that is certified to be local by these rows of homomorphisms and this ideal
record IsCertified (h : Header) (m : Module) (basis ideal : PlainMatrix) : Type 0 where
  homs : AllHold (hom_conditions h m m basis)
  power : ℕ
  residue : Residue
  certificate : AllHold (local_conditions ⊤ h m basis ideal power residue)

certified_local : (h : Header) (m : Module) (basis ideal : PlainMatrix) → IsCertified h m basis ideal → LocalHolds h m
certified_local h m basis ideal c = local_suffices h m basis ideal ⊤ c.power c.residue c.homs c.certificate

module _ (report : Report) (T : Sides report.header) (is : IsReport report) where
  abbrev h : Header
  h = report.header

  abbrev front : ℕ → List Record
  front k = take k report.records

  abbrev HoldUpTo : ℕ → Type 0
  HoldUpTo k = (j : ℕ) → j ≤ k → AllHold (conditions_of report T j)

  up_to : (j k : ℕ) → j ≤ k → HoldUpTo k → HoldUpTo j
  up_to j k l held i m = held i (omega (arith, l, m))

  block_at : (j : ℕ) (r : Record) → record_of report.records j ≡ Some r → IsRecord h (front j) r
  block_at j r e = subst (MayBeRecord h (front j)) e (is.each j)

  apart_at : (k j : ℕ) (r : Record) → HoldUpTo k → j ≤ k → record_of report.records j ≡ Some r → Apart h T (front j) r r.claim
  apart_at k j r held l e = apart h T (front j) r r.claim (block_at j r e).place (subst (λ x. AllHold (conditions h T (front j) x)) e (held j l))

  same : (j k n : ℕ) → j ≤ k → NamesModule (front j) n → module_of (front j) n ≡ module_of (front k) n
  same j k n l b = same_module j k report.records n l b

  -- modules and maps by their numbers
  modules_hold : (k : ℕ) → HoldUpTo k → (n : ℕ) → NamesModule (front k) n → ModuleHolds h (module_of (front k) n)
  modules_hold k held n b = numbered_all (ModuleHolds h) no_module (modules_of (front k)) n b (all_modules (ModuleHolds h) (front k) (λ i r e.
      let s = front_record k report.records i r e in (apart_at k (suc i) r held s.0 s.1).modules))

  map_later : (j k : ℕ) → j ≤ k → (f : Map) → IsMapBlock h (front j) f → IsHomomorphism h (front j) f → IsHomomorphism h (front k) f
  map_later j k l f b m =
      subst (λ x. MapHolds h x (module_of (front k) f.target) f.matrices) (same j k f.source l b.source)
      (subst (λ y. MapHolds h (module_of (front j) f.source) y f.matrices) (same j k f.target l b.target) m)

  maps_here : (k j : ℕ) (r : Record) → HoldUpTo k → j ≤ k → record_of report.records j ≡ Some r → All (IsHomomorphism h (front j)) r.maps
  maps_here k j r held l e = all_of_map (λ (f : PrintedMap). MapHolds h f.source f.target f.matrices) (printed (front j)) r.maps (apart_at k j r held l e).maps

  maps_hold : (k : ℕ) → HoldUpTo k → (n : ℕ) → NamesMap (front k) n → IsHomomorphism h (front k) (map_of (front k) n)
  maps_hold k held n b = numbered_all (IsHomomorphism h (front k)) no_map (maps_of (front k)) n b (all_maps (IsHomomorphism h (front k)) (front k) (λ i r e.
      let s = front_record k report.records i r e in
      λ a d l. map_later (suc i) k s.0 (get_or r.maps a d) ((block_at (suc i) r s.1).maps a d l) (maps_here k (suc i) r held s.0 s.1 a d l)))

  goes : (k : ℕ) → HoldUpTo k → (f a b : ℕ) → NamesMap (front k) f → Goes (front k) f a b
      → MapHolds h (module_of (front k) a) (module_of (front k) b) (map_of (front k) f).matrices
  goes k held f a b n g =
      subst (λ x. MapHolds h (module_of (front k) x) (module_of (front k) b) (map_of (front k) f).matrices) g.source
      (subst (λ y. MapHolds h (module_of (front k) (map_of (front k) f).source) (module_of (front k) y) (map_of (front k) f).matrices) g.target (maps_hold k held f n))

  -- an earlier claim by its number
  record IsEarlier (k c : ℕ) : Type 0 where
    before : c < k
    record_c : Record
    there : record_of report.records c ≡ Some record_c
    claimed : claim_of (front k) c ≡ record_c.claim

  earlier : (k c : ℕ) → NamesClaim (front k) c → IsEarlier k c
  earlier k c n =
      let l = named_below k c report.records n in
      let s = record_there (front k) c n in
      let e = record_front k c report.records (omega (arith, l)) in
      record { before = l; record_c = s.0; there = sym e ∙ s.1; claimed = ap claim_in s.1 }

  later_claim : (j k c : ℕ) → j ≤ k → c ≤ j → claim_of (front j) c ≡ claim_of (front k) c
  later_claim j k c l m = ap claim_in (record_front j c report.records m ∙ sym (record_front k c report.records (omega (arith, l, m))))

  -- resolutions
  resolution_by : (c k a n : ℕ) → c ≤ k → HoldUpTo k → (x : Claim) → AllHold (claim_conditions h T (front c) x) → IsClaimBlock h (front c) x → HasLength x n → IsResolutionOf x a
      → ResolutionHolds h T (module_of (front k) a) (terms_in x) n
  resolution_by c k a n l held (claim.Basis words steps rules) d b e f = absurd e
  resolution_by c k a n l held (claim.Module m) d b e f = absurd e
  resolution_by c k a n l held (claim.Map m) d b e f = absurd e
  resolution_by c k a n l held (claim.Hom x y rows) d b e f = absurd e
  resolution_by c k a n l held (claim.Kernel m x i) d b e f = absurd e
  resolution_by c k a n l held (claim.Cokernel m x i) d b e f = absurd e
  resolution_by c k a n l held (claim.Radical m x i) d b e f = absurd e
  resolution_by c k a n l held (claim.Resolution x m terms) d b e f =
      subst (λ i. ResolutionHolds h T (module_of (front k) a) terms i) e
      (subst (λ z. ResolutionHolds h T (module_of (front k) z) terms m) f
      (subst (λ X. ResolutionHolds h T X terms m) (same c k x l b.named)
      (resolution_suffices h T (module_of (front c) x) terms m (modules_hold c (up_to c k l held) x b.named) d)))
  resolution_by c k a n l held (claim.Ext m x y rows z) d b e f = absurd e
  resolution_by c k a n l held (claim.Local m z ideal power residue) d b e f = absurd e
  resolution_by c k a n l held (claim.Decomposition x s i j parts) d b e f = absurd e
  resolution_by c k a n l held (claim.Translate which m x z rows) d b e f = absurd e
  resolution_by c k a n l held (claim.AlmostSplit m y x i j z w phi left middle) d b e f = absurd e

  resolution_of : (k : ℕ) → HoldUpTo k → (c a n : ℕ) → NamesClaim (front k) c → HasLength (claim_of (front k) c) n → IsResolutionOf (claim_of (front k) c) a
      → ResolutionHolds h T (module_of (front k) a) (terms_in (claim_of (front k) c)) n
  resolution_of k held c a n named e f =
      let s = earlier k c named in
      let l : c ≤ k = let m = s.before in omega (arith, m) in
      subst (λ x. ResolutionHolds h T (module_of (front k) a) (terms_in x) n) (sym s.claimed)
      (resolution_by c k a n l held s.record_c.claim (apart_at k c s.record_c held l s.there).claim (block_at c s.record_c s.there).claim
      (subst (λ x. HasLength x n) s.claimed e) (subst (λ x. IsResolutionOf x a) s.claimed f))

  -- bases of endomorphisms
  hom_by : (c k a : ℕ) → c ≤ k → (x : Claim) → AllHold (claim_conditions h T (front c) x) → IsClaimBlock h (front c) x → IsHomOf x a a
      → AllHold (hom_conditions h (module_of (front k) a) (module_of (front k) a) (rows_in h.field x))
  hom_by c k a l (claim.Basis words steps rules) d b f = absurd f
  hom_by c k a l (claim.Module m) d b f = absurd f
  hom_by c k a l (claim.Map m) d b f = absurd f
  hom_by c k a l (claim.Hom x y rows) d b f =
      let P : ℕ → ℕ → Type 0 = λ u v. AllHold (hom_conditions h (module_of (front k) u) (module_of (front k) v) rows) in
      subst (P a) f.1 (subst (λ u. P u y) f.0
      (subst (λ X. AllHold (hom_conditions h X (module_of (front k) y) rows)) (same c k x l b.first)
      (subst (λ Y. AllHold (hom_conditions h (module_of (front c) x) Y rows)) (same c k y l b.second) d)))
  hom_by c k a l (claim.Kernel m x i) d b f = absurd f
  hom_by c k a l (claim.Cokernel m x i) d b f = absurd f
  hom_by c k a l (claim.Radical m x i) d b f = absurd f
  hom_by c k a l (claim.Resolution x m terms) d b f = absurd f
  hom_by c k a l (claim.Ext m x y rows z) d b f = absurd f
  hom_by c k a l (claim.Local m z ideal power residue) d b f = absurd f
  hom_by c k a l (claim.Decomposition x s i j parts) d b f = absurd f
  hom_by c k a l (claim.Translate which m x z rows) d b f = absurd f
  hom_by c k a l (claim.AlmostSplit m y x i j z w phi left middle) d b f = absurd f

  hom_of : (k : ℕ) → HoldUpTo k → (c a : ℕ) → NamesClaim (front k) c → IsHomOf (claim_of (front k) c) a a
      → AllHold (hom_conditions h (module_of (front k) a) (module_of (front k) a) (rows_in h.field (claim_of (front k) c)))
  hom_of k held c a named f =
      let s = earlier k c named in
      let l : c ≤ k = let m = s.before in omega (arith, m) in
      subst (λ x. AllHold (hom_conditions h (module_of (front k) a) (module_of (front k) a) (rows_in h.field x))) (sym s.claimed)
      (hom_by c k a l s.record_c.claim (apart_at k c s.record_c held l s.there).claim (block_at c s.record_c s.there).claim (subst (λ x. IsHomOf x a a) s.claimed f))

  -- local modules
  abbrev certified : (k m : ℕ) → Claim → Type 0
  certified k m x = IsCertified h (module_of (front k) m) (rows_in h.field (claim_of (front k) (hom_in x))) (ideal_in h.field x)

  local_by : (c k m : ℕ) → c ≤ k → HoldUpTo k → (x : Claim) → AllHold (claim_conditions h T (front c) x) → IsClaimBlock h (front c) x → IsLocalOf x m → certified k m x
  local_by c k m l held (claim.Basis words steps rules) d b f = absurd f
  local_by c k m l held (claim.Module n) d b f = absurd f
  local_by c k m l held (claim.Map n) d b f = absurd f
  local_by c k m l held (claim.Hom x y rows) d b f = absurd f
  local_by c k m l held (claim.Kernel n x i) d b f = absurd f
  local_by c k m l held (claim.Cokernel n x i) d b f = absurd f
  local_by c k m l held (claim.Radical n x i) d b f = absurd f
  local_by c k m l held (claim.Resolution x n terms) d b f = absurd f
  local_by c k m l held (claim.Ext n x y rows z) d b f = absurd f
  local_by c k m l held (claim.Local n z ideal power residue) d b f =
      let there : IsCertified h (module_of (front c) n) (rows_in h.field (claim_of (front c) z)) ideal =
      record { homs = hom_of c (up_to c k l held) z n b.named d.0; power = power; residue = residue; certificate = (tt, d.1) } in
      let below = named_below c z report.records b.named in
      subst (λ a. IsCertified h (module_of (front k) a) (rows_in h.field (claim_of (front k) z)) ideal) f
      (subst (λ X. IsCertified h X (rows_in h.field (claim_of (front k) z)) ideal) (same c k n l b.is_module)
      (subst (λ x. IsCertified h (module_of (front c) n) (rows_in h.field x) ideal) (later_claim c k z l (omega (arith, below))) there))
  local_by c k m l held (claim.Decomposition x s i j parts) d b f = absurd f
  local_by c k m l held (claim.Translate which n x z rows) d b f = absurd f
  local_by c k m l held (claim.AlmostSplit n y x i j z w phi left middle) d b f = absurd f

  local_of : (k : ℕ) → HoldUpTo k → (c m : ℕ) → NamesClaim (front k) c → IsLocalOf (claim_of (front k) c) m → certified k m (claim_of (front k) c)
  local_of k held c m named f =
      let s = earlier k c named in
      let l : c ≤ k = let b = s.before in omega (arith, b) in
      subst (certified k m) (sym s.claimed)
      (local_by c k m l held s.record_c.claim (apart_at k c s.record_c held l s.there).claim (block_at c s.record_c s.there).claim (subst (λ x. IsLocalOf x m) s.claimed f))

  parts_local : (k : ℕ) → HoldUpTo k → (parts : List PartClaim) → All (IsPart h (front k)) parts → All (λ (p : PartClaim). IsLocalOf (claim_of (front k) p.local) p.module) parts
      → All (LocalHolds h) (parts_of (front k) parts)
  parts_local k held parts b f = all_map (LocalHolds h) (λ (p : PartClaim). module_of (front k) p.module) parts (λ i d l.
      certified_local h _ _ _ (local_of k held (get_or parts i d).local (get_or parts i d).module (b i d l).named (f i d l)))

  -- each kind
  holds : (k : ℕ) → HoldUpTo k → (c : Claim) → AllHold (claim_conditions h T (front k) c) → IsClaimBlock h (front k) c → ClaimHolds h T (front k) c
  holds k held (claim.Basis words steps rules) a b = basis_suffices h words steps rules is.header b a
  holds k held (claim.Module m) a b = modules_hold k held m b
  holds k held (claim.Map f) a b = maps_hold k held f b
  holds k held (claim.Hom x y rows) a b = hom_suffices h (module_of (front k) x) (module_of (front k) y) rows a
  holds k held (claim.Kernel n f i) a b = kernel_suffices _ h _ _ _ _ _ (goes k held i n (map_of (front k) f).source b.is_map a.0) (maps_hold k held f b.objects.is_map) a
  holds k held (claim.Cokernel n f p) a b = cokernel_suffices _ h _ _ _ _ _ (maps_hold k held f b.objects.is_map) (goes k held p (map_of (front k) f).target n b.is_map a.0) a
  holds k held (claim.Radical n x i) a b = radical_suffices _ h _ _ _ (goes k held i n x b.objects.is_map a.0) a
  holds k held (claim.Resolution x n terms) a b = resolution_suffices h T (module_of (front k) x) terms n (modules_hold k held x b.named) a
  holds k held (claim.Ext n x y rows c) a b =
      extension_suffices _ h T _ _ _ n rows (modules_hold k held y b.second) (resolution_of k held c x (suc n) b.resolution.named b.resolution.length a.0.0) a
  holds k held (claim.Local m c ideal power residue) a b =
      local_suffices h _ _ ideal (IsHomOf (claim_of (front k) c) m m) power residue (hom_of k held c m b.named a.0) a
  holds k held (claim.Decomposition x s f g parts) a b =
      decomposition_suffices _ h _ _ _ _ _ (goes k held f s x b.whole.is_map a.0.0.there) (goes k held g x s b.sum.is_map a.0.0.again) (parts_local k held parts b.each a.0.0.local) a
  holds k held (claim.Translate Tau n x c rows) a b =
      tau_suffices _ h T _ _ _ rows (resolution_of k held c x 1 b.presentation.resolution.named b.presentation.resolution.length a.0.0) a
  holds k held (claim.Translate Transpose n x c rows) a b =
      transpose_suffices _ h T _ _ _ rows (resolution_of k held c x 1 b.presentation.resolution.named b.presentation.resolution.length a.0.0) a
  holds k held (claim.Translate (Taui y) n x c rows) a b =
      taui_suffices _ h T _ _ _ _ rows (resolution_of k held c y 1 b.presentation.resolution.named b.presentation.resolution.length a.0.0) a
  holds k held (claim.AlmostSplit n e x f g c l phi left middle) a b =
      let s = local_of k held l x b.named a.0.0.certificate in
      sequence_suffices _ ⊤ h T _ _ _ _ _ _ _ _ s.power s.residue (record { functional = phi; left = left; middle = middle }) (modules_hold k held x b.ends)
      (resolution_of k held c x 1 b.presentation.resolution.named b.presentation.resolution.length a.0.0.terms) s.homs s.certificate
      (goes k held f n e b.first.is_map a.0.0.first) (goes k held g e x b.second.is_map a.0.0.second) a

  pub suffices : (k : ℕ) → HoldUpTo k → HoldsOver report T k
  suffices k held = by (record_of report.records k) refl
    where
      by : (x : Option Record) → record_of report.records k ≡ x → MayHold h T (front k) x
      by None e = tt
      by (Some r) e =
          let p = apart_at k k r held (omega arith) e in
          record {
            modules = p.modules;
            maps = maps_here k k r held (omega arith) e;
            claim = holds k held r.claim p.claim (block_at k r e).claim;
          }

-- the words of claim 1
words_by : (h : Header) (T : Sides h) (rs : List Record) (r : Record) (c : Claim) → length rs ≤ 1 → HasItsPlace rs r c → ClaimHolds h T rs c → AreNormalWords h (words_in c)
words_by h T rs r (claim.Basis words steps rules) l p a = a.normal
words_by h T rs r (claim.Module m) l p a = absurd (omega (arith, l, p))
words_by h T rs r (claim.Map f) l p a = absurd (omega (arith, l, p))
words_by h T rs r (claim.Hom x y rows) l p a = absurd (omega (arith, l, p))
words_by h T rs r (claim.Kernel n f i) l p a = absurd (omega (arith, l, p))
words_by h T rs r (claim.Cokernel n f i) l p a = absurd (omega (arith, l, p))
words_by h T rs r (claim.Radical n x i) l p a = absurd (omega (arith, l, p))
words_by h T rs r (claim.Resolution x n terms) l p a = absurd (omega (arith, l, p))
words_by h T rs r (claim.Ext n x y rows c) l p a = absurd (omega (arith, l, p))
words_by h T rs r (claim.Local m c ideal power residue) l p a = absurd (omega (arith, l, p))
words_by h T rs r (claim.Decomposition x s f g parts) l p a = absurd (omega (arith, l, p))
words_by h T rs r (claim.Translate which n x c rows) l p a = absurd (omega (arith, l, p))
words_by h T rs r (claim.AlmostSplit n e x f g c k phi left middle) l p a = absurd (omega (arith, l, p))

pub words_suffice : (report : Report) → IsReport report → 1 ≤ length report.records → ((j : ℕ) → j ≤ 1 → ConditionsHold report j)
    → AreNormalWords report.header (printed_words report.records)
words_suffice report is some held =
    let n = words_of report.header is.header in
    let T = sides_by n in
    let s = get_there report.records zero (omega (arith, some)) in
    let there : record_of report.records 1 ≡ Some s.0 = s.1 in
    let all = subst (MayHold report.header T (take 1 report.records)) there (suffices report T is 1 (λ j l. held j l n)) in
    let block = subst (MayBeRecord report.header (take 1 report.records)) there (is.each 1) in
    let size = length-take 1 report.records in
    subst (λ x. AreNormalWords report.header (words_in (claim_in x))) (sym there)
    (words_by report.header T (take 1 report.records) s.0 s.0.claim (omega (arith, size)) block.place all.claim)
