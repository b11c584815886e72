-- What the claims of a report say.
use Rattle.std.specs.Prelude.{ℕ, ⊤, List, take, All, Option, None, Some}
use Rattle.path_algebra.specs.declared.Header.{Header}
use Rattle.module_types.specs.declared.Map.{Map}
use Rattle.claim_conditions.specs.Modules.{Sides, ModuleHolds, MapHolds}
use Rattle.claim_conditions.specs.Homs.{HomHolds}
use Rattle.claim_conditions.specs.Kernels.{KernelHolds, CokernelHolds}
use Rattle.claim_conditions.specs.Radicals.{RadicalHolds}
use Rattle.claim_conditions.specs.Resolutions.{ResolutionHolds}
use Rattle.claim_conditions.specs.Extensions.{ExtensionHolds}
use Rattle.claim_conditions.specs.Locals.{LocalHolds}
use Rattle.claim_conditions.specs.Decompositions.{DecompositionHolds}
use Rattle.claim_conditions.specs.Translates.{TauHolds, TransposeHolds, TauiHolds}
use Rattle.claim_conditions.specs.Sequences.{SequenceHolds}
use Rattle.report_types.specs.declared.claims.Claim.{Claim}
use Rattle.report_types.specs.declared.claims.Claim.TheVariants as claim
use Rattle.report_types.specs.declared.claims.Translation.TheVariants.{Tau, Transpose, Taui}
use Rattle.report_types.specs.declared.claims.Record.{Record}
use Rattle.report_types.specs.declared.reports.Report.{Report}
use Rattle.report_types.specs.Numbers.{module_of, map_of, record_of, claim_of}
use Rattle.report_types.specs.NamedClaims.{terms_in}
use Rattle.report_types.specs.BasisClaims.{BasisHolds}
use Rattle.report_types.specs.Conditions.{parts_of}

-- map f is a homomorphism between the modules that it names
abbrev pub IsHomomorphism : Header → List Record → Map → Type 0
IsHomomorphism h rs f = MapHolds h (module_of rs f.source) (module_of rs f.target) f.matrices

-- what a claim says, over the records up to its own
abbrev pub ClaimHolds : (h : Header) → Sides h → List Record → Claim → Type 0
ClaimHolds h T rs (claim.Basis words steps rules) = BasisHolds h words rules
ClaimHolds h T rs (claim.Module m) = ModuleHolds h (module_of rs m)
ClaimHolds h T rs (claim.Map f) = IsHomomorphism h rs (map_of rs f)
ClaimHolds h T rs (claim.Hom a b rows) = HomHolds h (module_of rs a) (module_of rs b) rows
ClaimHolds h T rs (claim.Kernel n f i) =
    KernelHolds h (module_of rs n) (module_of rs (map_of rs f).source) (module_of rs (map_of rs f).target) (map_of rs f).matrices (map_of rs i).matrices
ClaimHolds h T rs (claim.Cokernel n f p) =
    CokernelHolds h (module_of rs n) (module_of rs (map_of rs f).source) (module_of rs (map_of rs f).target) (map_of rs f).matrices (map_of rs p).matrices
ClaimHolds h T rs (claim.Radical n a i) = RadicalHolds h (module_of rs n) (module_of rs a) (map_of rs i).matrices
ClaimHolds h T rs (claim.Resolution a n terms) = ResolutionHolds h T (module_of rs a) terms n
ClaimHolds h T rs (claim.Ext n a b rows c) = ExtensionHolds h T (module_of rs a) (module_of rs b) (terms_in (claim_of rs c)) n rows
ClaimHolds h T rs (claim.Local m c ideal power residue) = LocalHolds h (module_of rs m)
ClaimHolds h T rs (claim.Decomposition a s f g parts) =
    DecompositionHolds h (module_of rs a) (module_of rs s) (parts_of rs parts) (map_of rs f).matrices (map_of rs g).matrices
ClaimHolds h T rs (claim.Translate Tau n a c rows) = TauHolds h T (module_of rs n) (module_of rs a) (terms_in (claim_of rs c)) rows
ClaimHolds h T rs (claim.Translate Transpose n a c rows) = TransposeHolds h T (module_of rs n) (module_of rs a) (terms_in (claim_of rs c)) rows
ClaimHolds h T rs (claim.Translate (Taui b) n a c rows) = TauiHolds h T (module_of rs n) (module_of rs a) (module_of rs b) (terms_in (claim_of rs c)) rows
ClaimHolds h T rs (claim.AlmostSplit n e a f g c l phi left middle) =
    SequenceHolds h (module_of rs n) (module_of rs e) (module_of rs a) (map_of rs f).matrices (map_of rs g).matrices

-- A record: each of its modules is a module over the algebra, each of its maps a homomorphism, and its claim holds.
pub record RecordHolds (h : Header) (T : Sides h) (rs : List Record) (r : Record) : Type 0 where
  pub modules : All (ModuleHolds h) r.modules
  pub maps : All (IsHomomorphism h rs) r.maps
  pub claim : ClaimHolds h T rs r.claim

abbrev pub MayHold : (h : Header) → Sides h → List Record → Option Record → Type 0
MayHold h T rs None = ⊤
MayHold h T rs (Some r) = RecordHolds h T rs r

-- claim k of a report holds; where there is no claim k, nothing is said
abbrev pub HoldsOver : (report : Report) → Sides report.header → ℕ → Type 0
HoldsOver report T k = MayHold report.header T (take k report.records) (record_of report.records k)
