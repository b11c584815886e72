-- The conditions on the claims of a report, in the order in which they are tried: on what was printed up to the claim, and nothing behind it.
use Rattle.std.specs.Prelude.{ℕ, ◌≡◌, List, [], ◌++◌, map, take, All, Option, None, Some}
use Rattle.path_algebra.specs.declared.Header.{Header}
use Rattle.module_types.specs.declared.Module.{Module}
use Rattle.claim_conditions.specs.Conditions.{Condition}
use Rattle.claim_conditions.specs.Modules.{Sides, object_conditions, module_conditions, map_conditions}
use Rattle.claim_conditions.specs.HomConditions.{hom_conditions}
use Rattle.claim_conditions.specs.KernelConditions.{kernel_conditions, cokernel_conditions}
use Rattle.claim_conditions.specs.RadicalConditions.{radical_conditions}
use Rattle.claim_conditions.specs.ResolutionConditions.{resolution_conditions}
use Rattle.claim_conditions.specs.ExtensionConditions.{extension_conditions}
use Rattle.claim_conditions.specs.LocalConditions.{local_conditions}
use Rattle.claim_conditions.specs.DecompositionConditions.{decomposition_conditions}
use Rattle.claim_conditions.specs.TranslateConditions.{tau_conditions, transpose_conditions, taui_conditions}
use Rattle.claim_conditions.specs.SequenceConditions.{sequence_conditions}
use Rattle.report_types.specs.declared.claims.Claim.{Claim}
use Rattle.report_types.specs.declared.claims.Claim.TheVariants as claim
use Rattle.report_types.specs.declared.claims.PartClaim.{PartClaim}
use Rattle.report_types.specs.declared.claims.Translation.TheVariants.{Tau, Transpose, Taui}
use Rattle.report_types.specs.declared.claims.Record.{Record}
use Rattle.report_types.specs.declared.reports.Report.{Report}
use Rattle.report_types.specs.Numbers.{module_of, map_of, record_of, claim_of, printed}
use Rattle.report_types.specs.NamedClaims.{IsHomOf, rows_in, IsResolutionOf, terms_in, IsLocalOf, hom_in, ideal_in}
use Rattle.report_types.specs.BasisClaims.{basis_conditions}

-- the map f goes from a to b, by their numbers
pub record Goes (records : List Record) (f a b : ℕ) : Type 0 where
  pub source : (map_of records f).source ≡ a
  pub target : (map_of records f).target ≡ b

-- The maps go from the sum to a and back, and each part is claimed to be local.
pub record NameParts (records : List Record) (a sum to back : ℕ) (parts : List PartClaim) : Type 0 where
  pub there : Goes records to sum a
  pub again : Goes records back a sum
  pub local : All (λ (p : PartClaim). IsLocalOf (claim_of records p.local) p.module) parts

-- The resolution is one of a, the certificate is one of a over a Hom claim of a with a, and the maps go from the left end to the middle and on to a.
pub record NameSequence (records : List Record) (left middle a f g resolution local : ℕ) : Type 0 where
  pub terms : IsResolutionOf (claim_of records resolution) a
  pub certificate : IsLocalOf (claim_of records local) a
  pub homs : IsHomOf (claim_of records (hom_in (claim_of records local))) a a
  pub first : Goes records f left middle
  pub second : Goes records g middle a

-- the modules of the parts
abbrev pub parts_of : List Record → List PartClaim → List Module
parts_of records parts = map (λ (p : PartClaim). module_of records p.module) parts

-- on a claim, over the records up to its own
abbrev pub claim_conditions : (h : Header) → Sides h → List Record → Claim → List Condition
claim_conditions h T rs (claim.Basis words steps rules) = basis_conditions h words steps rules
claim_conditions h T rs (claim.Module m) = module_conditions
claim_conditions h T rs (claim.Map f) = map_conditions
claim_conditions h T rs (claim.Hom a b rows) = hom_conditions h (module_of rs a) (module_of rs b) rows
claim_conditions h T rs (claim.Kernel n f i) =
    kernel_conditions (Goes rs i n (map_of rs f).source) h (module_of rs n) (module_of rs (map_of rs f).source) (module_of rs (map_of rs f).target)
    (map_of rs f).matrices (map_of rs i).matrices
claim_conditions h T rs (claim.Cokernel n f p) =
    cokernel_conditions (Goes rs p (map_of rs f).target n) h (module_of rs n) (module_of rs (map_of rs f).source) (module_of rs (map_of rs f).target)
    (map_of rs f).matrices (map_of rs p).matrices
claim_conditions h T rs (claim.Radical n a i) = radical_conditions (Goes rs i n a) h (module_of rs n) (module_of rs a) (map_of rs i).matrices
claim_conditions h T rs (claim.Resolution a n terms) = resolution_conditions h T (module_of rs a) terms n
claim_conditions h T rs (claim.Ext n a b rows c) =
    extension_conditions (IsResolutionOf (claim_of rs c) a) h T (module_of rs a) (module_of rs b) (terms_in (claim_of rs c)) n rows
claim_conditions h T rs (claim.Local m c ideal power residue) =
    local_conditions (IsHomOf (claim_of rs c) m m) h (module_of rs m) (rows_in h.field (claim_of rs c)) ideal power residue
claim_conditions h T rs (claim.Decomposition a s f g parts) =
    decomposition_conditions (NameParts rs a s f g parts) h (module_of rs a) (module_of rs s) (parts_of rs parts) (map_of rs f).matrices (map_of rs g).matrices
claim_conditions h T rs (claim.Translate Tau n a c rows) =
    tau_conditions (IsResolutionOf (claim_of rs c) a) h T (module_of rs n) (module_of rs a) (terms_in (claim_of rs c)) rows
claim_conditions h T rs (claim.Translate Transpose n a c rows) =
    transpose_conditions (IsResolutionOf (claim_of rs c) a) h T (module_of rs n) (module_of rs a) (terms_in (claim_of rs c)) rows
claim_conditions h T rs (claim.Translate (Taui b) n a c rows) =
    taui_conditions (IsResolutionOf (claim_of rs c) b) h T (module_of rs n) (module_of rs a) (module_of rs b) (terms_in (claim_of rs c)) rows
claim_conditions h T rs (claim.AlmostSplit n e a f g c l phi left middle) =
    sequence_conditions (NameSequence rs n e a f g c l) h T (module_of rs n) (module_of rs e) (module_of rs a) (map_of rs f).matrices (map_of rs g).matrices
    (terms_in (claim_of rs c)) (rows_in h.field (claim_of rs (hom_in (claim_of rs l)))) (ideal_in h.field (claim_of rs l))
    (record { functional = phi; left = left; middle = middle })

-- on a record: on a basis its own; else those on the modules and maps of the record, and then those on its claim
abbrev pub before_claim : Header → List Record → Record → Claim → List Condition
before_claim h rs r (claim.Basis words steps rules) = []
before_claim h rs r c = object_conditions h r.modules (map (printed rs) r.maps)

abbrev pub conditions : (h : Header) → Sides h → List Record → Option Record → List Condition
conditions h T rs None = []
conditions h T rs (Some r) = before_claim h rs r r.claim ++ claim_conditions h T rs r.claim

-- on claim k of a report; where there is no claim k, none
abbrev pub conditions_of : (report : Report) → Sides report.header → ℕ → List Condition
conditions_of report T k = conditions report.header T (take k report.records) (record_of report.records k)
