-- What every report obeys that is written or read: the numbers and shapes of the format.
use Rattle.std.specs.Prelude.{ℕ, ⊤, ◌≡◌, ◌<◌, ◌^◌, List, [], length, take, All, Option, None, Some}
use Rattle.path_algebra.specs.declared.Header.{Header}
use Rattle.path_algebra.specs.Allowed.{IsAllowed}
use Rattle.bound_algebra.specs.TypedPaths.{quiver_of}
use Rattle.module_types.specs.declared.Module.{Module}
use Rattle.module_types.specs.declared.Map.{Map}
use Rattle.module_types.specs.Algebras.{algebra_at}
use Rattle.module_types.specs.Shapes.{IsModule, IsMap}
use Rattle.report_types.specs.declared.claims.Claim.{Claim}
use Rattle.report_types.specs.declared.claims.Claim.TheVariants as claim
use Rattle.report_types.specs.declared.claims.Record.{Record}
use Rattle.report_types.specs.declared.reports.Report.{Report}
use Rattle.report_types.specs.Limits.{IsLine}
use Rattle.report_types.specs.Numbers.{modules_of, maps_of, module_of, record_of, NamesModule}
use Rattle.report_types.specs.ClaimBlocks.{IsClaimBlock}
use Rattle.report_types.specs.Ends.{IsEnd}

-- a module over the quiver, on its side
abbrev pub IsModuleBlock : Header → Module → Type 0
IsModuleBlock h m = IsModule h.field (algebra_at m.side h).quiver m

-- A map between modules that stand before it, with a matrix for each vertex. Its ends may have different sides.
pub record IsMapBlock (h : Header) (rs : List Record) (f : Map) : Type 0 where
  pub source : NamesModule rs f.source
  pub target : NamesModule rs f.target
  pub matrices : IsMap h.field (quiver_of h.quiver) (module_of rs f.source) (module_of rs f.target) f.matrices

-- The basis is claim 1 and the only one of its kind, and its record has no objects.
abbrev pub HasItsPlace : List Record → Record → Claim → Type 0
HasItsPlace rs r (claim.Basis words steps rules) = (length rs ≡ 1) × (r.modules ≡ []) × (r.maps ≡ [])
HasItsPlace rs r c = 1 < length rs

-- a record, the last of these
pub record IsRecord (h : Header) (rs : List Record) (r : Record) : Type 0 where
  pub line : IsLine r.line
  pub modules : All (IsModuleBlock h) r.modules
  pub maps : All (IsMapBlock h rs) r.maps
  pub place : HasItsPlace rs r r.claim
  pub claim : IsClaimBlock h rs r.claim

abbrev pub MayBeRecord : Header → List Record → Option Record → Type 0
MayBeRecord h rs None = ⊤
MayBeRecord h rs (Some r) = IsRecord h rs r

-- Each record is read over those up to itself. Claims, modules and maps have numbers below 2^32.
pub record IsReport (report : Report) : Type 0 where
  pub header : IsAllowed report.header
  pub few : length report.records < 2 ^ 32
  pub few_modules : length (modules_of report.records) < 2 ^ 32
  pub few_maps : length (maps_of report.records) < 2 ^ 32
  pub each : (k : ℕ) → MayBeRecord report.header (take k report.records) (record_of report.records k)
  pub ends : IsEnd report.header report.records report.end
