-- How reports end.
use Rattle.std.specs.Prelude.{ℕ, ⊤, ◌≡◌, ◌<◌, ◌≤◌, ◌^◌, List, [], ◌∷◌, length}
use Rattle.quiver_paths.specs.declared.names.Suffix.{Suffix}
use Rattle.quiver_paths.specs.declared.names.Suffix.TheVariants as suffix
use Rattle.quiver_paths.specs.declared.Path.{Path}
use Rattle.quiver_paths.specs.Name.{IsName}
use Rattle.quiver_paths.specs.Path.{IsPath, path_length}
use Rattle.quiver_paths.specs.Quiver.{arrow_count}
use Rattle.path_algebra.specs.declared.Header.{Header}
use Rattle.path_algebra.specs.Allowed.{IsArrowName}
use Rattle.path_algebra.specs.Derivations.{IsNumber}
use Rattle.report_types.specs.declared.claims.Record.{Record}
use Rattle.report_types.specs.declared.reports.Why.{Why}
use Rattle.report_types.specs.declared.reports.Why.TheVariants as why
use Rattle.report_types.specs.declared.reports.End.{End}
use Rattle.report_types.specs.declared.reports.End.TheVariants.{Done, Refused}
use Rattle.report_types.specs.Limits.{IsLine, resolution_limit, part_limit}

-- the name of a vertex, of an arrow or of a script alone; or one of a script, which begins with a letter as those of arrows do, with a suffix
abbrev pub IsToken : List ℕ → Suffix → Type 0
IsToken name suffix.Whole = IsName name
IsToken name suffix.Map = IsArrowName name
IsToken name suffix.Inv = IsArrowName name
IsToken name (suffix.Part k) = IsArrowName name × IsNumber part_limit k

-- a path of the quiver with the bound's length
pub record IsBoundPath (h : Header) (p : Path) : Type 0 where
  pub path : IsPath h.quiver p
  pub long : path_length p ≡ h.bound

-- what a report behind a claim may be refused for
abbrev pub IsWhy : Header → Why → Type 0
IsWhy h why.NotBuilt = ⊤
IsWhy h (why.UnknownName token) = IsToken token.name token.suffix
IsWhy h (why.NameTaken name) = IsArrowName name
IsWhy h why.Side = ⊤
IsWhy h why.Shape = ⊤
IsWhy h (why.RelationFails relation) = IsNumber (length h.relations) relation
IsWhy h (why.BoundFails path) = IsBoundPath h path
IsWhy h (why.NotHom arrow) = arrow < arrow_count h.quiver
IsWhy h (why.PathLimit count) = ⊥
IsWhy h (why.DimLimit dim) = dim < 2 ^ 64
IsWhy h (why.HomLimit unknowns) = unknowns < 2 ^ 64
IsWhy h (why.TermLimit step dim) = (step ≤ resolution_limit) × (dim < 2 ^ 64)
IsWhy h (why.DualLimit step dim) = (step ≤ resolution_limit) × (dim < 2 ^ 64)
IsWhy h why.Zero = ⊤
IsWhy h why.Decomposable = ⊤
IsWhy h why.Projective = ⊤

-- a report with a claim ends so
abbrev pub IsFullEnd : Header → End → Type 0
IsFullEnd h Done = ⊤
IsFullEnd h (Refused line w) = IsLine line × IsWhy h w

-- a report without one: too many paths
abbrev pub IsPathLimit : Why → Type 0
IsPathLimit (why.PathLimit count) = count < 2 ^ 64
IsPathLimit w = ⊥

abbrev pub IsEmptyEnd : End → Type 0
IsEmptyEnd Done = ⊥
IsEmptyEnd (Refused line w) = IsLine line × IsPathLimit w

abbrev pub IsEnd : Header → List Record → End → Type 0
IsEnd h [] e = IsEmptyEnd e
IsEnd h (r ∷ rest) e = IsFullEnd h e
