-- What the parts of a decomposition name.
use Rattle.std.specs.Prelude.{List, All}
use Rattle.report_types.specs.declared.claims.PartClaim.{PartClaim}
use Rattle.report_types.specs.declared.claims.Record.{Record}
use Rattle.report_types.specs.Numbers.{claim_of, NamesModule}
use Rattle.report_types.specs.NamedClaims.{IsLocalOf}

-- each names a module of these records
abbrev pub NameModules : List Record → List PartClaim → Type 0
NameModules records parts = All (λ (p : PartClaim). NamesModule records p.module) parts

-- each names a claim that its module is local
abbrev pub AreLocal : List Record → List PartClaim → Type 0
AreLocal records parts = All (λ (p : PartClaim). IsLocalOf (claim_of records p.local) p.module) parts
