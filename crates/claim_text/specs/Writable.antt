-- Records of which each line can be written: their lists are short enough for the numbers on the lines. Those of a report are.
use Rattle.std.specs.Prelude.{ℕ, ⊤, ◌<◌, ◌≤◌, ◌^◌, length, All}
use Rattle.module_types.specs.declared.Map.{Map}
use Rattle.module_types.specs.declared.Module.{Module}
use Rattle.report_types.specs.declared.claims.Claim.{Claim}
use Rattle.report_types.specs.declared.claims.Claim.TheVariants as claim
use Rattle.report_types.specs.declared.claims.Record.{Record}

-- matrices for at most so many vertices or arrows
abbrev pub most_matrices : ℕ
most_matrices = 256

abbrev pub IsShortModule : Module → Type 0
IsShortModule m = length m.matrices ≤ most_matrices

abbrev pub IsShortMap : Map → Type 0
IsShortMap f = length f.matrices ≤ most_matrices

abbrev pub IsShortClaim : Claim → Type 0
IsShortClaim (claim.Basis words steps rules) = ⊤
IsShortClaim (claim.Module m) = ⊤
IsShortClaim (claim.Map f) = ⊤
IsShortClaim (claim.Hom a b rows) = ⊤
IsShortClaim (claim.Kernel n f i) = ⊤
IsShortClaim (claim.Cokernel n f p) = ⊤
IsShortClaim (claim.Radical n a i) = ⊤
IsShortClaim (claim.Resolution a n terms) = length terms < 2 ^ 32
IsShortClaim (claim.Ext n a b rows c) = ⊤
IsShortClaim (claim.Local m c ideal power residue) = ⊤
IsShortClaim (claim.Decomposition a s f g parts) = ⊤
IsShortClaim (claim.Translate which n a c rows) = length rows ≤ most_matrices
IsShortClaim (claim.AlmostSplit n e a f g c l phi left middle) = (length left ≤ most_matrices) × (length middle ≤ most_matrices)

pub record IsWritable (r : Record) : Type 0 where
  pub modules : All IsShortModule r.modules
  pub maps : All IsShortMap r.maps
  pub claim : IsShortClaim r.claim

-- claims of a kernel, a cokernel or a radical; of extensions or a translate; of an almost split sequence; of a local module or an almost split sequence
abbrev pub HasShortHead : Claim → Type 0
HasShortHead (claim.Kernel n f i) = ⊤
HasShortHead (claim.Cokernel n f p) = ⊤
HasShortHead (claim.Radical n a i) = ⊤
HasShortHead c = ⊥

abbrev pub HasLongHead : Claim → Type 0
HasLongHead (claim.Ext n a b rows c) = ⊤
HasLongHead (claim.Translate which n a c rows) = ⊤
HasLongHead c = ⊥

abbrev pub IsSequenceClaim : Claim → Type 0
IsSequenceClaim (claim.AlmostSplit n e a f g c l phi left middle) = ⊤
IsSequenceClaim c = ⊥

abbrev pub HasCertificate : Claim → Type 0
HasCertificate (claim.Local m c ideal power residue) = ⊤
HasCertificate (claim.AlmostSplit n e a f g c l phi left middle) = ⊤
HasCertificate c = ⊥
