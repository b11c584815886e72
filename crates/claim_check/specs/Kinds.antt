-- Kinds of claims that are checked alike.
use Rattle.std.specs.Prelude.{⊤}
use Rattle.report_types.specs.declared.claims.Claim.{Claim}
use Rattle.report_types.specs.declared.claims.Claim.TheVariants as claim

-- a kernel, a cokernel or a radical, by its map
abbrev pub IsByMap : Claim → Type 0
IsByMap (claim.Kernel n f i) = ⊤
IsByMap (claim.Cokernel n f p) = ⊤
IsByMap (claim.Radical n a i) = ⊤
IsByMap c = ⊥

-- a local module, or a decomposition into such modules
abbrev pub IsOnLocal : Claim → Type 0
IsOnLocal (claim.Local m c ideal power residue) = ⊤
IsOnLocal (claim.Decomposition a s f g parts) = ⊤
IsOnLocal c = ⊥

-- extensions or a translate, over a resolution that is named
abbrev pub IsOverResolution : Claim → Type 0
IsOverResolution (claim.Ext n a b rows c) = ⊤
IsOverResolution (claim.Translate which n a c rows) = ⊤
IsOverResolution c = ⊥

abbrev pub IsSequence : Claim → Type 0
IsSequence (claim.AlmostSplit n e a f g c l phi left middle) = ⊤
IsSequence c = ⊥
