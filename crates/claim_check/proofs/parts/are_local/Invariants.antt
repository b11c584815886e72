use Rattle.report_types.specs.declared.claims.PartClaim.{PartClaim}
use Rattle.report_types.specs.Numbers.{claim_of}
use Rattle.report_types.specs.NamedClaims.{IsLocalOf}
use Rattle.claim_check.proofs.Named.{AllBelow}
use Rattle.claim_check.proofs.parts.are_local.Given as goal

abbrev pub invariant-loop-part : goal.invariant-loop-part
invariant-loop-part l = AllBelow (λ (p : PartClaim). IsLocalOf (claim_of l.report.records p.local) p.module) l.parts l.part-index
