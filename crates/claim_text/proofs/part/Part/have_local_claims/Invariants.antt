use Rattle.std.proofs.Common.{ℕ, ◌<◌, get_or}
use Rattle.report_types.specs.declared.claims.PartClaim.{PartClaim}
use Rattle.report_types.specs.Numbers.{claim_of}
use Rattle.report_types.specs.NamedClaims.{IsLocalClaim}
use Rattle.claim_text.proofs.part.Part.have_local_claims.Given as goal

abbrev pub invariant-loop-part : goal.invariant-loop-part
invariant-loop-part l = (k : ℕ) (d : PartClaim) → k < l.part-index → IsLocalClaim (claim_of l.self.records (get_or l.parts k d).local)
