use Rattle.std.proofs.Common.{sym, subst}
use Rattle.report_types.specs.NamedClaims.{HasLength}
use Rattle.claim_check.proofs.ResolutionClaims.{only_resolution}
use Rattle.claim_check.proofs.terms.resolution_at.Goals as goal

pub unreachable-requires : goal.unreachable-requires
unreachable-requires c =
    only_resolution c.claim_at-found.result.now c.requires.resolution.0 (subst (λ z. HasLength z c.requires.resolution.0) (sym c.claim_at-found.ensures) c.requires.resolution.1) c.in_default.not-Resolution
