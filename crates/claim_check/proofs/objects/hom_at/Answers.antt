use Rattle.std.proofs.Common.{sym, subst}
use Rattle.report_types.specs.NamedClaims.{IsHomClaim}
use Rattle.claim_check.proofs.LocalClaims.{only_hom}
use Rattle.claim_check.proofs.objects.hom_at.Goals as goal

pub unreachable-requires : goal.unreachable-requires
unreachable-requires c = only_hom c.claim_at-found.result.now (subst IsHomClaim (sym c.claim_at-found.ensures) c.requires.homs) c.in_default.not-Hom
