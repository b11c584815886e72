use Rattle.std.proofs.Common.{sym, subst}
use Rattle.report_types.specs.NamedClaims.{IsLocalClaim}
use Rattle.claim_check.proofs.SequenceClaims.{only_local}
use Rattle.claim_check.proofs.sequences.local_at.Goals as goal

pub unreachable-requires : goal.unreachable-requires
unreachable-requires c = only_local c.claim_at-found.result.now (subst IsLocalClaim (sym c.claim_at-found.ensures) c.requires.local) c.in_default.not-Local
