use Rattle.bound_algebra.proofs.TypedPaths.{arrows_of-path_of, same_arrows, leads_or_zero}
use Rattle.bound_algebra.proofs.algebra.paths_by_arrows.Goals as goal

pub returns-clause-arrows : goal.returns-clause-arrows
returns-clause-arrows c = λ Q v xs w l. arrows_of-path_of Q v xs w l

pub returns-clause-same : goal.returns-clause-same
returns-clause-same c = λ Q v w p r e. same_arrows p r e

pub returns-clause-lead_or_zero : goal.returns-clause-lead_or_zero
returns-clause-lead_or_zero c = λ Q v w p. leads_or_zero Q p
