-- Term by term.
use Rattle.projectives.proofs.Pairing.{pairing-linear_before, pairing-linear_after, pairing-natural, perfect_after}
use Rattle.projectives.proofs.PairingSides.{pairing-swap, perfect_before, pairing-nakayama}
use Rattle.projectives.proofs.injectivity.pairing_rules.Goals as goal

pub returns-clause-linear_in_first : goal.returns-clause-linear_in_first
returns-clause-linear_in_first c = λ q A T k v X s. pairing-linear_before T k v X s

pub returns-clause-linear_in_second : goal.returns-clause-linear_in_second
returns-clause-linear_in_second c = λ q A T k v X u. pairing-linear_after T k v X u

pub returns-clause-perfect_after : goal.returns-clause-perfect_after
returns-clause-perfect_after c = λ q A T k v X M f L. perfect_after T k v X M f L

pub returns-clause-perfect_before : goal.returns-clause-perfect_before
returns-clause-perfect_before c = λ q A T k v X M f L. perfect_before T k v X M f L

pub returns-clause-natural : goal.returns-clause-natural
returns-clause-natural c = λ q A T k v X Y u f s. pairing-natural T k v X Y u f s

pub returns-clause-adjoint : goal.returns-clause-adjoint
returns-clause-adjoint c = λ q A T k v h w X M d u y. pairing-nakayama T k v h w X M u y d

pub returns-clause-other_side : goal.returns-clause-other_side
returns-clause-other_side c = λ q A T k v X u s. pairing-swap T k v X u s
