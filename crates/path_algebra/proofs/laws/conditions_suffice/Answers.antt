use Rattle.path_algebra.proofs.ClausesSuffice.{are_sound, words_are_normal, words_are_basis, rules_are_reduced}
use Rattle.path_algebra.proofs.laws.conditions_suffice.Goals as goal

pub returns-clause-normal : goal.returns-clause-normal
returns-clause-normal c = λ h words steps rules ok claim m. words_are_normal h words rules (are_sound h words steps rules ok claim m)

pub returns-clause-basis : goal.returns-clause-basis
returns-clause-basis c = λ h words steps rules ok claim m. words_are_basis h words rules (are_sound h words steps rules ok claim m)

pub returns-clause-reduced : goal.returns-clause-reduced
returns-clause-reduced c = λ h words steps rules ok claim m. rules_are_reduced h words rules (are_sound h words steps rules ok claim m)
