use Rattle.local_modules.proofs.Annihilators.{annihilator_two_sided, stable_by_basis}
use Rattle.local_modules.proofs.certificates.annihilators.Goals as goal

pub returns-clause-two_sided : goal.returns-clause-two_sided
returns-clause-two_sided c = λ q Q X M v k l W I s a. annihilator_two_sided M v W I s a

pub returns-clause-stable : goal.returns-clause-stable
returns-clause-stable c = λ q Q X M v k W h. stable_by_basis M v W h
