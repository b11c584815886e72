use Rattle.standard_modules.proofs.Modules.{projective_total, injective_total}
use Rattle.standard_modules.proofs.SumDimensions.{projectives_total, injectives_total}
use Rattle.standard_modules.proofs.laws.words_count_dimensions.Goals as goal

pub returns-clause-projective : goal.returns-clause-projective
returns-clause-projective c = projective_total

pub returns-clause-injective : goal.returns-clause-injective
returns-clause-injective c = injective_total

pub returns-clause-injectives : goal.returns-clause-injectives
returns-clause-injectives c = injectives_total

pub returns-clause-projectives : goal.returns-clause-projectives
returns-clause-projectives c = projectives_total
