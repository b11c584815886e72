use Rattle.module_operations.proofs.DeterminedAnswers.{kernels_once, images_once, cokernels_once, radicals_once, tops_once}
use Rattle.module_operations.proofs.laws.answers_are_determined.Goals as goal

pub returns-clause-kernels : goal.returns-clause-kernels
returns-clause-kernels c = kernels_once

pub returns-clause-images : goal.returns-clause-images
returns-clause-images c = images_once

pub returns-clause-cokernels : goal.returns-clause-cokernels
returns-clause-cokernels c = cokernels_once

pub returns-clause-radicals : goal.returns-clause-radicals
returns-clause-radicals c = radicals_once

pub returns-clause-tops : goal.returns-clause-tops
returns-clause-tops c = tops_once
