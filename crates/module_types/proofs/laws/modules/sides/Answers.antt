use Rattle.module_types.proofs.Duals.{other_other, quiver_across, words_across, other_swap}
use Rattle.module_types.proofs.laws.modules.sides.Goals as goal

pub returns-clause-back : goal.returns-clause-back
returns-clause-back c = λ s. other_other s

pub returns-clause-across : goal.returns-clause-across
returns-clause-across c = λ s A. quiver_across s A

pub returns-clause-words : goal.returns-clause-words
returns-clause-words c = λ q A s T. words_across s T

pub returns-clause-exchanged : goal.returns-clause-exchanged
returns-clause-exchanged c = λ q A T. other_swap T
