use Rattle.module_types.proofs.Presentations.{differential-value, differential-at, transposed_row-entry, transposed_of-at, nakayama_of-at}
use Rattle.module_types.proofs.laws.translates.transposed_maps.Goals as goal

pub returns-clause-values : goal.returns-clause-values
returns-clause-values c = λ q A T p i l. differential-value T p i l

pub returns-clause-matrices : goal.returns-clause-matrices
returns-clause-matrices c = λ q A T p w. differential-at T p w

pub returns-clause-entries : goal.returns-clause-entries
returns-clause-entries c = λ q A T p i j x l m n. transposed_row-entry T p i j x l m n

pub returns-clause-transposed : goal.returns-clause-transposed
returns-clause-transposed c = λ q A T p w. transposed_of-at T p w

pub returns-clause-nakayama : goal.returns-clause-nakayama
returns-clause-nakayama c = λ q A T p w. nakayama_of-at T p w
