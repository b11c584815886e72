-- By the first column; the pivots are determined by the span.
use Rattle.linear_algebra.proofs.RowForm.{reduced_form}
use Rattle.linear_algebra.proofs.RowFormUnique.{row_form_unique, reduced_unique}
use Rattle.linear_algebra.proofs.matrices.reduced_row_form.Goals as goal

pub returns-clause-exists : goal.returns-clause-exists
returns-clause-exists c = λ q m n f. reduced_form f

pub returns-clause-unique : goal.returns-clause-unique
returns-clause-unique c = λ q k m n a b p r d e s t. row_form_unique a b p r d e s t

pub returns-clause-unique_list : goal.returns-clause-unique_list
returns-clause-unique_list c = λ q k m n a b g h r t s. reduced_unique q k m n a b g h r t s
