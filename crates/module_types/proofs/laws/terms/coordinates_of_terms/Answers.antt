use Rattle.module_types.proofs.TermCoordinates.{coordinates-of_rows, value-of_row, value_in-at, follow_is, follow_matrix_is, follow-matrix}
use Rattle.module_types.proofs.laws.terms.coordinates_of_terms.Goals as goal

pub returns-clause-of_rows : goal.returns-clause-of_rows
returns-clause-of_rows c = λ q A W B Y M t x. coordinates-of_rows A W B Y M t x

pub returns-clause-of_row : goal.returns-clause-of_row
returns-clause-of_row c = λ q A W B Y M t x j l. value-of_row A W B Y M t x j l

pub returns-clause-places : goal.returns-clause-places
returns-clause-places c = λ q Q Y t x j i l. value_in-at Y t x j i l

pub returns-clause-following : goal.returns-clause-following
returns-clause-following c = λ q A W B Y M t next d printed x. follow_is A W B Y M t next d printed x

pub returns-clause-matrix : goal.returns-clause-matrix
returns-clause-matrix c = λ q A W B Y M t next d printed. follow_matrix_is A W B Y M t next d printed

pub returns-clause-linear : goal.returns-clause-linear
returns-clause-linear c = λ q Q W Y t next x. follow-matrix W Y t next x
