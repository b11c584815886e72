use Rattle.module_types.proofs.TermMatrices.{hom_of_rows-at, rows_along-row, rows_read, component-mat}
use Rattle.module_types.proofs.laws.terms.rows_of_terms.Goals as goal

pub returns-clause-whole : goal.returns-clause-whole
returns-clause-whole c = λ q A W B k v X M x w. hom_of_rows-at A W B k v X M x w

pub returns-clause-entries : goal.returns-clause-entries
returns-clause-entries c = λ q Q W X k v x w j i z l m. rows_along-row W X k v x w j i z l m

pub returns-clause-read : goal.returns-clause-read
returns-clause-read c = λ q Q W k v X x w rows g e. rows_read W k v X x w rows g e

pub returns-clause-arrows : goal.returns-clause-arrows
returns-clause-arrows c = λ q Q W k v i a y. component-mat W k v i a y
