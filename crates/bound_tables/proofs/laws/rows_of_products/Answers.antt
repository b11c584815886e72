use Rattle.bound_tables.proofs.TableRows.{behind_row, before_row}
use Rattle.bound_tables.proofs.laws.rows_of_products.Goals as goal

pub returns-clause-behind : goal.returns-clause-behind
returns-clause-behind c = λ h words t v a i sources targets row l s b m p. behind_row h words t v a i sources targets row l s b m p

pub returns-clause-before : goal.returns-clause-before
returns-clause-before c = λ h words t v a i targets sources row l b s m p. before_row h words t v a i targets sources row l b s m p
