-- Binomial coefficients and the product of all X − c, computed in each field.
use Rattle.linear_algebra.proofs.Frobenius.{frobenius_sum, frobenius_multiple, product_of_shifts}
use Rattle.linear_algebra.proofs.matrices.frobenius.Goals as goal

pub returns-clause-powers_add : goal.returns-clause-powers_add
returns-clause-powers_add c = λ q n y z e. frobenius_sum y z e

pub returns-clause-multiples : goal.returns-clause-multiples
returns-clause-multiples c = λ q n a y. frobenius_multiple a y

pub returns-clause-roots : goal.returns-clause-roots
returns-clause-roots c = λ q n y e. product_of_shifts y e
