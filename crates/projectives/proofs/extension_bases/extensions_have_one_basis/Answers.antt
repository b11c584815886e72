-- In coordinates.
use Rattle.std.proofs.Common.{refl}
use Rattle.projectives.proofs.Extensions.{extension_exists, extension_by, extension_rows, rows_unique, rows_size, rows_by_size, extension_of_resolution, extension_of_degree_zero}
use Rattle.projectives.proofs.extension_bases.extensions_have_one_basis.Goals as goal

pub returns-clause-exists : goal.returns-clause-exists
returns-clause-exists c = λ q A W B X M j t k v h u f d z. extension_exists A W B X M j t k v h u f d z

pub returns-clause-once : goal.returns-clause-once
returns-clause-once c = λ q A W B X M j t k v h u f d m n E F r s. rows_unique A W B X M j t k v h u f d E F r s

pub returns-clause-size : goal.returns-clause-size
returns-clause-size c = λ q A W B X M j t k v h u f d z e E r. rows_size A W B X M j t k v h u f d z E r

pub returns-clause-by_size : goal.returns-clause-by_size
returns-clause-by_size c = λ q A W B X M j t k v h u f d z e E y r s. rows_by_size A W B X M j t k v h u f d z E y r s

pub returns-clause-rows : goal.returns-clause-rows
returns-clause-rows c = λ q A W B X M j t k v h u f d R. extension_rows A W B X M j t k v h u f d R

pub returns-clause-with_rows : goal.returns-clause-with_rows
returns-clause-with_rows c = λ q A W B X M j t k v h u f d e E b. (extension_by A W B X M j t k v h u f d E b, refl, λ i l. refl)

pub returns-clause-of_resolution : goal.returns-clause-of_resolution
returns-clause-of_resolution c = λ q A W B X M Y R n r. extension_of_resolution A W B X M Y R n r

pub returns-clause-degree_zero : goal.returns-clause-degree_zero
returns-clause-degree_zero c = λ q A W B X M Y R. extension_of_degree_zero A W B X M Y R
