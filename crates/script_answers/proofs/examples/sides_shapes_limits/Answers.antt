use Rattle.std.proofs.Common.{refl}
use Rattle.linear_algebra.specs.Field as field
use Rattle.linear_algebra.specs.Matrix.{◌·◌, made}
use Rattle.linear_algebra.specs.Rows.{entry, list_of}
use Rattle.linear_algebra.specs.Sums.{sum_to}
use Rattle.linear_algebra.specs.Typed.{as_mat}
use Rattle.quiver_paths.specs.Quiver.{source, target}
use Rattle.quiver_paths.specs.PathList.{paths_of_length}
use Rattle.module_types.specs.Readings.{dim_at}
use Rattle.script_answers.proofs.examples.sides_shapes_limits.Goals as goal

pub returns-clause-maps : goal.returns-clause-maps
unfolding dim_at
returns-clause-maps c = (refl, refl, refl)

-- the only entry is 0 along the arrow of A, and 1 along that of B
pub returns-clause-not_hom : goal.returns-clause-not_hom
unfolding dim_at source target as_mat made entry list_of ◌·◌ sum_to field.add field.number field.plus field.polynomial field.coefficients field.mul field.remainder field.times field.multiple field.front field.top
returns-clause-not_hom c = refl

pub returns-clause-shapes : goal.returns-clause-shapes
unfolding dim_at source target paths_of_length
returns-clause-shapes c = (refl, refl, refl, refl, refl)

pub returns-clause-sequences : goal.returns-clause-sequences
unfolding dim_at
returns-clause-sequences c = (refl, refl)
