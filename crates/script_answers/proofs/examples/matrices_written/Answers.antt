use Rattle.std.proofs.Common.{refl}
use Rattle.linear_algebra.specs.Rows.{list_of, zeros}
use Rattle.fp_linear.specs.Matrix.{zero_rows}
use Rattle.quiver_paths.specs.Quiver.{source, target}
use Rattle.module_types.specs.Readings.{dim_at}
use Rattle.script_answers.proofs.examples.matrices_written.Goals as goal

pub returns-clause-modules : goal.returns-clause-modules
unfolding dim_at source target list_of zeros zero_rows
returns-clause-modules c = (refl, refl)

pub returns-clause-maps : goal.returns-clause-maps
unfolding dim_at list_of zeros zero_rows
returns-clause-maps c = refl
