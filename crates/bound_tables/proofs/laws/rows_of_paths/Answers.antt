use Rattle.bound_tables.proofs.TableRows.{path_acts, path_acts_left, path_coordinates}
use Rattle.bound_tables.proofs.laws.rows_of_paths.Goals as goal

pub returns-clause-coordinates : goal.returns-clause-coordinates
returns-clause-coordinates c = λ h words t v w p places row vertex runs a f. path_coordinates h words t v w p places row vertex runs a f

pub returns-clause-acts : goal.returns-clause-acts
returns-clause-acts c = λ h words t v w p places row vertex runs a f X M. path_acts h words t v w p places row vertex runs a f X M

pub returns-clause-left_acts : goal.returns-clause-left_acts
returns-clause-left_acts c = λ h words t v w p places row vertex runs a f X M. path_acts_left h words t v w p places row vertex runs a f X M
