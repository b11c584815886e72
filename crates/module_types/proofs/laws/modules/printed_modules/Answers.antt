use Rattle.module_types.specs.Shapes.{module_shape}
use Rattle.module_types.proofs.Written.{written-rep_of_shape, written-module_shape, shape-small}
use Rattle.module_types.proofs.laws.modules.printed_modules.Goals as goal

pub returns-clause-shape : goal.returns-clause-shape
returns-clause-shape c = λ q Q m s. module_shape s

pub returns-clause-small : goal.returns-clause-small
returns-clause-small c = λ q Q m s h. shape-small q Q m s h

pub returns-clause-write : goal.returns-clause-write
returns-clause-write c = λ q Q m s. written-rep_of_shape q Q m s

pub returns-clause-writing : goal.returns-clause-writing
returns-clause-writing c = λ q Q side X few. written-module_shape side X few
