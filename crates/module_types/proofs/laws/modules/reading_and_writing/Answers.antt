use Rattle.module_types.proofs.Written.{rep_of-written, written-rep_of, written-shape}
use Rattle.module_types.proofs.laws.modules.reading_and_writing.Goals as goal

pub returns-clause-read : goal.returns-clause-read
returns-clause-read c = λ q Q side X. rep_of-written side X

pub returns-clause-write : goal.returns-clause-write
returns-clause-write c = λ q Q m s. written-rep_of q Q m s

pub returns-clause-shape : goal.returns-clause-shape
returns-clause-shape c = λ q Q side X h. written-shape side X h
