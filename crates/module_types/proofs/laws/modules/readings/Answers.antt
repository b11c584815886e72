use Rattle.module_types.specs.Readings.{dim_past, rep_of, family_of}
use Rattle.module_types.proofs.Written.{dim_at-below}
use Rattle.module_types.proofs.Readings.{outside, rep_of-entry, family_of-entry}
use Rattle.module_types.proofs.laws.modules.readings.Goals as goal

pub returns-clause-dims : goal.returns-clause-dims
returns-clause-dims c = λ q Q m v l. dim_at-below Q m.dims v l

pub returns-clause-past : goal.returns-clause-past
returns-clause-past c = λ q Q m v l. dim_past Q m.dims v l

pub returns-clause-entries : goal.returns-clause-entries
returns-clause-entries c = λ q Q m a i j l n. rep_of-entry q Q m a i j l n

pub returns-clause-outside : goal.returns-clause-outside
returns-clause-outside c = λ q Q m a i j h. outside ((rep_of q Q m).mat a) i j h

pub returns-clause-map_entries : goal.returns-clause-map_entries
returns-clause-map_entries c = λ q Q X Y matrices v i j l n. family_of-entry X Y matrices v i j l n

pub returns-clause-map_outside : goal.returns-clause-map_outside
returns-clause-map_outside c = λ q Q X Y matrices v i j h. outside (family_of X Y matrices v) i j h
