use Rattle.module_types.proofs.Flattening.{flat-hom_by, flat_family-at, flat_read, family_of_flat, flat_of_family}
use Rattle.module_types.proofs.laws.modules.flattened_maps.Goals as goal

pub returns-clause-whole : goal.returns-clause-whole
returns-clause-whole c = λ q Q X Y f h. flat-hom_by X Y f h

pub returns-clause-entries : goal.returns-clause-entries
returns-clause-entries c = λ q Q X Y f v i j l m n. flat_family-at X Y f v i j l m n

pub returns-clause-read : goal.returns-clause-read
returns-clause-read c = λ q Q X Y f row r e. flat_read X Y f row r e

pub returns-clause-back : goal.returns-clause-back
returns-clause-back c = λ q Q X Y f v l. family_of_flat X Y f v l

pub returns-clause-forth : goal.returns-clause-forth
returns-clause-forth c = λ q Q X Y x. flat_of_family X Y x
