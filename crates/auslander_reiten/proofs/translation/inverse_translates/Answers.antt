-- By the transpose of the dual.
use Rattle.representations.specs.Dual.{dual}
use Rattle.projectives.specs.TwoSided.{swap}
use Rattle.auslander_reiten.proofs.Translates.{inverse_translate_exists, inverse_translate_module}
use Rattle.auslander_reiten.proofs.TranslateUnique.{transposes_isomorphic}
use Rattle.auslander_reiten.proofs.translation.inverse_translates.Goals as goal

pub returns-clause-exists : goal.returns-clause-exists
returns-clause-exists c = λ q A T X M. inverse_translate_exists T X M

pub returns-clause-modules : goal.returns-clause-modules
returns-clause-modules c = λ q A T X k v h u d p N r t. inverse_translate_module T X k v h u d p r t

pub returns-clause-once : goal.returns-clause-once
returns-clause-once f = λ q A T k v h u l w m z X d c e b N N' p r s t. transposes_isomorphic (swap T) l w m z k v h u (dual X) e b d c r p t s
