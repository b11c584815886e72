-- By the kernel of νd.
use Rattle.auslander_reiten.proofs.Translates.{translate_exists, translate_by, nakayama_kernel_module, nakayama_kernel_size}
use Rattle.auslander_reiten.proofs.TranslateUnique.{translates_isomorphic}
use Rattle.auslander_reiten.proofs.translation.translates.Goals as goal

pub returns-clause-exists : goal.returns-clause-exists
returns-clause-exists c = λ q A T M m. translate_exists T M m

pub returns-clause-by_each_presentation : goal.returns-clause-by_each_presentation
returns-clause-by_each_presentation c = λ q A T k v h u M d e p. translate_by T k v h u M d e p

pub returns-clause-modules : goal.returns-clause-modules
returns-clause-modules c = λ q A T k v h u M d e N i t. nakayama_kernel_module T k v h u d i t.kernel

pub returns-clause-sizes : goal.returns-clause-sizes
returns-clause-sizes c = λ q A T k v h u M d e N i t w. nakayama_kernel_size T k v h u d i t.kernel w

pub returns-clause-once : goal.returns-clause-once
returns-clause-once f = λ q A T k v h u l w m z M d c e b N N' i j s t. translates_isomorphic T k v h u l w m z M d c e b i j s t
