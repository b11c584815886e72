-- By the arrows that end at a vertex, one over the other.
use Rattle.representations.proofs.RadicalOf.{radical_inclusion, radical_has, radical_within, radical_by_arrows, radical_by_size, radical_size, radical_through}
use Rattle.representations.proofs.radicals.radical_by_embedding.Goals as goal

pub returns-clause-exists : goal.returns-clause-exists
returns-clause-exists c = λ q Q X. radical_inclusion X

pub returns-clause-has : goal.returns-clause-has
returns-clause-has c = λ q Q N X i r w x h. radical_has i r x h

pub returns-clause-is_had : goal.returns-clause-is_had
returns-clause-is_had c = λ q Q N X i r w x s. radical_within i r x s

pub returns-clause-by_arrows : goal.returns-clause-by_arrows
returns-clause-by_arrows c = λ q Q N X i m s h. radical_by_arrows i m s h

pub returns-clause-by_size : goal.returns-clause-by_size
returns-clause-by_size c = λ q Q N X i m h s. radical_by_size i m h s

pub returns-clause-size : goal.returns-clause-size
returns-clause-size c = λ q Q N X i r w. radical_size i r w

pub returns-clause-once : goal.returns-clause-once
returns-clause-once c = λ q Q M N X i j r s. radical_through i j r s
