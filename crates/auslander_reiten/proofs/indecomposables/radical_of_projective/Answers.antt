-- By the entry of the generator.
use Rattle.auslander_reiten.proofs.LocalProjectives.{lifts_to_radical_or_splits, radical_inclusion_not_split}
use Rattle.auslander_reiten.proofs.indecomposables.radical_of_projective.Goals as goal

pub returns-clause-lifts_or_splits : goal.returns-clause-lifts_or_splits
returns-clause-lifts_or_splits c = λ q A W B v i X M h. lifts_to_radical_or_splits A W B v i M h

pub returns-clause-not_split : goal.returns-clause-not_split
returns-clause-not_split c = λ q A X M n s. radical_inclusion_not_split A M n s
