-- By terms: rows along paths.
use Rattle.representations.proofs.Radical.{radical-hom, radical-whole, radical-ends, into_radical_nilpotent}
use Rattle.representations.proofs.radicals.radical_powers.Goals as goal

pub returns-clause-kept : goal.returns-clause-kept
returns-clause-kept c = λ q Q X Y f k w x r. radical-hom f r

pub returns-clause-whole : goal.returns-clause-whole
returns-clause-whole c = λ q Q X w x. radical-whole w x

pub returns-clause-ends : goal.returns-clause-ends
returns-clause-ends c = λ q A X M w x r. radical-ends A M w r

pub returns-clause-nilpotent : goal.returns-clause-nilpotent
returns-clause-nilpotent c = λ q A X M e h. into_radical_nilpotent A M e h
