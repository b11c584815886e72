-- By Yoneda's lemma on the other side.
use Rattle.projectives.proofs.DualYoneda.{column-hom_of_columns, hom_of_columns-columns, column-sum, column-multiple, column-natural, part_columns}
use Rattle.projectives.proofs.injectivity.dual_yoneda.Goals as goal

pub returns-clause-columns : goal.returns-clause-columns
returns-clause-columns c = λ q A T k v X M y j h. column-hom_of_columns T k v X M y j h

pub returns-clause-each : goal.returns-clause-each
returns-clause-each c = λ q A T k v X M s. hom_of_columns-columns T k v X M s

pub returns-clause-sums : goal.returns-clause-sums
returns-clause-sums c = λ q A T k v X s t j. column-sum T k v X s t j

pub returns-clause-multiples : goal.returns-clause-multiples
returns-clause-multiples c = λ q A T k v X c s j. column-multiple T k v X c s j

pub returns-clause-natural : goal.returns-clause-natural
returns-clause-natural c = λ q A T k v X Y f s j. column-natural T k v X Y f s j

pub returns-clause-entries : goal.returns-clause-entries
returns-clause-entries c = λ q A T k v X M s j w i h. part_columns T k v X M s j w i h
