-- By the rows of words.
use Rattle.projectives.proofs.Yoneda.{generator-yoneda, yoneda-generator, yoneda-sum, yoneda-multiple, yoneda-natural}
use Rattle.projectives.proofs.projectivity.yoneda_lemma.Goals as goal

pub returns-clause-value : goal.returns-clause-value
returns-clause-value c = λ q A W B X M v x. generator-yoneda A W B X M v x

pub returns-clause-each : goal.returns-clause-each
returns-clause-each c = λ q A W B X M v f. yoneda-generator A W B X M v f

pub returns-clause-sums : goal.returns-clause-sums
returns-clause-sums c = λ q A W B X M v x y. yoneda-sum A W B X M v x y

pub returns-clause-multiples : goal.returns-clause-multiples
returns-clause-multiples c = λ q A W B X M v c x. yoneda-multiple A W B X M v c x

pub returns-clause-natural : goal.returns-clause-natural
returns-clause-natural c = λ q A W B X Y M N v h x. yoneda-natural A W B X Y M N v h x
