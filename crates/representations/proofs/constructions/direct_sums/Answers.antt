-- By blocks.
use Rattle.representations.proofs.Sums.{first_from_sum, second_from_sum, from_sum_unique, into_sum_first, into_sum_second, into_sum_unique}
use Rattle.representations.proofs.constructions.direct_sums.Goals as goal

pub returns-clause-out_first : goal.returns-clause-out_first
returns-clause-out_first c = λ q Q X Y Z f g. first_from_sum f g

pub returns-clause-out_second : goal.returns-clause-out_second
returns-clause-out_second c = λ q Q X Y Z f g. second_from_sum f g

pub returns-clause-out_once : goal.returns-clause-out_once
returns-clause-out_once c = λ q Q X Y Z h. from_sum_unique X Y h

pub returns-clause-in_first : goal.returns-clause-in_first
returns-clause-in_first c = λ q Q X Y Z f g. into_sum_first f g

pub returns-clause-in_second : goal.returns-clause-in_second
returns-clause-in_second c = λ q Q X Y Z f g. into_sum_second f g

pub returns-clause-in_once : goal.returns-clause-in_once
returns-clause-in_once c = λ q Q X Y Z h. into_sum_unique X Y h
