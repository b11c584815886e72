-- By the values of the generators.
use Rattle.projectives.proofs.Extensions.{hom-coordinate_row, coordinate_row-hom, coordinate_row-sum, coordinate_row-multiple, coordinate_row-compose, block-compose}
use Rattle.projectives.proofs.extension_bases.coordinates.Goals as goal

pub returns-clause-homs : goal.returns-clause-homs
returns-clause-homs c = λ q A W B X M k v y. hom-coordinate_row A W B X M k v y

pub returns-clause-rows : goal.returns-clause-rows
returns-clause-rows c = λ q A W B X M k v x. coordinate_row-hom A W B X M k v x

pub returns-clause-sums : goal.returns-clause-sums
returns-clause-sums c = λ q A W B X M k v y z. coordinate_row-sum A W B X M k v y z

pub returns-clause-multiples : goal.returns-clause-multiples
returns-clause-multiples c = λ q A W B X M k v a y. coordinate_row-multiple A W B X M k v a y

pub returns-clause-composites : goal.returns-clause-composites
returns-clause-composites c = λ q A W B X M k v h u d y. coordinate_row-compose A W B X M k v h u d y

pub returns-clause-blocks : goal.returns-clause-blocks
returns-clause-blocks c = λ q A W B X k v h u d y i l. block-compose A W B X k v h u d y i l
