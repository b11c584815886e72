-- The kernel of the equations, by its size.
use Rattle.std.proofs.Common.{refl}
use Rattle.representations.proofs.HomSpace.{hom_of, flat-hom_of, hom_defects}
use Rattle.representations.proofs.HomsBySize.{hom_basis_by_rank, rank_of_hom_basis, hom_basis_unique, rows_of_hom_basis, hom_basis_of_rows}
use Rattle.representations.proofs.homomorphisms.hom_space_by_size.Goals as goal

pub returns-clause-meets : goal.returns-clause-meets
returns-clause-meets c = λ q Q X Y f. hom_defects X Y f

pub returns-clause-is_met : goal.returns-clause-is_met
returns-clause-is_met c = λ q Q X Y x e. (hom_of X Y x e, flat-hom_of X Y x e)

pub returns-clause-by_size : goal.returns-clause-by_size
returns-clause-by_size c = λ q Q X Y n b p r h s. hom_basis_by_rank X Y b p r h s

pub returns-clause-size : goal.returns-clause-size
returns-clause-size c = λ q Q X Y n b p r h. rank_of_hom_basis X Y b h p r

pub returns-clause-once : goal.returns-clause-once
returns-clause-once c = λ q Q X Y m n a b p r d e s t. hom_basis_unique X Y a b p r d e s t

pub returns-clause-rows : goal.returns-clause-rows
returns-clause-rows c = λ q Q X Y B. rows_of_hom_basis B

pub returns-clause-with_rows : goal.returns-clause-with_rows
returns-clause-with_rows c = λ q Q X Y n b p r h. (hom_basis_of_rows X Y b h p r, refl, λ i j. refl)
