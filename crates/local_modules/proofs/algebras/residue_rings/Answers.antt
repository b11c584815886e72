use Rattle.local_modules.proofs.ResidueRing.{residue, place_no_pivot, places_are_all, class_of, class_unit, class_nilpotent, unit_of_class, nilpotent_of_class}
use Rattle.local_modules.proofs.algebras.residue_rings.Goals as goal

pub returns-clause-exists : goal.returns-clause-exists
returns-clause-exists c = λ q A k I t. residue A I t

pub returns-clause-no_pivot : goal.returns-clause-no_pivot
returns-clause-no_pivot c = λ q A k I pivot d R. place_no_pivot A I pivot d R

pub returns-clause-all_places : goal.returns-clause-all_places
returns-clause-all_places c = λ q A k I pivot d R. places_are_all A I pivot d R

pub returns-clause-invertible : goal.returns-clause-invertible
unfolding class_of
returns-clause-invertible c = λ q A k I R x. class_unit A I R x

pub returns-clause-nilpotent : goal.returns-clause-nilpotent
unfolding class_of
returns-clause-nilpotent c = λ q A k I R x. class_nilpotent A I R x

pub returns-clause-invertible_back : goal.returns-clause-invertible_back
unfolding class_of
returns-clause-invertible_back c = λ q A k I R s v x. unit_of_class A I R s v x

pub returns-clause-nilpotent_back : goal.returns-clause-nilpotent_back
unfolding class_of
returns-clause-nilpotent_back c = λ q A k I R s v x. nilpotent_of_class A I R s v x
