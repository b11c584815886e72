use Rattle.bound_algebra.proofs.TwoSidedBasis.{right_basis, left_basis, two_sided, two_sided-words, two_sided-other, place-first, opposite_place-first}
use Rattle.bound_algebra.proofs.words.normal_words_are_two_sided.Goals as goal

pub returns-clause-basis : goal.returns-clause-basis
returns-clause-basis c = λ h ok words w. right_basis h ok words w

pub returns-clause-opposite_basis : goal.returns-clause-opposite_basis
returns-clause-opposite_basis c = λ h ok words w. left_basis h ok words w

pub returns-clause-two_sides : goal.returns-clause-two_sides
returns-clause-two_sides c = λ h ok words w. (two_sided h ok words w, two_sided-words h ok words w, two_sided-other h ok words w)

pub returns-clause-trivial_first : goal.returns-clause-trivial_first
returns-clause-trivial_first c = λ h ok words w.
    (two_sided h ok words w, two_sided-words h ok words w, two_sided-other h ok words w, place-first h ok words w, opposite_place-first h ok words w)
