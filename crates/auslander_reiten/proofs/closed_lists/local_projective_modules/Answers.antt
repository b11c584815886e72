use Rattle.auslander_reiten.proofs.ProjectiveMembers.{at_a_vertex, radical_right_almost_split}
use Rattle.auslander_reiten.proofs.closed_lists.local_projective_modules.Goals as goal

pub returns-clause-at_a_vertex : goal.returns-clause-at_a_vertex
returns-clause-at_a_vertex c = λ q A T Y L p. at_a_vertex T L p

pub returns-clause-radical : goal.returns-clause-radical
returns-clause-radical c = λ q A T Y M L p. radical_right_almost_split T M L p
