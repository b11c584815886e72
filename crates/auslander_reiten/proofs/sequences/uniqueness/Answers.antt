-- An endomorphism of the middle term over the right end is an isomorphism.
use Rattle.auslander_reiten.proofs.Uniqueness.{sequences_isomorphic}
use Rattle.auslander_reiten.proofs.sequences.uniqueness.Goals as goal

pub returns : goal.returns
returns c = λ q A L E M L' E' f g S f' g' S'. sequences_isomorphic A f g S f' g' S'
