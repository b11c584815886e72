use Rattle.claim_laws.proofs.HomLaws.{hom_suffices}
use Rattle.claim_laws.proofs.suffice.homs.Goals as goal

pub returns : goal.returns
returns c = hom_suffices
