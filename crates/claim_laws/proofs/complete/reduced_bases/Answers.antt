use Rattle.claim_laws.proofs.HomLaws.{hom_complete}
use Rattle.claim_laws.proofs.complete.reduced_bases.Goals as goal

pub returns : goal.returns
returns c = hom_complete
