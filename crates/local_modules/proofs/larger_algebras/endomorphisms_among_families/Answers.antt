use Rattle.local_modules.proofs.FamilyEmbedding.{endomorphisms_embedded}
use Rattle.local_modules.proofs.larger_algebras.endomorphisms_among_families.Goals as goal

pub returns : goal.returns
returns c = λ q Q X B. endomorphisms_embedded B
