use Rattle.local_modules.proofs.KrullSchmidt.{krull_schmidt}
use Rattle.local_modules.proofs.locality.krull_schmidt.Goals as goal

pub returns : goal.returns
returns c = λ q Q. krull_schmidt
