use Rattle.std.specs.Prelude.{⊤}
use Rattle.claim_laws.proofs.SequenceLaws.{sequence_suffices}
use Rattle.claim_laws.proofs.suffice.sequences.Goals as goal

pub returns : goal.returns
returns c = λ h T n e a f g terms basis ideal power residue s. sequence_suffices ⊤ ⊤ h T n e a f g terms basis ideal power residue s
