use Rattle.module_types.specs.Algebras.{sided_words}
use Rattle.module_types.specs.Readings.{read, read_beside}
use Rattle.claim_conditions.specs.Translates.{presentation_of}
use Rattle.claim_conditions.specs.LocalConditions.{ring_rows, ideal_rows}
use Rattle.claim_laws.proofs.SequenceConditions.{sequence_meets}
use Rattle.claim_laws.proofs.complete.computed_sequences.Goals as goal

pub returns : goal.returns
returns c = λ h T n e a first second terms basis ideal s sides m o functional i x u r j y v t f g z k d b. (
  (tt, sides),
  sequence_meets (sided_words a.side T) (presentation_of terms) (read_beside h a n) (read_beside h a e) (read h a) m s i j (ring_rows h a basis) (ideal_rows h basis ideal)
      o functional x u r y v t f g first second z k d b,
)
