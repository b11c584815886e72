use Rattle.std.specs.Prelude.{⊤}
use Rattle.module_types.specs.Algebras.{sided_words}
use Rattle.module_types.specs.Readings.{read}
use Rattle.claim_conditions.specs.Translates.{presentation_of}
use Rattle.claim_laws.proofs.ResolutionLaws.{presentation_holds}
use Rattle.claim_laws.proofs.LocalLaws.{endomorphism_basis, certificate_of, local_suffices}
use Rattle.claim_laws.proofs.SequenceLaws.{local_presentation}
use Rattle.claim_laws.proofs.FunctionalsExist.{functional_exists}
use Rattle.claim_laws.proofs.complete.functionals_exist.Goals as goal

pub returns : goal.returns
returns c = λ h T a terms basis ideal power residue m R k d o.
    let P = presentation_holds (sided_words a.side T) (read h a) terms R in
    functional_exists (sided_words a.side T) (read h a) (presentation_of terms)
    (local_presentation (sided_words a.side T) (presentation_of terms) (read h a) m (local_suffices h a basis ideal ⊤ power residue k d) P o) P o
    (endomorphism_basis h a basis k) (certificate_of h a basis ideal ⊤ power residue k d)
