use Rattle.local_modules.proofs.FrobeniusFields.{frobenius_field}
use Rattle.local_modules.proofs.algebras.frobenius_fields.Goals as goal

pub returns : goal.returns
returns c = λ q A m i v n h. frobenius_field A i m v n h
