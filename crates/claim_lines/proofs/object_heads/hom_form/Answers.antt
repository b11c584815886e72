use Rattle.std.proofs.Common.{[], ◌∷◌, decimal}
use Rattle.claim_lines.proofs.object_heads.hom_form.Goals as goal

pub returns-in_default : goal.returns-in_default
returns-in_default c = λ x is e. c.in_default.ensures (x.0, x.1) (decimal x.2 ∷ []) (is.0, is.1) e
