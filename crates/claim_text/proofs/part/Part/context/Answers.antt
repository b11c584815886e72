use Rattle.std.proofs.Common.{sym, subst}
use Rattle.path_algebra.specs.declared.Header.{Header}
use Rattle.header_text.specs.Named.{IsNamed}
use Rattle.claim_text.proofs.part.Part.context.Goals as goal

pub returns-clause-named : goal.returns-clause-named
returns-clause-named c = subst (λ (h : Header). IsNamed h.quiver) (sym c.header-header.ensures.same) c.header-header.ensures.front.named
