use Rattle.std.proofs.Common.{sym, subst}
use Rattle.path_algebra.specs.Derivations.{step_element}
use Rattle.path_algebra.specs.ElementTerms.{AreTermsOf}
use Rattle.alg_table.proofs.elements.element_if_used.Goals as goal

pub returns-clause-used : goal.returns-clause-used
returns-clause-used c xs used kept = subst (AreTermsOf c.args.header.now (step_element c.args.header.now xs c.args.step)) (sym c.from_vec.ensures) (c.in_ok-terms.ensures.value xs kept)
