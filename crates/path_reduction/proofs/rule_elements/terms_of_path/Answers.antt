use Rattle.std.proofs.Common.{◌≡◌, ◌∙◌, ◌++◌, ◌∷◌, [], sym, subst, arith}
use Rattle.std.proofs.lemmas.List.Elements.{same_from_all_zip}
use Rattle.quiver_paths.proofs.PathLemmas.{same_path}
use Rattle.path_algebra.specs.Elements.{path_element}
use Rattle.path_algebra.specs.ElementTerms.{AreTermsOf}
use Rattle.path_reduction.proofs.RuleElements.{path_terms_long, path_terms_short}
use Rattle.path_reduction.proofs.rule_elements.terms_of_path.Goals as goal

pub returns-then-len-header : goal.returns-then-len-header
returns-then-len-header c = subst (AreTermsOf c.args.header.now (path_element c.args.header.now.bound c.args.path.now)) (sym c.new-terms.ensures.items)
    (path_terms_long c.args.header.now c.args.path.now (omega arith))

pub returns : goal.returns
returns c =
    let p = c.args.path.now in
    let copy : c.in_ok-path.path ≡ p = same_path _ _ c.in_ok-path.ensures.cases.0 c.in_ok-path.ensures.cases.1.0 (same_from_all_zip _ _ _ c.in_ok-path.ensures.cases.1.1 (λ x y e. e)) in
    subst (AreTermsOf c.args.header.now (path_element c.args.header.now.bound p)) (sym (c.in_ok-push.ensures.items ∙ (λ i. c.new-terms.ensures.items i ++ record { coef = 1; path = copy i } ∷ [])))
    (path_terms_short c.args.header.now p c.requires (omega arith))
