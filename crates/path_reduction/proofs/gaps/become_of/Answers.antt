use Rattle.std.proofs.Common.{◌≡◌, ◌∙◌, ◌++◌, ◌∷◌, [], sym, subst, arith}
use Rattle.std.proofs.lemmas.List.Elements.{same_from_all_zip}
use Rattle.quiver_paths.proofs.PathLemmas.{same_path}
use Rattle.path_algebra.specs.Rules.{AreElementTerms}
use Rattle.path_reduction.specs.FirstGaps.{IsBecome}
use Rattle.path_reduction.proofs.Closing.{become_long, become_short, one_path_terms}
use Rattle.path_reduction.proofs.gaps.become_of.Goals as goal

pub returns-then-len-header : goal.returns-then-len-header
returns-then-len-header c = subst (IsBecome c.args.header.now c.args.rules.now c.args.path.now) (sym c.new-terms.ensures.items)
    (become_long c.args.header.now c.args.rules.now c.args.path.now c.requires.path (omega arith))

pub reduce-requires-clause-terms : goal.reduce-requires-clause-terms
reduce-requires-clause-terms c =
    let p = c.args.path.now in
    let copy : c.in_ok-clone.field-0 ≡ p = same_path _ _ c.in_ok-clone.ensures.cases.0 c.in_ok-clone.ensures.cases.1.0 (same_from_all_zip _ _ _ c.in_ok-clone.ensures.cases.1.1 (λ x y e. e)) in
    subst (AreElementTerms c.args.header.now) (sym (c.in_ok-push.ensures.items ∙ (λ i. c.new-terms.ensures.items i ++ record { coef = 1; path = copy i } ∷ [])))
    (one_path_terms c.args.header.now p c.requires.path (omega arith))

pub returns : goal.returns
returns c =
    let p = c.args.path.now in
    let copy : c.in_ok-clone.field-0 ≡ p = same_path _ _ c.in_ok-clone.ensures.cases.0 c.in_ok-clone.ensures.cases.1.0 (same_from_all_zip _ _ _ c.in_ok-clone.ensures.cases.1.1 (λ x y e. e)) in
    become_short c.args.header.now c.args.rules.now p c.push.new.self.items c.in_ok-reduced.reduced.terms.items c.requires.allowed c.requires.tidy c.requires.path (omega arith)
    (c.in_ok-push.ensures.items ∙ (λ i. c.new-terms.ensures.items i ++ record { coef = 1; path = copy i } ∷ [])) c.in_ok-reduced.ensures.reduced
