use Rattle.std.proofs.Common.{◌≡◌, ◌∙◌, sym, ap, map, subst}
use Rattle.std.proofs.lemmas.List.Elements.{All-contains, same_from_all_zip}
use Rattle.quiver_paths.proofs.PathLemmas.{same_path}
use Rattle.path_algebra.specs.declared.rules.Rule.{Rule}
use Rattle.path_algebra.specs.Elements.{path_element}
use Rattle.path_algebra.specs.Rules.{AreElementTerms, rule_element}
use Rattle.path_algebra.specs.ElementTerms.{negative}
use Rattle.path_reduction.specs.Gaps.{IsTidy}
use Rattle.path_reduction.specs.Derived.{Derives}
use Rattle.path_reduction.proofs.NewRules.{AreElementTerms-negated}
use Rattle.path_basis.proofs.ReducedTails.{tail_reduced, tail_beside, tail_derives}
use Rattle.path_basis.proofs.tails.with_reduced_tail.Goals as goal

pub reduce-requires-clause-terms : goal.reduce-requires-clause-terms
reduce-requires-clause-terms c =
    let h = c.args.header.now in
    let t = All-contains (IsTidy h) c.args.rules.now c.args.rule.now c.requires.tidy.each c.requires.listed in
    subst (AreElementTerms h) (sym (c.in_ok-terms.ensures ∙ ap (map (negative h.field)) c.as_slice.ensures)) (AreElementTerms-negated h c.args.rule.now.tail.terms t.tail)

pub returns-clause-reduced : goal.returns-clause-reduced
returns-clause-reduced c =
    let h = c.args.header.now in
    let t = All-contains (IsTidy h) c.args.rules.now c.args.rule.now c.requires.tidy.each c.requires.listed in
    let copy : c.in_ok-tip.tip ≡ c.args.rule.now.tip = same_path _ _ c.in_ok-tip.ensures.cases.0 c.in_ok-tip.ensures.cases.1.0 (same_from_all_zip _ _ _ c.in_ok-tip.ensures.cases.1.1 (λ x y e. e)) in
    tail_reduced h c.args.rules.now c.args.rule.now _ c.in_ok-terms.terms.items c.in_ok-rest.rest.terms.items c.requires.allowed c.requires.tidy t copy (c.in_ok-terms.ensures ∙ ap (map (negative h.field)) c.as_slice.ensures)
    c.in_ok-rest.ensures.reduced (c.from_vec-terms.ensures ∙ c.in_ok-tail.ensures ∙ ap (map (negative h.field)) c.deref.ensures.value)

pub returns-clause-derives : goal.returns-clause-derives
returns-clause-derives c =
    let h = c.args.header.now in
    let t = All-contains (IsTidy h) c.args.rules.now c.args.rule.now c.requires.tidy.each c.requires.listed in
    let copy : c.in_ok-tip.tip ≡ c.args.rule.now.tip = same_path _ _ c.in_ok-tip.ensures.cases.0 c.in_ok-tip.ensures.cases.1.0 (same_from_all_zip _ _ _ c.in_ok-tip.ensures.cases.1.1 (λ x y e. e)) in
    tail_derives h c.reduce.new.steps.items c.in_ok-rest.rest.step c.args.rule.now.tip (record { tip = c.in_ok-tip.tip; tail = record { terms = c.from_vec-terms.result }; step = c.in_ok-rest.rest.step }) c.in_ok-rest.rest.terms.items c.in_ok-rest.ensures.reduced.are copy
    (c.from_vec-terms.ensures ∙ c.in_ok-tail.ensures ∙ ap (map (negative h.field)) c.deref.ensures.value)
    (c.in_ok-rest.ensures.makes (path_element h.bound c.args.rule.now.tip) c.requires.derived
    (tail_beside h c.args.steps.now.items c.args.rule.now.step c.args.rule.now c.in_ok-terms.terms.items t (c.in_ok-terms.ensures ∙ ap (map (negative h.field)) c.as_slice.ensures)
    (All-contains (λ (x : Rule). Derives h c.args.steps.now.items x.step (rule_element h x)) c.args.rules.now c.args.rule.now c.requires.derived c.requires.listed)))
