use Rattle.std.proofs.Common.{◌∙◌, ap, sym, map, drop}
use Rattle.path_algebra.specs.declared.Term.{Term}
use Rattle.path_algebra.specs.ElementTerms.{negative}
use Rattle.path_reduction.proofs.Rewriting.{first_removed}
use Rattle.path_reduction.proofs.RuleElements.{rule_from_terms, rest_small}
use Rattle.path_reduction.proofs.rule_elements.rule_of.Goals as goal

pub negatives-requires : goal.negatives-requires
negatives-requires c =
    let a : Term = c.remove-first.result in
    let new = c.remove-first.new.self.items in
    let whole = first_removed c.args.given.terms.items new a c.requires.some c.remove-first.ensures.value c.remove-first.ensures.items in
    rest_small c.args.header.now c.args.given.terms.items new c.deref.result.now a whole c.requires.terms c.deref.ensures.value

pub returns-clause-terms : goal.returns-clause-terms
returns-clause-terms c =
    let a : Term = c.remove-first.result in
    let new = c.remove-first.new.self.items in
    let whole = first_removed c.args.given.terms.items new a c.requires.some c.remove-first.ensures.value c.remove-first.ensures.items in
    rule_from_terms c.args.header.now c.args.given.terms.items new c.deref.result.now c.from_vec-terms.result a c.args.given.step whole
    (ap (λ (t : Term). t.coef) c.remove-first.ensures.value ∙ c.requires.monic a) c.requires.terms c.deref.ensures.value (c.from_vec-terms.ensures ∙ c.in_ok-tail.ensures)

pub returns-clause-tail : goal.returns-clause-tail
returns-clause-tail c =
    let a : Term = c.remove-first.result in
    let new = c.remove-first.new.self.items in
    let whole = first_removed c.args.given.terms.items new a c.requires.some c.remove-first.ensures.value c.remove-first.ensures.items in
    c.from_vec-terms.ensures ∙ c.in_ok-tail.ensures ∙ ap (map (negative c.args.header.now.field)) (c.deref.ensures.value ∙ ap (drop 1) (sym whole))
