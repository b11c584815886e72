use Rattle.std.proofs.Common.{◌≡◌, length, sym, subst, arith, inl, inr}
use Rattle.std.proofs.lemmas.Bool.{cases_lt}
use Rattle.path_algebra.specs.declared.rules.Rule.{Rule}
use Rattle.path_algebra.specs.Derivations.{IsNumber, element_at, step_elements}
use Rattle.path_algebra.specs.BasisClauses.{RuleHolds}
use Rattle.path_algebra.specs.ElementTerms.{AreTermsOf}
use Rattle.path_algebra.proofs.DerivedRules.{rule_holds_from, rule_of_from, tail_at, path_at, item_at}
use Rattle.alg_table.proofs.KeptElements.{rule_terms_at}
use Rattle.alg_table.proofs.clauses.rules_hold.Goals as goal

pub index-element-requires : goal.index-element-requires
index-element-requires c =
    let count : length c.in_ok-elements.elements.items ≡ length c.args.steps.now = c.in_ok-elements.ensures.count in
    let number : IsNumber (length c.args.steps.now) c.rule-item.result.step = subst (λ (r : Rule). IsNumber (length c.args.steps.now) r.step) (sym c.rule-item.is) (c.requires.steps.derived c.loop-rule.rule-index c.rule-item.result c.loop-rule-test.true) in
    let ok = c.in_ok-elements.elements.ok in
    omega arith

pub is_rule_of-requires : goal.is_rule_of-requires
is_rule_of-requires c = record { tail = tail_at c.args.header.now c.args.rules.now c.loop-rule.rule-index c.rule-item.result c.loop-rule-test.true c.rule-item.is c.requires.tails }

pub returns-then-not-is_rule_of : goal.returns-then-not-is_rule_of
returns-then-not-is_rule_of c holds =
    let h = c.args.header.now in
    c.if-not-is_rule_of.ensures (rule_of_from h c.args.steps.now c.rule-item.result c.as_slice.result.now
    (path_at h c.args.rules.now c.loop-rule.rule-index c.rule-item.result c.loop-rule-test.true c.rule-item.is c.requires.tips)
    (tail_at h c.args.rules.now c.loop-rule.rule-index c.rule-item.result c.loop-rule-test.true c.rule-item.is c.requires.tails)
    (subst (AreTermsOf h (element_at (step_elements h c.args.steps.now) c.rule-item.result.step)) (sym c.as_slice.ensures)
    (rule_terms_at h (step_elements h c.args.steps.now) c.args.rules.now c.in_ok-elements.elements.items c.loop-rule.rule-index c.rule-item.result c.index-element.result.now c.loop-rule-test.true c.rule-item.is
    c.in_ok-elements.ensures.rules c.index-element.ensures))
    (subst (RuleHolds h c.args.steps.now) (sym c.rule-item.is) (holds c.loop-rule.rule-index c.rule-item.result c.loop-rule-test.true)))

pub loop-rule-preserved : goal.loop-rule-preserved
loop-rule-preserved c j r l = elim (cases_lt j c.loop-rule.rule-index) [
  | inl b ↦ c.loop-rule.invariant j r b
  | inr b ↦
      let h = c.args.header.now in
      subst (RuleHolds h c.args.steps.now) (item_at c.args.rules.now j c.loop-rule.rule-index r c.rule-item.result (omega arith) c.loop-rule-test.true c.rule-item.is)
      (rule_holds_from h c.args.steps.now c.rule-item.result c.as_slice.result.now
      (subst (AreTermsOf h (element_at (step_elements h c.args.steps.now) c.rule-item.result.step)) (sym c.as_slice.ensures)
      (rule_terms_at h (step_elements h c.args.steps.now) c.args.rules.now c.in_ok-elements.elements.items c.loop-rule.rule-index c.rule-item.result c.index-element.result.now c.loop-rule-test.true c.rule-item.is
      c.in_ok-elements.ensures.rules c.index-element.ensures))
      c.if-not-is_rule_of.ensures)
]
