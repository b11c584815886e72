use Rattle.std.proofs.Common.{length, refl, sym, subst}
use Rattle.path_algebra.specs.declared.rules.Rule.{Rule}
use Rattle.path_algebra.specs.Derivations.{IsNumber}
use Rattle.path_basis.proofs.Marks.{none_marked, rule_marked_at}
use Rattle.path_basis.proofs.pruning.mark_rules.Goals as goal

pub loop-rule-preserved : goal.loop-rule-preserved
loop-rule-preserved c =
    let rule : Rule = c.rule-item.result in
    rule_marked_at c.args.steps.now c.args.rules.now c.loop-rule.rule-index rule c.loop-rule.marks.items _ c.loop-rule-test.true c.rule-item.is
    (subst (λ (x : Rule). IsNumber (length c.args.steps.now) x.step) (sym c.rule-item.is) (c.requires c.loop-rule.rule-index rule c.loop-rule-test.true)) refl c.loop-rule.invariant

pub loop-rule-init : goal.loop-rule-init
loop-rule-init c = none_marked c.args.steps.now c.in_ok-marks.marks.items (c.in_ok-marks.ensures.items_if_clones_equal (λ y h. h))
