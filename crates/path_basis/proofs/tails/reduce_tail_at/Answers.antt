use Rattle.std.proofs.Common.{refl, subst}
use Rattle.path_algebra.specs.declared.rules.Rule.{Rule}
use Rattle.path_basis.specs.Tails.{IsTailReduced}
use Rattle.path_basis.proofs.OneTail.{one_tidy, one_same_tips, one_derived}
use Rattle.path_basis.proofs.tails.reduce_tail_at.Goals as goal

pub returns-clause-tidy : goal.returns-clause-tidy
returns-clause-tidy c = one_tidy c.args.header.now c.args.rules.now.items _ c.args.place c.index.result.now c.in_ok-rule.rule c.requires.allowed c.requires.tidy c.requires.place c.index.ensures
    (subst (λ rules. IsTailReduced c.args.header.now rules c.index.result.now c.in_ok-rule.rule) c.deref.ensures.value c.in_ok-rule.ensures.reduced) refl

pub returns-clause-tips : goal.returns-clause-tips
returns-clause-tips c = one_same_tips c.args.header.now c.args.rules.now.items _ c.args.place c.index.result.now c.in_ok-rule.rule c.requires.place c.index.ensures
    (subst (λ rules. IsTailReduced c.args.header.now rules c.index.result.now c.in_ok-rule.rule) c.deref.ensures.value c.in_ok-rule.ensures.reduced) refl

pub returns-clause-derived : goal.returns-clause-derived
returns-clause-derived c = one_derived c.args.header.now c.args.rules.now.items _ c.args.place c.in_ok-rule.rule _ _ c.requires.derived c.in_ok-rule.ensures.lengthens c.in_ok-rule.ensures.derives refl
