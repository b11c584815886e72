use Rattle.std.proofs.Common.{◌<◌, ◌∙◌, sym, subst, arith}
use Rattle.linear_algebra.specs.Field.{order}
use Rattle.linear_algebra.specs.FieldLaws.{one-lt-order}
use Rattle.path_algebra.specs.Rules.{AreElementTerms}
use Rattle.path_reduction.proofs.TipStands.{parted}
use Rattle.path_reduction.proofs.Rewriting.{between_terms}
use Rattle.path_reduction.proofs.Deriving.{negative_factor}
use Rattle.path_reduction.proofs.RuleElements.{between_element}
use Rattle.path_reduction.proofs.rule_elements.element_between.Goals as goal

pub neg-requires : goal.neg-requires
neg-requires c = one-lt-order c.args.header.now.field

pub plus_multiple-requires-clause-second : goal.plus_multiple-requires-clause-second
plus_multiple-requires-clause-second c =
    let h = c.args.header.now in
    let parts = parted h c.args.path.now c.args.rule.now c.args.before c.requires.allowed.quiver.ends c.requires.path c.requires.tidy.path c.requires.tidy.not_trivial c.requires.stands in
    subst (AreElementTerms h) (sym (c.deref-2.ensures.value ∙ c.in_ok-tail.ensures)) (between_terms h c.args.rule.now c.args.path.now c.args.before c.requires.tidy parts).are

pub plus_multiple-requires-clause-nonzero : goal.plus_multiple-requires-clause-nonzero
plus_multiple-requires-clause-nonzero c =
    subst (λ n. 0 < n) (sym c.neg.ensures) (negative_factor c.args.header.now 1 (omega arith) (one-lt-order c.args.header.now.field)).0

pub plus_multiple-requires-clause-small : goal.plus_multiple-requires-clause-small
plus_multiple-requires-clause-small c =
    subst (λ n. n < order c.args.header.now.field) (sym c.neg.ensures) (negative_factor c.args.header.now 1 (omega arith) (one-lt-order c.args.header.now.field)).1

pub returns-clause-terms : goal.returns-clause-terms
returns-clause-terms c =
    let h = c.args.header.now in
    let parts = parted h c.args.path.now c.args.rule.now c.args.before c.requires.allowed.quiver.ends c.requires.path c.requires.tidy.path c.requires.tidy.not_trivial c.requires.stands in
    between_element h c.args.rule.now c.args.path.now c.args.before c.neg.result c.in_ok-whole.whole.items c.in_ok-tail.tail.items c.deref.result.now c.deref-2.result.now c.in_ok-terms.terms.items c.requires.tidy parts
    c.neg.ensures c.in_ok-whole.ensures c.in_ok-tail.ensures c.deref.ensures.value c.deref-2.ensures.value c.in_ok-terms.ensures

pub returns-clause-makes : goal.returns-clause-makes
returns-clause-makes c d =
    let h = c.args.header.now in
    let parts = parted h c.args.path.now c.args.rule.now c.args.before c.requires.allowed.quiver.ends c.requires.path c.requires.tidy.path c.requires.tidy.not_trivial c.requires.stands in
    c.in_ok-step.ensures.makes h c.requires.allowed c.requires.tidy parts.before_is parts.behind_is d
