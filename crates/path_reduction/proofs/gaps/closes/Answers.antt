use Rattle.std.proofs.Common.{sym, subst}
use Rattle.path_algebra.specs.Rules.{AreElementTerms}
use Rattle.path_reduction.proofs.TipStands.{parted}
use Rattle.path_reduction.proofs.Rewriting.{between_terms}
use Rattle.path_reduction.proofs.Closing.{closes_by_terms}
use Rattle.path_reduction.proofs.gaps.closes.Goals as goal

pub reduce-requires-clause-terms : goal.reduce-requires-clause-terms
reduce-requires-clause-terms c =
    let h = c.args.header.now in
    let parts = parted h c.args.path.now c.args.rule.now c.args.at c.requires.allowed.quiver.ends c.requires.path c.requires.rule.path c.requires.rule.not_trivial c.requires.stands in
    subst (AreElementTerms h) (sym c.in_ok-terms.ensures) (between_terms h c.args.rule.now c.args.path.now c.args.at c.requires.rule parts).are

pub returns : goal.returns
returns c =
    let h = c.args.header.now in
    let parts = parted h c.args.path.now c.args.rule.now c.args.at c.requires.allowed.quiver.ends c.requires.path c.requires.rule.path c.requires.rule.not_trivial c.requires.stands in
    closes_by_terms h c.args.rules.now c.args.rule.now c.args.path.now c.args.at c.in_ok-terms.terms.items c.in_ok-other.other.terms.items c.deref.result.now c.args.whole.now c.are_same-same.result
    c.requires.allowed c.requires.tidy c.requires.rule parts c.in_ok-terms.ensures c.in_ok-other.ensures.reduced c.requires.whole c.deref.ensures.value c.are_same-same.ensures
