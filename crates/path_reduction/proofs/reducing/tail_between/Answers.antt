use Rattle.std.proofs.Common.{◌≡◌, ◌∙◌, sym, subst}
use Rattle.quiver_paths.specs.Path.{IsPath}
use Rattle.path_algebra.specs.Rules.{AreElementTerms}
use Rattle.path_algebra.proofs.TermProducts.{AreElementTerms-before}
use Rattle.path_reduction.specs.Occurrences.{part_behind}
use Rattle.path_reduction.proofs.TipStands.{parted, slice_behind}
use Rattle.path_reduction.proofs.reducing.tail_between.Goals as goal

pub terms_behind-requires-clause-terms : goal.terms_behind-requires-clause-terms
terms_behind-requires-clause-terms c =
    let h = c.args.header.now in
    let p = c.args.path.now in
    let rule = c.args.rule.now in
    let parts = parted h p rule c.args.before c.requires.allowed.quiver.ends c.requires.path c.requires.tidy.path c.requires.tidy.not_trivial c.requires.stands in
    let arrows = slice_behind p rule c.args.before c.as_slice-arrows.result.now c.len.result c.as_slice-arrows.ensures c.len.ensures in
    let is : c.in_ok-right.right ≡ part_behind p rule c.args.before = c.in_ok-right.ensures ∙ (λ i. record { start = rule.tip.end; end = p.end; arrows = arrows i }) in
    subst (AreElementTerms h) (sym (c.deref.ensures.value ∙ c.in_ok-tail.ensures))
    (AreElementTerms-before h c.in_ok-right.right c.as_slice.result.now (subst (IsPath h.quiver) (sym is) parts.behind_is) (subst (AreElementTerms h) (sym c.as_slice.ensures) c.requires.tidy.tail))
