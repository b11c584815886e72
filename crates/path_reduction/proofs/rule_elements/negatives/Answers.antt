use Rattle.std.proofs.Common.{◌≡◌}
use Rattle.std.proofs.lemmas.List.Elements.{same_from_all_zip}
use Rattle.quiver_paths.proofs.PathLemmas.{same_path}
use Rattle.path_reduction.proofs.RuleElements.{negatives_more}
use Rattle.path_reduction.proofs.rule_elements.negatives.Goals as goal

pub loop-term-preserved : goal.loop-term-preserved
loop-term-preserved c =
    let copy : c.in_ok-path.path ≡ c.term-item.result.path = same_path _ _ c.in_ok-path.ensures.cases.0 c.in_ok-path.ensures.cases.1.0 (same_from_all_zip _ _ _ c.in_ok-path.ensures.cases.1.1 (λ x y e. e)) in
    negatives_more c.args.header.now.field c.args.terms.now c.loop-term.others.items c.push.new.self.items c.loop-term.term-index c.term-item.result c.neg.result c.in_ok-path.path
    c.loop-term-test.true c.term-item.is c.loop-term.invariant c.neg.ensures copy c.in_ok-push.ensures.items
