use Rattle.path_reduction.proofs.Closing.{closes_to_by, closed_true}
use Rattle.path_reduction.proofs.gaps.open_rule_to.Goals as goal

pub returns-then-closed : goal.returns-then-closed
returns-then-closed c =
    let h = c.args.header.now in
    let rules = c.args.rules.now in
    closes_to_by h rules c.args.path.now c.args.at c.args.end c.in-Some.place c.index-rules-place.result c.as_slice-arrows.result.now c.requires.tidy c.as_slice-arrows.ensures c.in-Some.ensures.found c.index-rules-place.is
    c.in-Some.ensures.same (closed_true _ _ c.in_ok-closed-in-Some.closed c.if-closed.true c.in_ok-closed-in-Some.ensures)
