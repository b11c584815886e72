use Rattle.std.proofs.Common.{arith}
use Rattle.path_algebra.proofs.TipFactors.{front_refuses, rest_refuses, no_other_if, front_slice, front_slice_back, rest_slice, rest_slice_back, reduced_by_tail}
use Rattle.alg_table.proofs.reduced.is_reduced_among.Goals as goal

pub returns-then-has_tip : goal.returns-then-has_tip
returns-then-has_tip c is = front_refuses c.args.header.now c.args.rules.now c.args.rule.now.tip c.requires.tips c.requires.path (let l = c.requires.long in omega arith)
    (front_slice c.args.rules.now c.args.rule.now.tip c.as_slice-arrows.result.now c.as_slice-arrows.ensures c.if-has_tip.ensures) is.tip

pub returns-then-ends_in_tip : goal.returns-then-ends_in_tip
returns-then-ends_in_tip c is = rest_refuses c.args.header.now c.args.rules.now c.args.rule.now.tip c.requires.tips c.requires.path (let l = c.requires.long in omega arith)
    (rest_slice c.args.rules.now c.args.rule.now.tip c.as_slice-arrows.result.now c.as_slice-arrows.ensures c.if-ends_in_tip.ensures) is.tip

pub returns : goal.returns
returns c = reduced_by_tail c.args.header.now c.args.rules.now c.args.rule.now c.as_slice.result.now c.has_no_tip.result c.as_slice.ensures
    (no_other_if c.args.header.now c.args.rules.now c.args.rule.now.tip c.requires.tips
    (λ t. c.if-has_tip.ensures (front_slice_back c.args.rules.now c.args.rule.now.tip c.as_slice-arrows.result.now c.as_slice-arrows.ensures t))
    (λ t. c.if-ends_in_tip.ensures (rest_slice_back c.args.rules.now c.args.rule.now.tip c.as_slice-arrows.result.now c.as_slice-arrows.ensures t))) c.has_no_tip.ensures
