use Rattle.std.proofs.Common.{arith, ap}
use Rattle.quiver_paths.specs.Path.{path_length}
use Rattle.path_algebra.specs.declared.rules.Rule.{Rule}
use Rattle.path_reduction.proofs.TipLengths.{none_shorter, none_longer}
use Rattle.path_reduction.proofs.occurrences.may_have_length.Goals as goal

pub returns-then-count-len : goal.returns-then-count-len
returns-then-count-len c = λ arrows n t. none_shorter c.args.rules.now c.requires c.index-rules-0.result c.index-rules-0.is arrows
    (let a = c.if-count-len.true in let b = c.len.ensures in let e = ap (λ (r : Rule). path_length r.tip) c.index-rules-0.is in omega (arith, a, b, e, n)) t

pub returns-then-len-count : goal.returns-then-len-count
returns-then-len-count c = λ arrows n t. none_longer c.args.rules.now c.requires c.index-rules-rules.result c.index-rules-rules.is arrows
    (let a = c.if-len-count.true in let b = c.len-2.ensures in let e = ap (λ (r : Rule). path_length r.tip) c.index-rules-rules.is in omega (arith, a, b, e, n)) t
