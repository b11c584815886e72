use Rattle.std.proofs.Common.{arith}
use Rattle.path_algebra.proofs.DerivedRules.{negatives_from_items}
use Rattle.alg_table.proofs.clauses.are_negatives.Goals as goal

pub returns : goal.returns
returns c = negatives_from_items c.args.field c.args.tail.now c.args.terms.now c.requires.count (λ j t l. c.loop-i.invariant j t (omega arith))
