use Rattle.std.proofs.Common.{◌∙◌}
use Rattle.path_reduction.proofs.Deriving.{Lengthens-trans}
use Rattle.path_basis.proofs.tails.reduce_tails_with.Goals as goal

pub loop-i-preserved : goal.loop-i-preserved
loop-i-preserved c =
    let made = c.in_ok-reduce_tail_if.ensures in
    let before = c.loop-i.invariant in
    record {
      tidy = made.tidy;
      tips = made.tips ∙ before.tips;
      lawful = made.lawful;
      derived = made.derived;
      lengthens = Lengthens-trans _ _ _ before.lengthens made.lengthens;
      count = λ most a b. made.count most (before.count most a b) b;
    }
