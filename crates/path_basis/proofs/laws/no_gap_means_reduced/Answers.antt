use Rattle.path_basis.proofs.NoGap.{no_gap_reduced}
use Rattle.path_basis.proofs.Resolving.{tidy_reduction}
use Rattle.path_basis.proofs.laws.no_gap_means_reduced.Goals as goal

pub returns : goal.returns
returns c h rules ok tidy closed member tails =
    let red = tidy_reduction h rules ok tidy in
    no_gap_reduced h rules red.becomes ok tidy red.is (closed.no_gap red.becomes red.is) member (λ relation m r. closed.relations relation m red.becomes red.is r) tails
