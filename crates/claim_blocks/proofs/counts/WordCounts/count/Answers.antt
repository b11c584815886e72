use Rattle.std.proofs.Common.{ap, ◌∙◌, subst}
use Rattle.claim_blocks.specs.Counts.{AreCounts}
use Rattle.claim_blocks.proofs.WordTables.{counts_table}
use Rattle.std.proofs.lemmas.List.{take_all}
use Rattle.claim_blocks.proofs.counts.WordCounts.count.Goals as goal

pub returns : goal.returns
returns c =
    let whole = subst (λ ws. AreCounts ws c.args.side c.args.size c.loop-i.counts.items) (take_all c.loop-i.i c.args.words.now (let l = c.loop-i-test.false in l)) c.loop-i.invariant in
    ap (λ cs. record { size = c.args.size; counts = cs }) (c.from_vec.ensures ∙ counts_table c.args.words.now c.args.side c.args.size c.loop-i.counts.items whole)
