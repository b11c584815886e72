use Rattle.std.proofs.Common.{length, arith}
use Rattle.std.specs.Prelude.{slice_index}
use Rattle.proj_cover.proofs.Columns.{among_here, among_none, others_more}
use Rattle.proj_cover.proofs.generators.has_pivot.Goals as goal

pub loop-i-init : goal.loop-i-init
loop-i-init c = λ i l. absurd (omega arith)

pub loop-i-preserved : goal.loop-i-preserved
loop-i-preserved c = others_more c.loop-i.i (slice_index c.args.pivots.now) c.args.c c.loop-i.invariant c.if-pivots-i.false

pub returns-then-pivots-i : goal.returns-then-pivots-i
returns-then-pivots-i c = among_here (length c.args.pivots.now) (slice_index c.args.pivots.now) c.args.c c.loop-i.i (omega arith) c.if-pivots-i.true

pub returns : goal.returns
returns c = among_none (length c.args.pivots.now) (slice_index c.args.pivots.now) c.args.c (λ i l. c.loop-i.invariant i (omega arith))
