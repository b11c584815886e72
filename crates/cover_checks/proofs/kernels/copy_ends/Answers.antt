use Rattle.std.proofs.Common.{length, arith}
use Rattle.cover_checks.proofs.Extended.{ends_more, end_inside}
use Rattle.cover_checks.proofs.kernels.copy_ends.Goals as goal

pub loop-i-init : goal.loop-i-init
loop-i-init c = record { ends = λ i j l b. absurd (omega arith); elements = λ q h k. k }

pub loop-i-preserved : goal.loop-i-preserved
loop-i-preserved c = record {
  ends = ends_more c.args.width c.args.taken c.args.first c.args.from c.loop-i.i c.args.source.now c.loop-i.target c.copy_part.new.target c.loop-i.invariant.ends c.copy_part.ensures.written;
  elements = λ q h k. c.copy_part.ensures.elements q h (c.loop-i.invariant.elements q h k);
}

pub copy_part-requires-clause-from_inside : goal.copy_part-requires-clause-from_inside
copy_part-requires-clause-from_inside c = end_inside c.args.width c.args.first c.args.from c.args.count c.args.taken c.loop-i.i (length c.args.source.now) c.requires.width (omega arith) c.requires.source_inside

pub returns-clause-ends : goal.returns-clause-ends
returns-clause-ends c = λ i j l b. c.loop-i.invariant.ends i j (omega (arith, l)) b
