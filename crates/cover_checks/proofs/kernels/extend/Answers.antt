use Rattle.std.proofs.Common.{◌≡◌, arith}
use Rattle.cover_checks.proofs.Extended.{extended_none, extended_more, extended_all}
use Rattle.cover_checks.proofs.kernels.extend.Goals as goal

pub loop-i-init : goal.loop-i-init
loop-i-init c = record { elements = λ q h. c.clear.ensures.elements q; extended = extended_none c.args.rows c.args.cols c.args.entries.now c.clear.new.entries }

pub loop-i-preserved : goal.loop-i-preserved
loop-i-preserved c = record {
  elements = λ q h. c.put_unit.ensures.elements q (c.copy_part.ensures.elements q h (c.loop-i.invariant.elements q h));
  extended = extended_more c.args.rows c.args.cols c.loop-i.i c.args.entries.now c.loop-i.wide c.copy_part.new.target c.put_unit.new.target c.loop-i.invariant.extended c.copy_part.ensures.written c.put_unit.ensures.written;
}

pub returns-clause-extended : goal.returns-clause-extended
returns-clause-extended c = λ q h. let e : c.loop-i.i ≡ c.args.rows = omega arith in
    extended_all q c.args.rows c.args.cols c.loop-i.i c.args.entries.now c.loop-i.wide e (c.loop-i.invariant.elements q h) c.loop-i.invariant.extended
