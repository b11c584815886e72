use Rattle.std.proofs.Common.{◌≡◌, false, eqb, arith}
use Rattle.std.proofs.lemmas.Bool.{ne_eqb}
use Rattle.std.proofs.lemmas.List.{take_all}
use Rattle.std.proofs.lemmas.List.Elements.{All-more}
use Rattle.text_lines.proofs.parts.cut_at.Goals as goal

pub loop-i-preserved : goal.loop-i-preserved
loop-i-preserved c = All-more (λ b. eqb b c.args.at ≡ false) c.args.bytes.now c.loop-i.i 0 c.loop-i-test.true c.loop-i.invariant (ne_eqb _ _ c.if-byte-at.false)

pub returns-clause-whole : goal.returns-clause-whole
returns-clause-whole c = rw (take_all c.loop-i.i c.args.bytes.now (omega arith)) at c.loop-i.invariant
