use Rattle.std.proofs.Common.{◌≡◌, sym, false, arith}
use Rattle.std.proofs.lemmas.List.{take_all}
use Rattle.std.proofs.lemmas.List.Elements.{All-more}
use Rattle.std.proofs.lemmas.List.Splits.{slice_split_none}
use Rattle.text_lines.specs.Script.{is_blank}
use Rattle.text_lines.proofs.WordLaws.{split_before_blank}
use Rattle.text_lines.proofs.script.cut_at_blank.Goals as goal

pub loop-i-preserved : goal.loop-i-preserved
loop-i-preserved c = All-more (λ b. is_blank b ≡ false) c.args.bytes.now c.loop-i.i 0 c.loop-i-test.true c.loop-i.invariant (sym c.if-is_blank.ensures)

pub returns-then-is_blank-clause-cut : goal.returns-then-is_blank-clause-cut
returns-then-is_blank-clause-cut c = split_before_blank c.args.bytes.now c.loop-i.i c.loop-i-test.true c.loop-i.invariant (sym c.if-is_blank.ensures)

pub returns-clause-whole : goal.returns-clause-whole
returns-clause-whole c = slice_split_none is_blank c.args.bytes.now (rw (take_all c.loop-i.i c.args.bytes.now (omega arith)) at c.loop-i.invariant)
