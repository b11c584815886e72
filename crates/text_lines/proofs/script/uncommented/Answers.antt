use Rattle.text_lines.proofs.WordLaws.{uncommented-cut, uncommented-whole}
use Rattle.text_lines.proofs.script.uncommented.Goals as goal

pub returns-in-Some : goal.returns-in-Some
returns-in-Some c = uncommented-cut c.args.bytes.now c.in-Some.code.now c.in-Some.field-0-1.now c.in-Some.ensures.cut.0 c.in-Some.ensures.cut.1

pub returns-in-None : goal.returns-in-None
returns-in-None c = uncommented-whole c.args.bytes.now c.in-None.ensures.whole
