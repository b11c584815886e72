use Rattle.std.proofs.Common.{ap, ◌∙◌, append_assoc, [], ◌∷◌}
use Rattle.text_lines.specs.Lines.{lines}
use Rattle.text_lines.proofs.Cutting.{concat-lines, lines-cut}
use Rattle.text_lines.proofs.lines.text_of_lines.Goals as goal

pub returns-clause-whole : goal.returns-clause-whole
returns-clause-whole c = concat-lines

pub returns-clause-first : goal.returns-clause-first
returns-clause-first c bytes rest none = ap lines (append_assoc bytes (10 ∷ []) rest) ∙ lines-cut bytes rest none
