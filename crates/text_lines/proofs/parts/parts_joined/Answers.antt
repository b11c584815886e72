use Rattle.text_lines.proofs.Cutting.{parts-joined_all}
use Rattle.text_lines.proofs.parts.parts_joined.Goals as goal

pub returns : goal.returns
returns c = parts-joined_all
