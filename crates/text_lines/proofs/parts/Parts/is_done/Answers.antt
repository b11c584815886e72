use Rattle.text_lines.proofs.Cutting.{none_left}
use Rattle.text_lines.proofs.parts.Parts.is_done.Goals as goal

pub returns : goal.returns
returns c = rw (← c.self.view_is) (none_left c.self.inside.is_done c.self.inside.at c.self.inside.rest.now)
