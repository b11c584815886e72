use Rattle.std.proofs.Common.{ap, ◌∙◌}
use Rattle.text_lines.specs.Parts.{parts}
use Rattle.text_lines.proofs.Cutting.{parts-cut, parts-whole}
use Rattle.text_lines.proofs.parts.Parts.next_part.Goals as goal

pub returns-in-Some : goal.returns-in-Some
returns-in-Some c =
    let cut = c.in-Some.ensures.cut in
    rw (← c.self.view_is, c.if-self.false) (ap (parts c.self.inside.at) cut.0 ∙ parts-cut c.self.inside.at c.in-Some.part.now c.in-Some.rest.now cut.1)

pub returns-in-None : goal.returns-in-None
returns-in-None c = rw (← c.self.view_is, c.if-self.false) (parts-whole c.self.inside.at c.self.inside.rest.now c.in-None.ensures.whole)
