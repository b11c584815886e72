use Rattle.text_lines.proofs.Cutting.{lines-at_feed, lines-at_end}
use Rattle.text_lines.proofs.lines.first_line.Goals as goal

pub returns-in-Some-clause-first : goal.returns-in-Some-clause-first
returns-in-Some-clause-first c =
    let cut = c.in-Some.ensures.cut in
    lines-at_feed c.args.text.now c.in-Some.front.now c.in-Some.field-0-1.now _ _ cut.0 cut.1 c.split_at.ensures.front c.split_at.ensures.back

pub returns-in-None-clause-first : goal.returns-in-None-clause-first
returns-in-None-clause-first c =
    lines-at_end c.args.text.now _ _ c.requires c.in-None.ensures.whole c.split_at-in-None.ensures.front c.split_at-in-None.ensures.back
