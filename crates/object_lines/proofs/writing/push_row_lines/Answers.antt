use Rattle.std.proofs.Common.{◌≡◌, ◌<◌, [], ◌++◌, length, ap, ◌∙◌, arith}
use Rattle.text_lines.specs.Strict.{strict_line}
use Rattle.header_text.proofs.Joining.{text_take, line_step}
use Rattle.object_lines.specs.Spelling.{row_line}
use Rattle.object_lines.proofs.writing.push_row_lines.Goals as goal

pub loop-i-preserved : goal.loop-i-preserved
loop-i-preserved c =
    let count : length c.args.m.now.rows ≡ c.args.m.now.row_count = c.row.ensures.matrix.grid.count in
    let inside : c.loop-i.i < length c.args.m.now.rows = omega arith in
    line_step _ _ _ _ _ _ c.loop-i.invariant (c.in_ok-push_row_line.ensures ∙ ap (λ r. c.loop-i.out.items ++ strict_line (row_line r)) c.row.ensures.row) (text_take row_line c.args.m.now.rows c.loop-i.i [] inside)
