use Rattle.std.proofs.Common.{◌≡◌, ◌<◌, [], ◌++◌, length, ap, ◌∙◌, arith}
use Rattle.object_lines.specs.Spelling.{numbers_form}
use Rattle.object_lines.specs.Written.{behind_spaces}
use Rattle.object_lines.proofs.WrittenLines.{row_step}
use Rattle.object_lines.proofs.writing.push_matrix.Goals as goal

pub loop-i-preserved : goal.loop-i-preserved
loop-i-preserved c =
    let count : length c.args.m.now.rows ≡ c.args.m.now.row_count = c.row.ensures.matrix.grid.count in
    let inside : c.loop-i.i < length c.args.m.now.rows = omega arith in
    row_step _ _ _ _ c.args.m.now.rows c.loop-i.i [] inside c.loop-i.invariant c.in_ok-push_slash.ensures
    (c.in_ok-push_entries.ensures ∙ ap (λ r. c.push_slash.new.out.items ++ behind_spaces (numbers_form r)) c.row.ensures.row)
