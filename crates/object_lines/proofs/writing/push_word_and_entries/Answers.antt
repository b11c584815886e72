use Rattle.object_lines.specs.Spelling.{numbers_form}
use Rattle.object_lines.proofs.WrittenLines.{line_is}
use Rattle.object_lines.proofs.writing.push_word_and_entries.Goals as goal

pub returns : goal.returns
returns c = line_is _ _ _ _ c.args.word.now (numbers_form c.args.entries.now) c.in_ok-extend_from_slice.ensures.items c.in_ok-push_entries.ensures c.in_ok-push.ensures.items
