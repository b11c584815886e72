use Rattle.std.proofs.Common.{◌≡◌, ◌++◌, take}
use Rattle.object_lines.specs.Spelling.{numbers_form}
use Rattle.object_lines.specs.Written.{behind_spaces}
use Rattle.object_lines.proofs.writing.push_entries.Given as goal

abbrev pub invariant-loop-entry : goal.invariant-loop-entry
invariant-loop-entry l = l.out.items ≡ l.fn.out.items ++ behind_spaces (numbers_form (take l.entry-index l.entries))
