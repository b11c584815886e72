use Rattle.std.proofs.Common.{◌≡◌, ◌++◌, take}
use Rattle.object_lines.specs.Spelling.{numbers_form}
use Rattle.object_lines.specs.Written.{behind_spaces}
use Rattle.object_lines.proofs.writing.push_numbers.Given as goal

abbrev pub invariant-loop-n : goal.invariant-loop-n
invariant-loop-n l = l.out.items ≡ l.fn.out.items ++ behind_spaces (numbers_form (take l.n-index l.numbers))
