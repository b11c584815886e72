use Rattle.std.proofs.Common.{◌≡◌, ◌++◌, map, take, decimal}
use Rattle.claim_lines.specs.Spelling.{behind_spaces}
use Rattle.claim_lines.proofs.head_writing.push_numbers.Given as goal

abbrev pub invariant-loop-n : goal.invariant-loop-n
invariant-loop-n l = l.out.items ≡ l.fn.out.items ++ behind_spaces (map decimal (take l.n-index l.numbers))
