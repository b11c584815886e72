use Rattle.std.proofs.Common.{◌≡◌, ◌++◌, take}
use Rattle.claim_lines.specs.Spelling.{behind_spaces, parts_form}
use Rattle.claim_lines.proofs.head_writing.push_parts.Given as goal

abbrev pub invariant-loop-part : goal.invariant-loop-part
invariant-loop-part l = l.out.items ≡ l.fn.out.items ++ behind_spaces (parts_form (take l.part-index l.parts))
