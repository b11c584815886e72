use Rattle.std.proofs.Common.{◌≡◌, ◌++◌, take}
use Rattle.header_text.specs.Spelling.{text_of}
use Rattle.claim_text.specs.Spelling.{step_lines}
use Rattle.claim_text.proofs.writing.push_steps.Given as goal

abbrev pub invariant-loop-i : goal.invariant-loop-i
invariant-loop-i l = l.out.items ≡ l.fn.out.items ++ text_of (step_lines l.quiver 1 (take l.i l.steps))
