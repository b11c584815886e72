use Rattle.std.proofs.Common.{take}
use Rattle.text_lines.specs.Parts.{Lacks}
use Rattle.text_lines.proofs.parts.cut_at.Given as goal

-- no byte so far is the one that is sought
abbrev pub invariant-loop-i : goal.invariant-loop-i
invariant-loop-i l = Lacks l.at (take l.i l.bytes)
