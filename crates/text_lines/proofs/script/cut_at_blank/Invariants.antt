use Rattle.std.proofs.Common.{◌≡◌, All, take, false}
use Rattle.text_lines.specs.Script.{is_blank}
use Rattle.text_lines.proofs.script.cut_at_blank.Given as goal

-- no byte so far is a blank
abbrev pub invariant-loop-i : goal.invariant-loop-i
invariant-loop-i l = All (λ b. is_blank b ≡ false) (take l.i l.bytes)
