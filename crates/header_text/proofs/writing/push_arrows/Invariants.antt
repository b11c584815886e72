use Rattle.std.proofs.Common.{◌≡◌, ◌++◌, take}
use Rattle.header_text.specs.Spelling.{arrows_text}
use Rattle.header_text.proofs.writing.push_arrows.Given as goal

abbrev pub invariant-loop-i : goal.invariant-loop-i
invariant-loop-i l = l.out.items ≡ l.fn.out.items ++ arrows_text l.quiver (take l.i l.arrows)
