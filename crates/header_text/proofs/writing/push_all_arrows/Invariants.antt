use Rattle.std.proofs.Common.{◌≡◌, ◌++◌, map, take}
use Rattle.header_text.specs.Spelling.{arrow_line, text_of}
use Rattle.header_text.proofs.writing.push_all_arrows.Given as goal

abbrev pub invariant-loop-arrow : goal.invariant-loop-arrow
invariant-loop-arrow l = l.out.items ≡ l.fn.out.items ++ text_of (map (arrow_line l.quiver) (take l.arrow-index l.quiver.arrows))
