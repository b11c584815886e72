use Rattle.std.proofs.Common.{◌≡◌, ◌++◌, take}
use Rattle.header_text.specs.Spelling.{text_of}
use Rattle.claim_text.specs.Spelling.{map_lines}
use Rattle.claim_text.proofs.writing.push_maps.Given as goal

abbrev pub invariant-loop-i : goal.invariant-loop-i
invariant-loop-i l = l.out.items ≡ l.fn.out.items ++ text_of (map_lines l.header l.before (take l.i l.maps))
