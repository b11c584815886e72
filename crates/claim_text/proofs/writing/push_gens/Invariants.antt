use Rattle.std.proofs.Common.{◌≡◌, ◌++◌, map, take}
use Rattle.header_text.specs.Spelling.{text_of}
use Rattle.object_lines.specs.Spelling.{gen_line}
use Rattle.claim_text.proofs.writing.push_gens.Given as goal

abbrev pub invariant-loop-image : goal.invariant-loop-image
invariant-loop-image l = l.out.items ≡ l.fn.out.items ++ text_of (map gen_line (take l.image-index l.images))
