use Rattle.std.proofs.Common.{◌≡◌, ◌++◌, take}
use Rattle.text_lines.specs.Parts.{joined}
use Rattle.header_text.specs.Spelling.{terms_arguments}
use Rattle.header_text.proofs.writing.push_terms.Given as goal

abbrev pub invariant-loop-i : goal.invariant-loop-i
invariant-loop-i l = l.out.items ≡ l.fn.out.items ++ joined 32 (terms_arguments l.quiver (take l.i l.terms))
