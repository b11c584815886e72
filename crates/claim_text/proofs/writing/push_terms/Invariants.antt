use Rattle.std.proofs.Common.{◌≡◌, ◌++◌, take}
use Rattle.header_text.specs.Spelling.{text_of}
use Rattle.claim_text.specs.Spelling.{term_lines}
use Rattle.claim_text.proofs.writing.push_terms.Given as goal

abbrev pub invariant-loop-k : goal.invariant-loop-k
invariant-loop-k l = l.out.items ≡ l.fn.out.items ++ text_of (term_lines l.quiver 0 (take l.k l.terms))
