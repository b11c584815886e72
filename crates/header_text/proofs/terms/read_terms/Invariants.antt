use Rattle.std.proofs.Common.{◌≡◌, ◌++◌, length}
use Rattle.header_text.specs.Named.{AreTerms}
use Rattle.header_text.specs.Spelling.{terms_arguments}
use Rattle.header_text.proofs.terms.read_terms.Given as goal

abbrev pub decreases-loop-tokens : goal.decreases-loop-tokens
decreases-loop-tokens l = length l.tokens

abbrev pub invariant-loop-tokens : goal.invariant-loop-tokens
invariant-loop-tokens l = record {
  whole : l.fn.tokens ≡ terms_arguments l.header.quiver l.terms ++ l.tokens;
  are : AreTerms l.header l.terms;
}
