use Rattle.std.proofs.Common.{◌≡◌, ◌∷◌, ◌++◌, length}
use Rattle.claim_lines.specs.Reading.{AreTailTerms}
use Rattle.claim_lines.proofs.RuleReading.{so_far}
use Rattle.claim_lines.proofs.rules.some_terms.Given as goal

abbrev pub decreases-loop-is_last : goal.decreases-loop-is_last
decreases-loop-is_last l = length l.tokens

abbrev pub invariant-loop-is_last : goal.invariant-loop-is_last
invariant-loop-is_last l = record {
  whole : l.fn.token ∷ l.fn.tokens ≡ so_far l.header.quiver l.is_last l.terms ++ l.tokens;
  are : AreTailTerms l.header l.terms;
}
