use Rattle.std.proofs.Common.{◌≡◌, ◌++◌, length}
use Rattle.std.specs.Prelude.{All}
use Rattle.claim_lines.specs.Spelling.{parts_form}
use Rattle.claim_lines.specs.Items.{ArePartNumbers}
use Rattle.claim_lines.proofs.claims.read_parts.Given as goal

abbrev pub decreases-loop-tokens : goal.decreases-loop-tokens
decreases-loop-tokens l = length l.tokens

abbrev pub invariant-loop-tokens : goal.invariant-loop-tokens
invariant-loop-tokens l = record {
  whole : l.fn.tokens ≡ parts_form l.parts ++ l.tokens;
  are : All (ArePartNumbers l.earlier l.modules) l.parts;
}
