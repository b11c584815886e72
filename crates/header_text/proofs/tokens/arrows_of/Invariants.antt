use Rattle.std.proofs.Common.{◌≡◌, ◌++◌, ◌<◌, length, map}
use Rattle.std.specs.Prelude.{All}
use Rattle.text_lines.specs.Parts.{parts}
use Rattle.quiver_paths.specs.Quiver.{arrow_count}
use Rattle.header_text.specs.Spelling.{arrow_name}
use Rattle.header_text.proofs.tokens.arrows_of.Given as goal

abbrev pub decreases-loop-name : goal.decreases-loop-name
decreases-loop-name l = length l.names

abbrev pub invariant-loop-name : goal.invariant-loop-name
invariant-loop-name l = record {
  whole : parts 46 l.token ≡ map (arrow_name l.quiver) l.arrows ++ l.names;
  places : All (λ a. a < arrow_count l.quiver) l.arrows;
}
