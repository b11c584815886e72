use Rattle.std.proofs.Common.{◌≡◌, length}
use Rattle.text_lines.specs.Script.{words}
use Rattle.text_lines.proofs.script.Words.next_word.Given as goal

abbrev pub invariant-loop-front : goal.invariant-loop-front
invariant-loop-front l = words l.self-inside.rest.now ≡ words l.initial.self-inside.rest.now

abbrev pub decreases-loop-front : goal.decreases-loop-front
decreases-loop-front l = length l.self-inside.rest.now
