use Rattle.std.proofs.Common.{◌≡◌, ◌+◌, ◌≤◌, ◌++◌, List, ℕ, length}
use Rattle.text_lines.specs.Lines.{lines}
use Rattle.text_lines.specs.Reading.{Reads}
use Rattle.text_lines.proofs.reading.read_lines.Given as goal

-- the lines so far are read, and the rest is the other lines
abbrev pub invariant-loop-rest : goal.invariant-loop-rest
invariant-loop-rest g l =
    (front : List (List ℕ)) × record {
      split : lines l.text ≡ front ++ lines l.rest;
      reads : Reads g.R.LineReader.Step l.fn.reader front l.reader;
      number : l.line ≡ length front + 1;
      room : l.line + length l.rest ≤ length l.text + 1;
    }

abbrev pub decreases-loop-rest : goal.decreases-loop-rest
decreases-loop-rest g l = length l.rest
