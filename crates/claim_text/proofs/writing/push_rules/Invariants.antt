use Rattle.std.proofs.Common.{◌≡◌, ◌++◌, map, take}
use Rattle.header_text.specs.Spelling.{text_of}
use Rattle.claim_lines.specs.Spelling.{rule_line}
use Rattle.claim_text.proofs.writing.push_rules.Given as goal

abbrev pub invariant-loop-rule : goal.invariant-loop-rule
invariant-loop-rule l = l.out.items ≡ l.fn.out.items ++ text_of (map (rule_line l.quiver) (take l.rule-index l.rules))
