use Rattle.std.proofs.Common.{◌≡◌, ◌++◌, map, take}
use Rattle.header_text.specs.Spelling.{text_of}
use Rattle.claim_lines.specs.Spelling.{word_line}
use Rattle.claim_text.proofs.writing.push_words.Given as goal

abbrev pub invariant-loop-word : goal.invariant-loop-word
invariant-loop-word l = l.out.items ≡ l.fn.out.items ++ text_of (map (word_line l.quiver) (take l.word-index l.words))
