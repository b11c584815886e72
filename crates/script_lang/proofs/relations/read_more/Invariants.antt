use Rattle.std.proofs.Common.{◌≡◌, length, Some}
use Rattle.script_lang.specs.Arguments.{before}
use Rattle.script_lang.specs.Relations.{signed_terms}
use Rattle.script_lang.proofs.ListReading.{behind}
use Rattle.script_lang.proofs.relations.read_more.Given as goal

abbrev pub invariant-loop-sign : goal.invariant-loop-sign
invariant-loop-sign l = behind l.terms (signed_terms l.header.field l.header.quiver l.words) ≡ before (Some l.fn.first) (signed_terms l.header.field l.header.quiver l.initial.words)

abbrev pub decreases-loop-sign : goal.decreases-loop-sign
decreases-loop-sign l = length l.words
