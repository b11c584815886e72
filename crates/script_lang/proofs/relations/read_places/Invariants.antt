use Rattle.std.proofs.Common.{◌≡◌, length}
use Rattle.text_lines.specs.Parts.{parts}
use Rattle.script_lang.specs.Relations.{places_in}
use Rattle.script_lang.proofs.ListReading.{behind}
use Rattle.script_lang.proofs.relations.read_places.Given as goal

abbrev pub invariant-loop-name : goal.invariant-loop-name
invariant-loop-name l = behind l.places (places_in l.arrows l.names) ≡ places_in l.arrows (parts 46 l.token)

abbrev pub decreases-loop-name : goal.decreases-loop-name
decreases-loop-name l = length l.names
