use Rattle.std.proofs.Common.{take}
use Rattle.quiver_paths.specs.Path.{Leads}
use Rattle.header_text.proofs.tokens.end_of.Given as goal

abbrev pub invariant-loop-arrow : goal.invariant-loop-arrow
invariant-loop-arrow l = Leads l.quiver l.start (take l.arrow-index l.arrows) l.at
