use Rattle.map_checks.specs.PartLists.{HaveSide}
use Rattle.map_checks.proofs.decompositions.have_side.Given as goal

abbrev pub invariant-loop-i : goal.invariant-loop-i
invariant-loop-i g l = HaveSide l.side (g.P.Parts.modules l.parts) l.i
