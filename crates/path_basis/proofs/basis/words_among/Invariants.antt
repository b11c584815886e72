use Rattle.path_basis.specs.Sifting.{AreSifted}
use Rattle.path_basis.proofs.basis.words_among.Given as goal

abbrev pub invariant-loop-path : goal.invariant-loop-path
invariant-loop-path l = AreSifted l.rules l.paths l.path-index l.words.items
