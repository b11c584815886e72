use Rattle.alg_table.specs.WordPlaces.{ArePlacesAmong}
use Rattle.alg_table.proofs.places.places_between.Given as goal

abbrev pub invariant-loop-place : goal.invariant-loop-place
invariant-loop-place l = ArePlacesAmong l.words l.start l.end l.place l.places
