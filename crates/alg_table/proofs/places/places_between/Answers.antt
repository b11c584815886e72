use Rattle.std.proofs.Common.{sym, subst}
use Rattle.alg_table.specs.WordPlaces.{ArePlacesAmong}
use Rattle.alg_table.proofs.PlaceLists.{places-none}
use Rattle.alg_table.proofs.places.places_between.Goals as goal

pub loop-place-init : goal.loop-place-init
loop-place-init c = subst (ArePlacesAmong c.args.words.now c.args.start c.args.end 0) (sym c.new-places.ensures) (places-none c.args.words.now c.args.start c.args.end)
