use Rattle.std.proofs.Common.{◌≡◌, length, arith, subst}
use Rattle.cover_checks.specs.Bases.{ArePlaces}
use Rattle.cover_checks.proofs.Extended.{start_inside}
use Rattle.cover_checks.proofs.Placed.{places_none, places_more}
use Rattle.cover_checks.proofs.places.write_places.Goals as goal

pub loop-i-init : goal.loop-i-init
loop-i-init c = places_none c.args.width c.args.entries.now c.args.places.now

pub first_nonzero-requires : goal.first_nonzero-requires
first_nonzero-requires c = record { inside = start_inside c.args.width c.args.count c.loop-i.i (length c.args.entries.now) (omega arith) c.requires.inside }

pub loop-i-preserved : goal.loop-i-preserved
loop-i-preserved c = places_more c.args.width c.loop-i.i c.args.entries.now c.loop-i.places c.first_nonzero.result c.loop-i.invariant (omega arith) (c.requires.nonzero c.loop-i.i (omega arith)) c.first_nonzero.ensures.before c.first_nonzero.ensures.here c.first_nonzero.ensures.fits

pub returns : goal.returns
returns c = let e : c.loop-i.i ≡ c.args.count = omega arith in record { places = subst (λ k. ArePlaces c.args.width k c.args.entries.now c.loop-i.places) e c.loop-i.invariant }
