use Rattle.std.proofs.Common.{◌≡◌, length, arith}
use Rattle.cover_checks.proofs.Wholes.{units_none, units_more, square_inside, square_below, unit_nonzero, whole_holds}
use Rattle.cover_checks.proofs.bases.write_whole.Goals as goal

pub loop-i-init : goal.loop-i-init
loop-i-init c = record { elements = c.clear.ensures.elements; units = units_none c.args.n c.clear.new.entries }

pub put_unit-requires : goal.put_unit-requires
put_unit-requires c = record { at_inside = square_inside c.args.n c.loop-i.i (length c.loop-i.basis) c.requires.small (omega arith) (omega arith) }

pub loop-i-preserved : goal.loop-i-preserved
loop-i-preserved c = record {
  elements = λ q. c.put_unit.ensures.elements q (c.loop-i.invariant.elements q);
  units = units_more c.args.n c.loop-i.i c.loop-i.basis c.put_unit.new.target c.loop-i.invariant.units c.put_unit.ensures.written;
}

pub write_places-requires-clause-inside : goal.write_places-requires-clause-inside
write_places-requires-clause-inside c = square_below c.args.n (length c.loop-i.basis) c.requires.small (omega arith)

pub write_places-requires-clause-nonzero : goal.write_places-requires-clause-nonzero
write_places-requires-clause-nonzero c = let e : c.loop-i.i ≡ c.args.n = omega arith in unit_nonzero c.args.field c.args.n c.loop-i.i c.loop-i.basis c.loop-i.invariant.units e

pub returns-clause-holds : goal.returns-clause-holds
returns-clause-holds c = let e : c.loop-i.i ≡ c.args.n = omega arith in whole_holds c.args.field c.args.n c.loop-i.i c.loop-i.basis c.loop-i.invariant.units e c.write_places.new.places c.write_places.ensures.places
