use Rattle.std.proofs.Common.{◌≡◌, arith, subst, refl}
use Rattle.fp_linear.proofs.Slices.{AreElements-set}
use Rattle.cover_checks.specs.Bases.{AreAtPlaces}
use Rattle.cover_checks.proofs.Taken.{taken_none, taken_more}
use Rattle.cover_checks.proofs.coordinates.take_places.Goals as goal

pub loop-i-init : goal.loop-i-init
loop-i-init c = record { elements = λ q h. c.clear.ensures.elements q; taken = taken_none c.args.places.now c.args.row.now c.clear.new.entries }

pub loop-i-preserved : goal.loop-i-preserved
loop-i-preserved c = record {
  elements = λ q h. AreElements-set q c.loop-i.coordinates c.loop-i.i _ (c.loop-i.invariant.elements q h) (h.small _);
  taken = taken_more c.loop-i.i c.args.places.now c.args.row.now c.loop-i.coordinates _ c.loop-i.invariant.taken (omega arith) refl;
}

pub returns-clause-taken : goal.returns-clause-taken
returns-clause-taken c = let e : c.loop-i.i ≡ c.args.count = omega arith in subst (λ k. AreAtPlaces k c.args.places.now c.args.row.now c.loop-i.coordinates) e c.loop-i.invariant.taken
