use Rattle.std.proofs.Common.{ℕ, ◌≡◌, ◌≤◌, ◌+◌, List, get_or, ◌*◌, sym, ap, ◌∙◌, arith, subst, length, mul-le-mul_right}
use Rattle.std.proofs.lemmas.List.{get_or-take}
use Rattle.linear_algebra.specs.Matrix.{Mat}
use Rattle.local_modules.specs.ImageChain.{IsImageAfter, IsImageOf, VanishFrom}
use Rattle.local_modules.proofs.ImagesAfter.{image_first}
use Rattle.fp_linear.specs.Slices.{AreElements}
use Rattle.fp_linear.proofs.LentRows.{AreElements-take}
use Rattle.local_checks.specs.Standing.{standing}
use Rattle.local_checks.specs.Images.{blocks_at}
use Rattle.local_checks.proofs.Images.{standing_same, rows_taken}
use Rattle.local_checks.proofs.VertexPowers.{after_more, smaller, none_more, zero_here, same_here}
use Rattle.local_checks.proofs.powers.power_at.Goals as goal

pub loop-i-init : goal.loop-i-init
loop-i-init c = record {
  rows = c.write_identity.ensures.elements;
  next = c.requires.elements;
  rank = omega arith;
  image = image_first c.args.members (blocks_at c.args.field c.args.size c.args.width c.args.from c.args.families.now) (standing c.args.field c.args.size c.args.size c.write_identity.new.rows) c.write_identity.ensures.identity;
  none = λ s l. absurd (omega arith);
}

pub returns-then-rank-eq0-clause-power : goal.returns-then-rank-eq0-clause-power
returns-then-rank-eq0-clause-power c = zero_here c.args.members (blocks_at c.args.field c.args.size c.args.width c.args.from c.args.families.now) c.loop-i.i c.loop-i.rank (standing c.args.field c.loop-i.rank c.args.size c.loop-i.rows)
    c.loop-i.invariant.image c.loop-i.invariant.none c.if-rank-eq0.true

pub returns-clause-power : goal.returns-clause-power
returns-clause-power c = subst (VanishFrom c.args.members (blocks_at c.args.field c.args.size c.args.width c.args.from c.args.families.now)) (omega (arith, c.loop-i-test.false, c.loop-i.auto.i-end))
    (zero_here c.args.members (blocks_at c.args.field c.args.size c.args.width c.args.from c.args.families.now) c.loop-i.i c.loop-i.rank (standing c.args.field c.loop-i.rank c.args.size c.loop-i.rows)
    c.loop-i.invariant.image c.loop-i.invariant.none (omega (arith, c.loop-i-test.false, c.loop-i.invariant.rank)))

pub returns-then-less-rank-clause-power : goal.returns-then-less-rank-clause-power
returns-then-less-rank-clause-power c =
    let d : ℕ = c.args.size in
    let g = blocks_at c.args.field d c.args.width c.args.from c.args.families.now in
    let rows = rows_taken c.args.field c.loop-i.rank d c.loop-i.rows c.loop-i.invariant.rows (omega (arith, c.loop-i.invariant.rank)) (c.loop-i.auto.rows ∙ c.write_identity.auto.rows ∙ c.requires.rows_shape) in
    same_here c.args.members g c.loop-i.i c.loop-i.rank (standing c.args.field c.loop-i.rank d c.loop-i.rows) c.loop-i.invariant.image c.loop-i.invariant.none
    (standing c.args.field c.images_of-less.result d c.images_of-less.new.next) c.images_of-less.ensures.independent
    (subst (λ (z : Mat c.args.field c.loop-i.rank d). IsImageOf c.args.members g z (standing c.args.field c.images_of-less.result d c.images_of-less.new.next)) rows c.images_of-less.ensures.images)
    c.if-less-rank.true c.if-rank-eq0.false

pub loop-i-preserved : goal.loop-i-preserved
loop-i-preserved c =
    let d : ℕ = c.args.size in
    let g = blocks_at c.args.field d c.args.width c.args.from c.args.families.now in
    let rows = rows_taken c.args.field c.loop-i.rank d c.loop-i.rows c.loop-i.invariant.rows (omega (arith, c.loop-i.invariant.rank)) (c.loop-i.auto.rows ∙ c.write_identity.auto.rows ∙ c.requires.rows_shape) in
    let images = subst (λ (z : Mat c.args.field c.loop-i.rank d). IsImageOf c.args.members g z (standing c.args.field c.images_of-less.result d c.images_of-less.new.next)) rows c.images_of-less.ensures.images in
    let more = after_more c.args.members g c.loop-i.i c.loop-i.rank (standing c.args.field c.loop-i.rank d c.loop-i.rows) c.loop-i.invariant.image c.loop-i.invariant.none
    (standing c.args.field c.images_of-less.result d c.images_of-less.new.next) c.images_of-less.ensures.independent images in
    let few = smaller c.args.members g c.loop-i.i c.loop-i.rank (standing c.args.field c.loop-i.rank d c.loop-i.rows) c.loop-i.invariant.image c.loop-i.invariant.none
    (standing c.args.field c.images_of-less.result d c.images_of-less.new.next) c.images_of-less.ensures.independent images in
    let room : d * d ≤ length c.images_of-less.new.next = omega (arith, c.images_of-less.auto.next, c.loop-i.auto.next, c.requires.shape) in
    let count : length c.loop-i.rows ≡ d * d = c.loop-i.auto.rows ∙ c.write_identity.auto.rows ∙ c.requires.rows_shape in
    let elements : AreElements c.args.field c.copy_from_slice.new.self =
    subst (AreElements c.args.field) (sym c.copy_from_slice.ensures.after) (AreElements-take c.args.field (length c.loop-i.rows) c.images_of-less.new.next (omega (arith, room, count)) c.images_of-less.ensures.elements) in
    record {
      rows = elements;
      next = c.images_of-less.ensures.elements;
      rank = omega (arith, few, c.if-less-rank.false, c.loop-i.invariant.rank);
      image = subst (λ (z : Mat c.args.field c.images_of-less.result d). IsImageAfter c.args.members g (c.loop-i.i + 1) z)
          (standing_same c.args.field c.images_of-less.result d c.images_of-less.new.next c.copy_from_slice.new.self c.images_of-less.ensures.elements elements
          (λ k l. sym (ap (λ (s : List ℕ). get_or s k 0) c.copy_from_slice.ensures.after
          ∙ get_or-take (length c.loop-i.rows) c.images_of-less.new.next k 0 (let m = mul-le-mul_right d c.images_of-less.ensures.rank in omega (arith, m, l, count))))) more;
      none = none_more c.args.members g c.loop-i.i c.loop-i.rank (standing c.args.field c.loop-i.rank d c.loop-i.rows) c.loop-i.invariant.image c.loop-i.invariant.none c.if-rank-eq0.false;
    }
