use Rattle.std.proofs.Common.{ℕ, ◌+◌, ◌-◌, ◌*◌, refl, arith, subst}
use Rattle.fp_linear.proofs.LentRows.{AreElements-drop}
use Rattle.local_modules.specs.ImageChain.{IsImageOf}
use Rattle.local_checks.specs.Standing.{standing}
use Rattle.local_checks.specs.Images.{blocks_at}
use Rattle.local_checks.proofs.Places.{lent_elements}
use Rattle.local_checks.proofs.Images.{images_none, images_more, no_rows_independent, block_lent, member_room}
use Rattle.local_checks.proofs.powers.images_of.Goals as goal

pub loop-j-init : goal.loop-j-init
loop-j-init c = record {
  elements = c.requires.elements;
  rank = omega arith;
  independent = no_rows_independent (standing c.args.field 0 c.args.size c.args.next.now);
  images = images_none (blocks_at c.args.field c.args.size c.args.width c.args.from c.args.families.now) (standing c.args.field c.args.count c.args.size c.args.rows.now) (standing c.args.field 0 c.args.size c.args.next.now) refl;
}

pub loop-j-preserved : goal.loop-j-preserved
loop-j-preserved c =
    let d : ℕ = c.args.size in
    let a : ℕ = c.loop-j.j * c.args.width + c.args.from in
    let k : ℕ = a + d * d - a in
    let room = member_room c.args.members c.args.width c.args.from (d * d) c.loop-j.j c.args.families.now c.requires.families_count c.loop-j-test.true c.requires.block_inside in
    record {
      elements = c.add_images-rank.ensures.elements;
      rank = c.add_images-rank.ensures.rank;
      independent = c.add_images-rank.ensures.sum.independent;
      images = images_more c.loop-j.j (blocks_at c.args.field d c.args.width c.args.from c.args.families.now) (standing c.args.field c.args.count d c.args.rows.now) _
          (standing c.args.field c.loop-j.rank d c.loop-j.next) (standing c.args.field c.add_images-rank.result d c.add_images-rank.new.next)
          (block_lent c.args.field d a k c.args.families.now (lent_elements c.args.field c.args.families.now a k (omega (arith, room)) c.requires.families_elements) (AreElements-drop c.args.field a c.args.families.now c.requires.families_elements) (omega arith))
          c.loop-j.invariant.images c.add_images-rank.ensures.sum;
    }

pub returns-clause-images : goal.returns-clause-images
returns-clause-images c = subst (λ (k : ℕ). IsImageOf k (blocks_at c.args.field c.args.size c.args.width c.args.from c.args.families.now) (standing c.args.field c.args.count c.args.size c.args.rows.now) (standing c.args.field c.loop-j.rank c.args.size c.loop-j.next))
    (omega (arith, c.loop-j-test.false, c.loop-j.auto.j-end)) c.loop-j.invariant.images
