use Rattle.std.proofs.Common.{refl, arith}
use Rattle.module_checks.specs.Spreading.{from_first}
use Rattle.module_checks.specs.PathImages.{image_entry}
use Rattle.module_checks.proofs.SpreadDots.{IsSpread-none, IsSpread-more}
use Rattle.module_checks.proofs.images.add_image.Goals as goal

pub loop-j-init : goal.loop-j-init
loop-j-init c = record {
  spread = IsSpread-none c.args.field c.args.start c.args.count (image_entry c.args.field c.args.row.now c.args.from c.args.matrix.now) (from_first c.args.first) c.args.entries.now;
  elements = c.requires.elements;
}

pub loop-j-preserved : goal.loop-j-preserved
loop-j-preserved c = record {
  spread = IsSpread-more c.args.field c.args.start c.args.count c.loop-j.j _ c.image_entry-value.result (image_entry c.args.field c.args.row.now c.args.from c.args.matrix.now) (from_first c.args.first) c.args.entries.now c.loop-j.entries c.add_at.new.entries
      c.loop-j.invariant.spread c.add_at.ensures.added refl c.image_entry-value.ensures.image (omega (arith, c.cols-j-end.ensures.count, c.requires.places));
  elements = c.add_at.ensures.elements;
}
