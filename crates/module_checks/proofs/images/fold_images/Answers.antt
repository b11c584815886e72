use Rattle.std.proofs.Common.{refl, arith}
use Rattle.module_checks.proofs.Places.{within_rows}
use Rattle.module_checks.proofs.PathImages.{ImagesMet-none, ImagesMet-more}
use Rattle.module_checks.proofs.images.fold_images.Goals as goal

pub loop-r-init : goal.loop-r-init
loop-r-init c = record {
  used = c.requires.used;
  elements = c.requires.elements;
  clear = c.requires.clear;
  more = ImagesMet-none c.args.field c.args.unknowns c.args.rows c.args.images.now c.args.entries.now c.args.source c.args.matrix.now c.args.first;
}

pub fold_image-used-requires-clause-row_inside : goal.fold_image-used-requires-clause-row_inside
fold_image-used-requires-clause-row_inside c =
    let w = within_rows c.args.unknowns c.args.rows c.loop-r.r c.args.source c.args.matrix.now.row_count (omega (arith, c.requires.count)) c.requires.source in
    omega (arith, w, c.requires.images)

pub loop-r-preserved : goal.loop-r-preserved
loop-r-preserved c = record {
  used = c.fold_image-used.ensures.used;
  elements = c.fold_image-used.ensures.elements;
  clear = c.fold_image-used.ensures.clear;
  more = ImagesMet-more c.args.field c.args.unknowns c.args.rows c.loop-r.r c.args.images.now c.args.entries.now c.loop-r.entries c.fold_image-used.new.entries c.args.source _ c.args.matrix.now c.args.first refl c.loop-r.invariant.more c.fold_image-used.ensures.more;
}
