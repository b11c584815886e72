use Rattle.std.proofs.Common.{sym, ap, ◌∙◌, subst, arith}
use Rattle.word_products.specs.SparseRows.{TouchedView, IsRowOver}
use Rattle.word_products.proofs.SparseActs.{acted_along-none, acted_along-step}
use Rattle.word_products.proofs.touched.TouchedRow.act_along.Goals as goal

pub loop-arrow-init : goal.loop-arrow-init
loop-arrow-init c = record {
  fits = c.requires.fits;
  spare = c.requires.spare;
  row = acted_along-none c.args.rows.now.field c.args.rows.now.rows c.args.arrows c.args.self.now.row;
}

pub loop-arrow-preserved : goal.loop-arrow-preserved
loop-arrow-preserved c = record {
  fits = subst (IsRowOver c.args.rows.now.field c.args.rows.now.width) (sym c.swap.ensures.x_after) c.in_ok-of_arrow.ensures.fits;
  spare = subst (IsRowOver c.args.rows.now.field c.args.rows.now.width) (sym c.swap.ensures.y_after) c.in_ok-of_arrow.ensures.from;
  row = ap (λ (t : TouchedView). t.row) c.swap.ensures.x_after ∙ c.in_ok-of_arrow.ensures.row
      ∙ acted_along-step c.args.rows.now.field c.args.rows.now.rows c.args.arrows c.args.path.now c.loop-arrow.arrow-index c.args.self.now.row c.loop-arrow.self.row
      (omega arith) c.loop-arrow.invariant.row;
}
