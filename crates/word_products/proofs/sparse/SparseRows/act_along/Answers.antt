use Rattle.std.proofs.Common.{sym, ◌∙◌, subst, arith}
use Rattle.linear_algebra.specs.Rows.{IsRow}
use Rattle.word_products.proofs.SparseActs.{acted_along-none, acted_along-step, IsRow-acted_by}
use Rattle.word_products.proofs.sparse.SparseRows.act_along.Goals as goal

pub loop-arrow-init : goal.loop-arrow-init
loop-arrow-init c = record { row = acted_along-none c.args.self.now.field c.args.self.now.rows c.args.arrows c.args.row.now; fits = c.requires.row; spare = c.requires.spare }

pub loop-arrow-preserved : goal.loop-arrow-preserved
loop-arrow-preserved c = record {
  row = c.copy_from_slice.ensures.after ∙ c.act.ensures ∙ acted_along-step c.args.self.now.field c.args.self.now.rows c.args.arrows c.args.path.now c.loop-arrow.arrow-index c.args.row.now c.loop-arrow.row
      (omega arith) c.loop-arrow.invariant.row;
  fits = subst (IsRow c.args.self.now.field c.args.self.now.width) (sym (c.copy_from_slice.ensures.after ∙ c.act.ensures))
      (IsRow-acted_by c.args.self.now.field c.args.self.now.rows c.args.arrows _ c.args.self.now.width c.loop-arrow.row c.loop-arrow.invariant.fits);
  spare = (let l = c.act.auto.into in let i = c.loop-arrow.invariant.spare in omega arith);
}
