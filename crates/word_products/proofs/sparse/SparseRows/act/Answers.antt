use Rattle.std.proofs.Common.{get_or, refl, ap, sym, ◌∙◌}
use Rattle.word_products.specs.SparseRows.{with_multiple}
use Rattle.word_products.proofs.SparseActs.{acted_to-none, acted_to-skip, acted_to-then, row_is, IsRow-acted_to}
use Rattle.word_products.proofs.sparse.SparseRows.act.Goals as goal
use Rattle.word_products.proofs.sparse.SparseRows.act.Goals.{then-factor-ne0, else-factor-ne0}

pub loop-i-init : goal.loop-i-init
loop-i-init c = c.fill.ensures.after (λ y e. e) ∙ acted_to-none c.args.self.now.field c.args.self.now.rows c.args.arrows c.args.arrow c.args.from.now _ (c.requires.into ∙ sym c.requires.from.count)

pub add_multiple-requires-clause-into : goal.add_multiple-requires-clause-into
add_multiple-requires-clause-into c = row_is c.args.self.now.field c.self.inside.field _ c.loop-i.into _ (ap (λ v. v.field) c.self.view_is) c.loop-i.invariant
    (IsRow-acted_to c.args.self.now.field c.args.self.now.rows c.args.arrows c.args.arrow c.args.from.now c.loop-i.i)

pub loop-i-preserved : goal.loop-i-preserved
loop-i-preserved c = elim c.if-factor-ne0.branch [
  | then-factor-ne0 w ↦ acted_to-then c.args.self.now.field c.args.self.now.rows c.args.arrows c.args.arrow c.args.from.now c.loop-i.i c.loop-i.into c.if-factor-ne0.into
      (get_or c.args.from.now c.loop-i.i 0) w.row.result.now c.loop-i.invariant refl w.row.ensures.row
      (w.into-is ∙ w.add_multiple.ensures ∙ ap (λ q. with_multiple q (get_or c.args.from.now c.loop-i.i 0) w.row.result.now c.loop-i.into) (ap (λ v. v.field) c.self.view_is))
  | else-factor-ne0 w ↦ w.into-is ∙ c.loop-i.invariant
      ∙ acted_to-skip c.args.self.now.field c.args.self.now.rows c.args.arrows c.args.arrow c.args.from.now c.loop-i.i w.if-factor-ne0.false
]
