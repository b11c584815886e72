use Rattle.std.proofs.Common.{◌≡◌, ◌<◌, refl, ap, sym, ◌∙◌, arith, get_or, subst}
use Rattle.linear_algebra.specs.Field.{order}
use Rattle.linear_algebra.specs.Rows.{entry}
use Rattle.linear_algebra.proofs.Rows.{row-entry}
use Rattle.module_checks.specs.Spreading.{in_steps}
use Rattle.module_checks.proofs.SpreadDots.{IsSpread-none, IsSpread-more}
use Rattle.module_checks.proofs.spreading.add_row.Goals as goal

pub loop-k-init : goal.loop-k-init
loop-k-init c = record {
  spread = IsSpread-none c.args.field c.args.start c.args.count (entry c.args.matrix.now.rows c.args.i) (in_steps c.args.first c.args.step) c.args.entries.now;
  elements = c.requires.elements;
}

pub add_at-requires-clause-small : goal.add_at-requires-clause-small
add_at-requires-clause-small c =
    let value : get_or c.row-row.result.now c.loop-k.k 0 ≡ entry c.args.matrix.now.rows c.args.i c.loop-k.k = ap (λ r. get_or r c.loop-k.k 0) c.row-row.ensures.row ∙ row-entry c.args.matrix.now.rows c.args.i c.loop-k.k in
    subst (λ x. x < order c.args.field) (sym value) (rw c.requires.field at c.row-row.ensures.matrix.grid.small c.args.i c.loop-k.k)

pub loop-k-preserved : goal.loop-k-preserved
loop-k-preserved c =
    let value : get_or c.row-row.result.now c.loop-k.k 0 ≡ entry c.args.matrix.now.rows c.args.i c.loop-k.k = ap (λ r. get_or r c.loop-k.k 0) c.row-row.ensures.row ∙ row-entry c.args.matrix.now.rows c.args.i c.loop-k.k in
    record {
      spread = IsSpread-more c.args.field c.args.start c.args.count c.loop-k.k _ (get_or c.row-row.result.now c.loop-k.k 0) (entry c.args.matrix.now.rows c.args.i) (in_steps c.args.first c.args.step) c.args.entries.now c.loop-k.entries c.add_at.new.entries
          c.loop-k.invariant.spread c.add_at.ensures.added refl value (c.requires.places c.loop-k.k (omega (arith, c.cols-k-end.ensures.count)));
      elements = c.add_at.ensures.elements;
    }
