use Rattle.std.proofs.Common.{◌≡◌, ◌<◌, refl, ap, sym, ◌∙◌, arith, get_or, subst}
use Rattle.linear_algebra.specs.Field.{order, neg}
use Rattle.linear_algebra.specs.FieldLaws.{neg_below}
use Rattle.linear_algebra.specs.Rows.{entry}
use Rattle.linear_algebra.proofs.Rows.{row-entry}
use Rattle.module_checks.specs.Spreading.{from_first, negated_column}
use Rattle.module_checks.proofs.SpreadDots.{IsSpread-none, IsSpread-more}
use Rattle.module_checks.proofs.spreading.subtract_column.Goals as goal

pub loop-l-init : goal.loop-l-init
loop-l-init c = record {
  spread = IsSpread-none c.args.field c.args.start c.args.count (negated_column c.args.field c.args.matrix.now.rows c.args.j) (from_first c.args.first) c.args.entries.now;
  elements = c.requires.elements;
}

pub neg-value-requires : goal.neg-value-requires
neg-value-requires c =
    let value : get_or c.row.result.now c.args.j 0 ≡ entry c.args.matrix.now.rows c.loop-l.l c.args.j = ap (λ r. get_or r c.args.j 0) c.row.ensures.row ∙ row-entry c.args.matrix.now.rows c.loop-l.l c.args.j in
    subst (λ x. x < order c.args.field) (sym value) (rw c.requires.field at c.row.ensures.matrix.grid.small c.loop-l.l c.args.j)

pub add_at-requires-clause-small : goal.add_at-requires-clause-small
add_at-requires-clause-small c = rw c.neg-value.ensures (neg_below c.args.field _)

pub loop-l-preserved : goal.loop-l-preserved
loop-l-preserved c =
    let value : c.neg-value.result ≡ negated_column c.args.field c.args.matrix.now.rows c.args.j c.loop-l.l =
    c.neg-value.ensures ∙ ap (neg c.args.field) (ap (λ r. get_or r c.args.j 0) c.row.ensures.row ∙ row-entry c.args.matrix.now.rows c.loop-l.l c.args.j) in
    record {
      spread = IsSpread-more c.args.field c.args.start c.args.count c.loop-l.l _ c.neg-value.result (negated_column c.args.field c.args.matrix.now.rows c.args.j) (from_first c.args.first) c.args.entries.now c.loop-l.entries c.add_at.new.entries
          c.loop-l.invariant.spread c.add_at.ensures.added refl value (omega (arith, c.rows-l-end.ensures.count, c.requires.places));
      elements = c.add_at.ensures.elements;
    }
