use Rattle.std.proofs.Common.{◌≡◌, ◌<◌, ◌+◌, length, get_or, ap, ◌∙◌, arith, subst, sym}
use Rattle.linear_algebra.specs.Field.{order}
use Rattle.linear_algebra.specs.Rows.{entry}
use Rattle.linear_algebra.proofs.Rows.{row-entry}
use Rattle.fp_linear.proofs.Slices.{AreElements-set}
use Rattle.sequence_checks.proofs.AroundSteps.{shifted-more}
use Rattle.sequence_checks.proofs.homs.write_shifted_column.Goals as goal

pub loop-i-preserved : goal.loop-i-preserved
loop-i-preserved c =
    let a = c.args.a.now in
    let i = c.loop-i.i in
    let v = get_or c.row.result.now c.args.j 0 in
    let e : v ≡ entry a.rows i c.args.j = ap (λ r. get_or r c.args.j 0) c.row.ensures.row ∙ row-entry a.rows i c.args.j in
    let l : c.args.start + i < length c.loop-i.into = omega (arith, c.loop-i-test.true, c.rows-i-end.ensures.count, c.requires.inside, c.loop-i.auto.into, c.clear.auto.entries) in
    record {
      column = shifted-more a c.args.j c.args.start i v c.loop-i.into l e c.loop-i.invariant.column;
      elements = AreElements-set a.field c.loop-i.into (c.args.start + i) v c.loop-i.invariant.elements (subst (λ x. x < order a.field) (sym e) (c.row.ensures.matrix.grid.small i c.args.j));
    }
