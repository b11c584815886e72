use Rattle.std.proofs.Common.{ap, ◌∙◌}
use Rattle.linear_algebra.specs.Field.{Gf}
use Rattle.linear_algebra.specs.Rows.{zeros}
use Rattle.word_products.specs.SparseRows.{with_multiple}
use Rattle.word_products.proofs.TouchedRows.{over-then, taken-entry}
use Rattle.word_products.proofs.TakenSums.{acting-none, acting-more, acting-all}
use Rattle.word_products.proofs.touched.TouchedRow.of_arrow.Goals as goal

pub loop-entry-init : goal.loop-entry-init
loop-entry-init c = record {
  fits = over-then c.args.rows.now.field c.args.rows.now.width c.args.self.now c.clear.new.self c.requires.fits c.clear.ensures.fits;
  from = c.requires.from;
  acting = acting-none c.args.rows.now.field c.args.rows.now.rows c.args.arrows c.args.arrow c.args.rows.now.width c.args.from.now.row c.clear.new.self.row c.requires.from.row_is
      (c.clear.ensures.row ∙ ap zeros c.requires.fits.width_is);
}

pub loop-entry-preserved : goal.loop-entry-preserved
loop-entry-preserved c =
    let t = c.in-Some.ensures.taken in
    let old = c.loop-entry.invariant in
    record {
      fits = over-then c.args.rows.now.field c.args.rows.now.width c.loop-entry.self c.add_multiple.new.self old.fits c.in_ok-add_multiple.ensures.fits;
      from = over-then c.args.rows.now.field c.args.rows.now.width c.loop-entry.from c.take.new.self old.from c.in-Some.ensures.fits;
      acting = acting-more c.args.rows.now.field c.args.rows.now.rows c.args.arrows c.args.arrow c.args.rows.now.width c.args.from.now.row c.loop-entry.from.row c.loop-entry.self.row c.take.new.self.row
          c.add_multiple.new.self.row c.in-Some.entry.word c.in-Some.entry.coef c.row.result.now old.from.row_is old.fits.row_is
          (taken-entry c.args.rows.now.field c.args.rows.now.width c.loop-entry.from c.in-Some.entry old.from t.entry).inside old.acting t.coef_is c.row.ensures.row t.left
          (c.in_ok-add_multiple.ensures.row ∙ ap (λ (q : Gf). with_multiple q c.in-Some.entry.coef c.row.result.now c.loop-entry.self.row) old.fits.field_is);
    }

pub returns-clause-row : goal.returns-clause-row
returns-clause-row c = acting-all c.args.rows.now.field c.args.rows.now.rows c.args.arrows c.args.arrow c.args.rows.now.width c.args.from.now.row c.loop-entry.from.row c.loop-entry.self.row
    c.requires.from.row_is c.loop-entry.invariant.fits.row_is (c.in_default.ensures.taken ∙ ap zeros c.loop-entry.invariant.from.width_is) c.loop-entry.invariant.from.row_is.count
    c.loop-entry.invariant.acting
