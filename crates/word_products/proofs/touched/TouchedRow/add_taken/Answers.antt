use Rattle.std.proofs.Common.{◌<◌, get_or, set, sym, ap, ◌∙◌, subst}
use Rattle.linear_algebra.specs.Field.{Gf, order, add, mul}
use Rattle.linear_algebra.specs.FieldLaws.{mul_below}
use Rattle.linear_algebra.specs.Rows.{zeros}
use Rattle.word_products.specs.SparseRows.{TouchedView}
use Rattle.word_products.proofs.TouchedRows.{over-inside, over-then, taken-entry}
use Rattle.word_products.proofs.TakenSums.{adding-more, adding-all}
use Rattle.word_products.proofs.touched.TouchedRow.add_taken.Goals as goal

pub add_at-requires-clause-coef : goal.add_at-requires-clause-coef
add_at-requires-clause-coef c = subst (λ (q : Gf). c.mul.result < order q) (ap (λ (v : TouchedView). v.field) c.self.view_is ∙ sym c.loop-entry.invariant.fits.field_is)
    (subst (λ x. x < order c.self.inside.field) (sym c.mul.ensures) (mul_below c.self.inside.field c.args.factor c.in-Some.entry.coef))

pub loop-entry-preserved : goal.loop-entry-preserved
loop-entry-preserved c =
    let t = c.in-Some.ensures.taken in
    let old = c.loop-entry.invariant in
    let e = c.in-Some.entry in
    let fits = over-then c.args.self.now.field c.args.self.now.width c.loop-entry.self c.add_at.new.self old.fits c.in_ok-add_at.ensures.fits in
    record {
      fits = fits;
      from = over-then c.args.self.now.field c.args.self.now.width c.loop-entry.from c.take.new.self old.from c.in-Some.ensures.fits;
      adding = adding-more c.args.self.now.field c.args.factor c.args.self.now.width c.args.from.now.row c.args.self.now.row c.loop-entry.from.row c.loop-entry.self.row c.take.new.self.row c.add_at.new.self.row
          c.in-Some.entry.word c.in-Some.entry.coef c.mul.result old.from.row_is old.fits.row_is
          (taken-entry c.args.self.now.field c.args.self.now.width c.loop-entry.from c.in-Some.entry old.from t.entry).inside old.adding t.coef_is
          (c.mul.ensures ∙ ap (λ (q : Gf). mul q c.args.factor c.in-Some.entry.coef) (ap (λ (v : TouchedView). v.field) c.self.view_is)) t.left
          (c.in_ok-add_at.ensures.row ∙ ap (λ (q : Gf). set c.loop-entry.self.row c.in-Some.entry.word (add q (get_or c.loop-entry.self.row c.in-Some.entry.word 0) c.mul.result)) old.fits.field_is)
          fits.row_is;
    }

pub returns-clause-row : goal.returns-clause-row
returns-clause-row c = adding-all c.args.self.now.field c.args.factor c.args.self.now.width c.args.from.now.row c.args.self.now.row c.loop-entry.from.row c.loop-entry.self.row
    (over-inside c.self.inside.field c.self.inside.width c.self.inside.row.items c.self.inside.places.items c.args.self.now c.self.invariant c.self.view_is).row_is
    c.loop-entry.invariant.fits.row_is (c.in_default.ensures.taken ∙ ap zeros c.loop-entry.invariant.from.width_is) c.loop-entry.invariant.adding
