use Rattle.std.proofs.Common.{◌<◌, get_or, set, refl, sym, ap, ◌∙◌, subst}
use Rattle.linear_algebra.specs.Field.{Gf, order, add, mul}
use Rattle.linear_algebra.specs.FieldLaws.{mul_below}
use Rattle.word_products.specs.declared.sparse.Entry.{Entry}
use Rattle.word_products.specs.SparseRows.{TouchedView}
use Rattle.word_products.proofs.SparseActs.{with_multiple-none, with_multiple-zero, with_multiple-step}
use Rattle.word_products.proofs.EntryRows.{row_counted}
use Rattle.word_products.proofs.TouchedRows.{over-inside, over-then}
use Rattle.word_products.proofs.touched.TouchedRow.add_multiple.Goals as goal

pub returns-then-factor-eq0-clause-row : goal.returns-then-factor-eq0-clause-row
returns-then-factor-eq0-clause-row c = with_multiple-zero c.args.self.now.field c.args.factor c.args.row.now c.args.self.now.row c.if-factor-eq0.true
    (row_counted c.args.self.now.field c.args.self.now.width c.args.self.now.row (over-inside c.self.inside.field c.self.inside.width c.self.inside.row.items c.self.inside.places.items c.args.self.now c.self.invariant c.self.view_is).row_is)

pub loop-entry-init : goal.loop-entry-init
loop-entry-init c = record {
  fits = over-inside c.self.inside.field c.self.inside.width c.self.inside.row.items c.self.inside.places.items c.args.self.now c.self.invariant c.self.view_is;
  row = with_multiple-none c.args.self.now.field c.args.factor c.args.self.now.row
      (row_counted c.args.self.now.field c.args.self.now.width c.args.self.now.row (over-inside c.self.inside.field c.self.inside.width c.self.inside.row.items c.self.inside.places.items c.args.self.now c.self.invariant c.self.view_is).row_is);
}

pub add_at-requires-clause-coef : goal.add_at-requires-clause-coef
add_at-requires-clause-coef c = subst (λ (q : Gf). c.mul.result < order q) (ap (λ (v : TouchedView). v.field) c.self.view_is ∙ sym c.loop-entry.invariant.fits.field_is)
    (subst (λ x. x < order c.self.inside.field) (sym c.mul.ensures) (mul_below c.self.inside.field _ _))

pub loop-entry-preserved : goal.loop-entry-preserved
loop-entry-preserved c =
    let e : Entry = get_or c.args.row.now c.loop-entry.entry-index (record { coef = 0; word = 0 }) in
    let count = (over-inside c.self.inside.field c.self.inside.width c.self.inside.row.items c.self.inside.places.items c.args.self.now c.self.invariant c.self.view_is).row_is.count in
    let inside = (c.requires.entries c.loop-entry.entry-index (record { coef = 0; word = 0 }) c.loop-entry-test.true).inside in
    record {
      fits = over-then c.args.self.now.field c.args.self.now.width c.loop-entry.self c.add_at.new.self c.loop-entry.invariant.fits c.in_ok-add_at.ensures.fits;
      row = c.in_ok-add_at.ensures.row
          ∙ ap (λ (q : Gf). set c.loop-entry.self.row e.word (add q (get_or c.loop-entry.self.row e.word 0) c.mul.result)) c.loop-entry.invariant.fits.field_is
          ∙ with_multiple-step c.args.self.now.field c.args.factor c.args.row.now c.loop-entry.entry-index c.args.self.now.row c.loop-entry.self.row (record { coef = 0; word = 0 }) c.mul.result
          (add c.args.self.now.field (get_or c.loop-entry.self.row e.word 0) c.mul.result)
          c.loop-entry-test.true (subst (λ n. e.word < n) (sym count) inside) c.loop-entry.invariant.row
          (c.mul.ensures ∙ ap (λ (q : Gf). mul q c.args.factor e.coef) (ap (λ (v : TouchedView). v.field) c.self.view_is)) refl;
    }
