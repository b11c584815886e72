use Rattle.std.proofs.Common.{sym, ap, ◌∙◌, subst}
use Rattle.linear_algebra.specs.Rows.{zeros}
use Rattle.word_products.proofs.TouchedRows.{over-inside, over-then, taken-entry}
use Rattle.word_products.proofs.TakenSums.{IsTaking, taking-none, taking-push, taking-all}
use Rattle.word_products.proofs.touched.TouchedRow.take_entries.Goals as goal

pub loop-entry-init : goal.loop-entry-init
loop-entry-init c = record {
  fits = over-inside c.self.inside.field c.self.inside.width c.self.inside.row.items c.self.inside.places.items c.args.self.now c.self.invariant c.self.view_is;
  taking = taking-none c.args.self.now.field c.args.self.now.width c.args.self.now.row c.in_ok-entries.entries.items c.in_ok-entries.ensures.items
      (over-inside c.self.inside.field c.self.inside.width c.self.inside.row.items c.self.inside.places.items c.args.self.now c.self.invariant c.self.view_is).row_is;
}

pub loop-entry-preserved : goal.loop-entry-preserved
loop-entry-preserved c =
    let t = c.in-Some.ensures.taken in
    let old = c.loop-entry.invariant in
    record {
      fits = over-then c.args.self.now.field c.args.self.now.width c.loop-entry.self c.take.new.self old.fits c.in-Some.ensures.fits;
      taking = subst (IsTaking c.args.self.now.field c.args.self.now.width c.args.self.now.row c.take.new.self.row) (sym c.in_ok-push.ensures.items)
          (taking-push c.args.self.now.field c.args.self.now.width c.args.self.now.row c.loop-entry.self.row c.take.new.self.row c.loop-entry.entries.items c.in-Some.entry old.fits.row_is old.taking
          (taken-entry c.args.self.now.field c.args.self.now.width c.loop-entry.self c.in-Some.entry old.fits t.entry) t.coef_is t.left);
    }

pub returns-clause-entries : goal.returns-clause-entries
returns-clause-entries c = taking-all c.args.self.now.field c.args.self.now.width c.args.self.now.row c.loop-entry.self.row c.loop-entry.entries.items
    (over-inside c.self.inside.field c.self.inside.width c.self.inside.row.items c.self.inside.places.items c.args.self.now c.self.invariant c.self.view_is).row_is
    (c.in_default.ensures.taken ∙ ap zeros c.loop-entry.invariant.fits.width_is) c.loop-entry.invariant.taking
