use Rattle.std.proofs.Common.{◌≡◌, arith, subst}
use Rattle.module_types.specs.Readings.{read}
use Rattle.resolution_checks.specs.Steps.{words_of_side}
use Rattle.module_checks.specs.Commuting.{AsksMore}
use Rattle.cover_checks.specs.Folds.{RowsStay, ImagesKilled}
use Rattle.cover_checks.proofs.FoldRows.{stay_none, stay_more, stay_along, along_row}
use Rattle.cover_checks.proofs.FoldLoops.{images_none, images_more}
use Rattle.cover_checks.proofs.folding.fold_rows.Goals as goal

pub loop-i-init : goal.loop-i-init
loop-i-init c = record {
  used = c.requires.used;
  elements = c.requires.elements;
  clear = c.requires.clear;
  folded = λ t H. (
    stay_none (words_of_side c.args.table.now.header c.args.table.now.words t c.args.a.now c.args.terms.now) (read c.args.table.now.header c.args.a.now) c.args.terms.now c.args.k c.args.arrow,
    images_none (words_of_side c.args.table.now.header c.args.table.now.words t c.args.a.now c.args.terms.now) (read c.args.table.now.header c.args.a.now) c.args.terms.now c.args.k c.args.arrow c.args.field c.args.size c.args.rows c.args.entries.now,
  );
}

pub loop-i-preserved : goal.loop-i-preserved
loop-i-preserved c = record {
  used = c.in_ok-used.ensures.used.0;
  elements = c.in_ok-used.ensures.elements;
  clear = c.in_ok-used.ensures.used.1;
  folded = λ t H.
      let W = words_of_side c.args.table.now.header c.args.table.now.words t c.args.a.now c.args.terms.now in
      let X = read c.args.table.now.header c.args.a.now in
      let g = c.in_ok-used.ensures.folded t (H.each c.loop-i.i (omega (arith, c.loop-i-test.true))) in
      let p = c.loop-i.invariant.folded t H in (
        stay_more W X c.args.terms.now c.args.k c.args.arrow c.loop-i.i p.0 g.0,
        images_more W X c.args.terms.now c.args.k c.args.arrow c.args.field c.args.size c.args.rows c.loop-i.i c.args.entries.now c.loop-i.entries c.fold_row.new.entries p.1 g.1,
      );
}

pub returns-in_err-used-clause-folded : goal.returns-in_err-used-clause-folded
returns-in_err-used-clause-folded c = λ t H.
    let W = words_of_side c.args.table.now.header c.args.table.now.words t c.args.a.now c.args.terms.now in
    let X = read c.args.table.now.header c.args.a.now in
    rw c.from_residual.ensures (λ s. c.in_err-used.ensures.folded t (H.each c.loop-i.i (omega (arith, c.loop-i-test.true))) (along_row W X c.args.terms.now c.args.k c.args.arrow c.loop-i.i s))

pub returns-clause-folded : goal.returns-clause-folded
returns-clause-folded c = λ t H.
    let W = words_of_side c.args.table.now.header c.args.table.now.words t c.args.a.now c.args.terms.now in
    let X = read c.args.table.now.header c.args.a.now in
    let e : c.loop-i.i ≡ c.args.count = omega (arith, c.loop-i-test.false, c.loop-i.auto.i-end) in
    let p = c.loop-i.invariant.folded t H in (
      stay_along W X c.args.terms.now c.args.k c.args.arrow c.args.count H.count_is (subst (RowsStay W X c.args.terms.now c.args.k c.args.arrow) e p.0),
      subst (λ n. AsksMore c.args.field c.args.size c.args.rows c.args.entries.now c.loop-i.entries (ImagesKilled W X c.args.terms.now c.args.k c.args.arrow n)) e p.1,
    )
