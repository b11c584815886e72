use Rattle.std.proofs.Common.{◌≡◌, length, subst, arith}
use Rattle.term_rows.specs.RowSteps.{IsAddedFrom, combined}
use Rattle.term_rows.proofs.AddedWords.{combined-none, combined-more}
use Rattle.term_rows.proofs.sums.add_words.Goals as goal

pub loop-i-init : goal.loop-i-init
loop-i-init c = record {
  added = λ entries p. combined-none c.args.table.now.header.field c.args.to c.args.from _ c.args.row.now entries c.args.next.now c.requires.elements;
  elements = c.requires.elements;
}

pub loop-i-preserved : goal.loop-i-preserved
loop-i-preserved c = record {
  added = λ entries p.
      combined-more c.args.table.now.header.field c.args.to c.args.from _ c.args.row.now entries c.loop-i.i c.args.next.now c.loop-i.next c.add_word.new.next (c.loop-i.invariant.added entries p)
      (c.add_word.ensures.added (entries c.loop-i.i) (p c.loop-i.i (omega (arith, c.loop-i-test.true))));
  elements = c.add_word.ensures.elements;
}

pub returns-clause-added : goal.returns-clause-added
returns-clause-added c = λ entries p.
    let e : c.loop-i.i ≡ length c.args.sources.now = omega (arith, c.loop-i-test.false, c.loop-i.auto.i-end) in
    subst (λ n. IsAddedFrom c.args.table.now.header.field c.args.to (length c.args.targets.now) (combined c.args.table.now.header.field c.args.row.now c.args.from entries n) c.args.next.now c.loop-i.next) e
    (c.loop-i.invariant.added entries p)
