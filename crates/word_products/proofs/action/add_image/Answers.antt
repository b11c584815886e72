use Rattle.std.proofs.Common.{◌++◌, ◌∷◌, [], ap, sym, subst}
use Rattle.linear_algebra.specs.Rows.{IsRow, SameSpan}
use Rattle.path_algebra.specs.Rows.{RowsView}
use Rattle.word_products.specs.SparseRows.{SumView}
use Rattle.word_products.proofs.ActionSteps.{image_is, image_entries, image_fits, image_pushed, image_skipped}
use Rattle.word_products.proofs.action.add_image.Goals as goal

pub of_entries-requires-clause-entries : goal.of_entries-requires-clause-entries
of_entries-requires-clause-entries c = image_entries c.args.header.now c.args.words.now c.args.rules.now c.args.k c.args.span.now c.args.i c.args.row.now c.args.entries.now c.args.sum.now
    c.requires.span c.requires.row c.requires.entries c.requires.sum

pub push-requires : goal.push-requires
push-requires c = subst (IsRow c.args.next.now.field c.args.next.now.columns) (sym c.row.ensures.value) (image_fits c.args.header.now c.args.words.now c.args.rules.now c.requires.can c.args.rows.now c.args.k c.args.span.now c.args.i c.args.a c.args.row.now c.of_entries.new.self.sum
    (record {
      all = c.requires.rows;
      place = c.requires.place;
      arrow = c.requires.arrow;
      span = c.requires.span;
      at = c.requires.row;
      is = image_is c.args.header.now c.args.words.now c.args.rules.now c.args.rows.now c.args.k c.args.span.now c.args.i c.args.a c.len.result c.args.row.now c.of_entries.new.self.sum c.args.entries.now
          c.args.sum.now c.requires.rows c.requires.span c.requires.row c.requires.entries c.requires.sum c.len.ensures (ap (λ (v : SumView). v.sum) c.in_ok-of_entries.ensures);
    }) c.args.next.now c.requires.next)

pub returns-in_ok-push-clause-next : goal.returns-in_ok-push-clause-next
returns-in_ok-push-clause-next c = image_pushed c.args.header.now c.args.words.now c.args.rules.now c.requires.can c.args.rows.now c.args.k c.args.span.now c.args.i c.args.a c.args.row.now c.of_entries.new.self.sum
    (record {
      all = c.requires.rows;
      place = c.requires.place;
      arrow = c.requires.arrow;
      span = c.requires.span;
      at = c.requires.row;
      is = image_is c.args.header.now c.args.words.now c.args.rules.now c.args.rows.now c.args.k c.args.span.now c.args.i c.args.a c.len.result c.args.row.now c.of_entries.new.self.sum c.args.entries.now
          c.args.sum.now c.requires.rows c.requires.span c.requires.row c.requires.entries c.requires.sum c.len.ensures (ap (λ (v : SumView). v.sum) c.in_ok-of_entries.ensures);
    }) c.args.next.now c.requires.next
    c.push.new.self (ap (λ (v : RowsView). v.field) c.in_ok-push.ensures.shape) (ap (λ (v : RowsView). v.columns) c.in_ok-push.ensures.shape)
    (subst (λ x. SameSpan c.args.next.now.field c.args.next.now.columns (c.args.next.now.rows ++ x ∷ []) c.push.new.self.rows) c.row.ensures.value c.in_ok-push.ensures.span)

pub returns-else-not-is_zero-clause-next : goal.returns-else-not-is_zero-clause-next
returns-else-not-is_zero-clause-next c = image_skipped c.args.header.now c.args.words.now c.args.rules.now c.requires.can c.args.rows.now c.args.k c.args.span.now c.args.i c.args.a c.args.row.now c.of_entries.new.self.sum
    (record {
      all = c.requires.rows;
      place = c.requires.place;
      arrow = c.requires.arrow;
      span = c.requires.span;
      at = c.requires.row;
      is = image_is c.args.header.now c.args.words.now c.args.rules.now c.args.rows.now c.args.k c.args.span.now c.args.i c.args.a c.len.result c.args.row.now c.of_entries.new.self.sum c.args.entries.now
          c.args.sum.now c.requires.rows c.requires.span c.requires.row c.requires.entries c.requires.sum c.len.ensures (ap (λ (v : SumView). v.sum) c.in_ok-of_entries.ensures);
    }) c.args.next.now c.requires.next (c.is_zero.ensures.0 c.if-not-is_zero.false)
