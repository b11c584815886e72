use Rattle.std.proofs.Common.{◌≡◌, ◌++◌, ◌∷◌, [], length, ap, sym, subst, ◌∙◌}
use Rattle.linear_algebra.specs.Field.{Gf}
use Rattle.linear_algebra.specs.Rows.{IsRow, SameSpan}
use Rattle.path_algebra.specs.Elements.{path_element}
use Rattle.path_algebra.specs.Rows.{RowsView, path_at, row_of}
use Rattle.word_products.proofs.TermSums.{IsRow-unit, row_moved}
use Rattle.word_products.proofs.WordRows.{unit-row, short_word}
use Rattle.word_products.proofs.ImageSpans.{trivial-push}
use Rattle.word_products.proofs.action.push_word.Goals as goal

pub push-requires : goal.push-requires
push-requires c = row_moved c.args.header.now.field c.args.span.now.field (length c.args.words.now) c.args.span.now.columns c.deref.result.now c.requires.span.field_is c.requires.span.columns_are
    (subst (IsRow c.args.header.now.field (length c.args.words.now)) (sym (c.deref.ensures.value ∙ c.in_ok-row.ensures)) (IsRow-unit c.args.header.now.field (length c.args.words.now) c.args.i))

pub returns : goal.returns
returns c =
    let h = c.args.header.now in
    let words = c.args.words.now in
    let row : c.deref.result.now ≡ row_of words (path_element h.bound (path_at words c.args.i)) =
    c.deref.ensures.value ∙ c.in_ok-row.ensures ∙ unit-row h.bound words c.requires.can.word.ascending c.args.i c.requires.place (short_word h words c.args.rules.now c.requires.can c.args.i c.requires.place).short in
    let spans = subst (λ x. SameSpan c.args.span.now.field c.args.span.now.columns (c.args.span.now.rows ++ x ∷ []) c.push.new.self.rows) row c.in_ok-push.ensures.span in
    trivial-push h words c.args.rules.now c.requires.can c.args.span.now c.push.new.self c.args.i c.requires.place c.requires.span
    (ap (λ (v : RowsView). v.field) c.in_ok-push.ensures.shape) (ap (λ (v : RowsView). v.columns) c.in_ok-push.ensures.shape)
    (subst (λ (q : Gf). SameSpan q (length words) (c.args.span.now.rows ++ row_of words (path_element h.bound (path_at words c.args.i)) ∷ []) c.push.new.self.rows) c.requires.span.field_is
    (subst (λ n. SameSpan c.args.span.now.field n (c.args.span.now.rows ++ row_of words (path_element h.bound (path_at words c.args.i)) ∷ []) c.push.new.self.rows) c.requires.span.columns_are spans))
