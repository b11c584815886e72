use Rattle.std.proofs.Common.{◌≡◌, ◌<◌, ◌+◌, length, ap, sym, subst, ◌∙◌, arith, true, false}
use Rattle.quiver_paths.specs.Path.{path_length}
use Rattle.path_algebra.specs.Rows.{RowsView}
use Rattle.word_products.specs.Vanishing.{SpansTrivial}
use Rattle.word_products.proofs.WordRows.{word_at}
use Rattle.word_products.proofs.ActionSteps.{nonempty}
use Rattle.word_products.proofs.ImageSpans.{trivial-none, trivial-skip, trivial-all}
use Rattle.word_products.proofs.action.trivial_words.Goals as goal
use Rattle.word_products.proofs.action.trivial_words.Goals.{then-is_empty+in_ok-push_word, else-is_empty}

differ : {A : Type 0} → true ≡ false → A
differ e = absurd (cc)

pub loop-i-init : goal.loop-i-init
loop-i-init c = trivial-none c.args.header.now c.args.words.now c.args.rules.now c.requires.can c.in_ok-span.span (ap (λ (v : RowsView). v.field) c.in_ok-span.ensures)
    (ap (λ (v : RowsView). v.columns) c.in_ok-span.ensures) (ap (λ (v : RowsView). v.rows) c.in_ok-span.ensures)

pub push_word-requires-clause-trivial : goal.push_word-requires-clause-trivial
push_word-requires-clause-trivial c = ap path_length (word_at c.args.words.now c.loop-i.i c.index-words-i.result c.loop-i-test.true (sym c.index-words-i.is))
    ∙ ap length (c.is_empty.ensures.0 c.if-is_empty.true)

pub loop-i-preserved : goal.loop-i-preserved
loop-i-preserved c = elim c.if-is_empty.branch [
  | then-is_empty+in_ok-push_word w ↦ subst (SpansTrivial c.args.header.now c.args.words.now c.args.rules.now (c.loop-i.i + 1)) (sym w.span-is) w.in_ok-push_word.ensures
  | else-is_empty w ↦ subst (SpansTrivial c.args.header.now c.args.words.now c.args.rules.now (c.loop-i.i + 1)) (sym w.span-is)
      (trivial-skip c.args.header.now c.args.words.now c.args.rules.now c.requires.can c.loop-i.span c.loop-i.i
      (subst (λ x. 0 < path_length x) (sym (word_at c.args.words.now c.loop-i.i c.index-words-i.result c.loop-i-test.true (sym c.index-words-i.is)))
      (nonempty c.index-words-i.result.arrows (λ e. differ (sym (c.is_empty.ensures.1 e) ∙ w.if-is_empty.false)))) c.loop-i.invariant)
]

pub returns : goal.returns
returns c =
    let done : c.loop-i.i ≡ length c.args.words.now = (let e = c.loop-i.auto.i-end in let t = c.loop-i-test.false in omega arith) in
    trivial-all c.args.header.now c.args.words.now c.args.rules.now c.requires.can c.loop-i.span (subst (λ k. SpansTrivial c.args.header.now c.args.words.now c.args.rules.now k c.loop-i.span) done c.loop-i.invariant)
