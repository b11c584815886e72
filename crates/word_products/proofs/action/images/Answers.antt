use Rattle.std.proofs.Common.{◌≡◌, length, refl, ap, arith}
use Rattle.path_algebra.specs.Rows.{RowsView}
use Rattle.word_products.proofs.ImageSpans.{images-none}
use Rattle.word_products.proofs.ActionSteps.{images_done}
use Rattle.word_products.proofs.action.images.Goals as goal

pub loop-i-init : goal.loop-i-init
loop-i-init c = record {
  sum = refl;
  next = images-none c.args.header.now c.args.words.now c.args.rules.now c.requires.can c.args.rows.now c.args.k c.args.span.now.rows _ c.in_ok-next.next (omega arith)
      (ap (λ (v : RowsView). v.field) c.in_ok-next.ensures) (ap (λ (v : RowsView). v.columns) c.in_ok-next.ensures) (ap (λ (v : RowsView). v.rows) c.in_ok-next.ensures);
}

pub returns-clause-images : goal.returns-clause-images
returns-clause-images c =
    let done : c.loop-i.i ≡ length c.args.span.now.rows = (let e = c.loop-i.auto.i-end in let t = c.loop-i-test.false in let n = c.len-i-end.ensures in omega arith) in
    images_done c.args.header.now c.args.words.now c.args.rules.now c.requires.can c.args.rows.now c.requires.rows c.args.k c.args.span.now c.loop-i.next c.reduce.new.self c.loop-i.i done
    c.requires.span c.loop-i.invariant.next (ap (λ (v : RowsView). v.field) c.reduce.ensures.shape) (ap (λ (v : RowsView). v.columns) c.reduce.ensures.shape) c.reduce.ensures.span
