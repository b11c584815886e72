use Rattle.std.proofs.Common.{◌≡◌, ◌+◌, ◌*◌, length, refl, sym, subst, arith}
use Rattle.quiver_paths.specs.Quiver.{arrow_count}
use Rattle.word_products.specs.WordProducts.{AreEntriesOf}
use Rattle.word_products.specs.Vanishing.{HasImages}
use Rattle.word_products.proofs.EntryRows.{row_counted}
use Rattle.word_products.proofs.action.add_images.Goals as goal

pub loop-a-init : goal.loop-a-init
loop-a-init c =
    let more : c.args.i * arrow_count c.args.header.now.quiver ≡ c.args.i * arrow_count c.args.header.now.quiver + 0 = omega arith in
    record {
      sum = refl;
      next = subst (λ m. HasImages c.args.header.now c.args.words.now c.args.rules.now c.args.rows.now c.args.k c.args.span.now.rows m c.args.next.now) more c.requires.next;
    }

pub add_image-requires-clause-entries : goal.add_image-requires-clause-entries
add_image-requires-clause-entries c = subst (AreEntriesOf c.args.span.now.field c.row-row.result.now (length c.row-row.result.now)) (sym c.deref.ensures.value)
    (c.in_ok-entries.ensures c.args.span.now.field (row_counted c.args.span.now.field c.args.span.now.columns c.row-row.result.now c.row-row.ensures.row))
