use Rattle.std.proofs.Common.{ap, refl, sym, ◌∙◌}
use Rattle.std.proofs.lemmas.Result.{on_ok_weaker}
use Rattle.word_products.specs.SparseRows.{SparseView}
use Rattle.word_products.proofs.EntryRows.{entries_fit, pushed_of}
use Rattle.word_products.proofs.multiplying.push_sum.Goals as goal

pub push_row-requires : goal.push_row-requires
push_row-requires c = entries_fit c.args.sum.now.field c.args.rows.now.field c.args.rows.now.width c.args.sum.now.sum c.in_ok-entries.entries.items c.deref.result.now c.requires.field
    (c.requires.width ∙ sym c.in_ok-entries.ensures.width) c.deref.ensures.value c.in_ok-entries.ensures.entries

pub returns-clause-pushed : goal.returns-clause-pushed
returns-clause-pushed c = on_ok_weaker c.push_row.result (λ e. pushed_of c.args.sum.now.field c.args.rows.now.field c.args.sum.now.sum c.args.sum.now.sum c.in_ok-entries.entries.items c.deref.result.now
    c.args.rows.now.rows c.push_row.new.self.rows c.requires.field refl c.deref.ensures.value c.in_ok-entries.ensures.entries (ap (λ (v : SparseView). v.rows) e)) c.push_row.ensures
