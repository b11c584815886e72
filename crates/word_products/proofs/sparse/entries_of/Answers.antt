use Rattle.std.proofs.Common.{◌≡◌, ◌+◌, subst, sym, refl, ap, get_or, ◌∙◌, arith, length}
use Rattle.word_products.specs.WordProducts.{AreEntriesOf}
use Rattle.word_products.proofs.EntryRows.{entries-none, entries-skip, entries-push}
use Rattle.word_products.proofs.sparse.entries_of.Goals as goal
use Rattle.word_products.proofs.sparse.entries_of.Goals.{then-coef-ne0+in_ok-push, else-coef-ne0}

pub loop-j-init : goal.loop-j-init
loop-j-init c q r = subst (AreEntriesOf q c.args.row.now 0) (sym c.new-entries.ensures.items) (entries-none q c.args.row.now)

pub loop-j-preserved : goal.loop-j-preserved
loop-j-preserved c q r = elim c.if-coef-ne0.branch [
  | then-coef-ne0+in_ok-push w ↦ subst (AreEntriesOf q c.args.row.now (c.loop-j.j + 1)) (sym (ap (λ v. v.items) w.entries-is ∙ w.in_ok-push.ensures.items))
      (entries-push q c.args.row.now c.loop-j.j c.loop-j.entries.items (record { coef = get_or c.args.row.now c.loop-j.j 0; word = c.loop-j.j }) r (c.loop-j.invariant q r) c.loop-j-test.true refl refl)
  | else-coef-ne0 w ↦ subst (AreEntriesOf q c.args.row.now (c.loop-j.j + 1)) (sym (ap (λ v. v.items) w.entries-is))
      (entries-skip q c.args.row.now c.loop-j.j c.loop-j.entries.items (c.loop-j.invariant q r) w.if-coef-ne0.false)
]

pub returns : goal.returns
returns c q r =
    let done : c.loop-j.j ≡ length c.args.row.now = (let e = c.loop-j.auto.j-end in let t = c.loop-j-test.false in omega arith) in
    subst (λ k. AreEntriesOf q c.args.row.now k c.loop-j.entries.items) done (c.loop-j.invariant q r)
