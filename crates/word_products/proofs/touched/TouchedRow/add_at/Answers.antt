use Rattle.std.proofs.Common.{◌≡◌, ◌<◌, length, get_or, set, sym, ap, ◌∙◌, subst, arith}
use Rattle.std.proofs.lemmas.List.{get_or_read}
use Rattle.linear_algebra.specs.Field.{Gf, order, add}
use Rattle.linear_algebra.specs.FieldLaws.{add_below, zero_add}
use Rattle.word_products.specs.SparseRows.{TouchedView}
use Rattle.word_products.proofs.TouchedRows.{touched-over, over-written}
use Rattle.word_products.proofs.touched.TouchedRow.add_at.Goals as goal

pub invariant_of-self : goal.invariant_of-self
invariant_of-self c =
    let inside : c.args.place < c.self.inside.width = (let r = c.requires.place in let w = ap (λ (v : TouchedView). v.width) c.self.view_is in omega arith) in
    let read = get_or_read c.self.inside.row.items _ _ (let n = c.self.invariant.row_is.count in omega arith) c.index-old.ensures 0 in
    touched-over c.self.inside.field c.self.inside.width c.self.inside.row.items c.self.inside.places.items c.self.invariant c.args.place inside c.add.result
    (subst (λ x. x < order c.self.inside.field) (sym c.add.ensures) (add_below c.self.inside.field _ _)) (λ z. c.if-old-ne0.true (read ∙ z))

pub returns-then-old-ne0-clause-fits : goal.returns-then-old-ne0-clause-fits
returns-then-old-ne0-clause-fits c =
    let inside : c.args.place < c.self.inside.width = (let r = c.requires.place in let w = ap (λ (v : TouchedView). v.width) c.self.view_is in omega arith) in
    let read = get_or_read c.self.inside.row.items _ _ (let n = c.self.invariant.row_is.count in omega arith) c.index-old.ensures 0 in
    over-written c.self.inside.field c.self.inside.width _ c.self.inside.places.items c.args.self.now
    (touched-over c.self.inside.field c.self.inside.width c.self.inside.row.items c.self.inside.places.items c.self.invariant c.args.place inside c.add.result
    (subst (λ x. x < order c.self.inside.field) (sym c.add.ensures) (add_below c.self.inside.field _ _)) (λ z. c.if-old-ne0.true (read ∙ z)))
    (ap (λ (v : TouchedView). v.field) c.self.view_is) (ap (λ (v : TouchedView). v.width) c.self.view_is)

pub returns-clause-row : goal.returns-clause-row
returns-clause-row c =
    let inside : c.args.place < length c.self.inside.row.items = (let r = c.requires.place in let w = ap (λ (v : TouchedView). v.width) c.self.view_is in let n = c.self.invariant.row_is.count in omega arith) in
    let none : get_or c.self.inside.row.items c.args.place 0 ≡ 0 = sym (get_or_read c.self.inside.row.items _ _ inside c.index-old.ensures 0) ∙ c.if-old-ne0.false in
    let small : c.args.coef < order c.self.inside.field = subst (λ (q : Gf). c.args.coef < order q) (sym (ap (λ (v : TouchedView). v.field) c.self.view_is)) c.requires.coef in
    rw (← c.self.view_is) (ap (set c.self.inside.row.items c.args.place) (sym (ap (λ x. add c.self.inside.field x c.args.coef) none ∙ zero_add c.self.inside.field c.args.coef small)))
