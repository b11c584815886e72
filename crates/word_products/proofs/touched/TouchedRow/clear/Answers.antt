use Rattle.std.proofs.Common.{◌≡◌, length, take, drop, ◌++◌, sym, ap, ◌∙◌, subst, arith}
use Rattle.std.proofs.lemmas.List.{take_at}
use Rattle.linear_algebra.specs.Rows.{IsRow, zeros}
use Rattle.word_products.specs.SparseRows.{TouchedView}
use Rattle.word_products.proofs.TermSums.{IsRow-zeros}
use Rattle.word_products.proofs.TouchedRows.{touched-zeros, touched-same, touched-inside}
use Rattle.word_products.proofs.touched.TouchedRow.clear.Goals as goal

pub make_zero-requires : goal.make_zero-requires
make_zero-requires c = touched-inside c.self.inside.field c.self.inside.width c.deref_mut.result.now c.deref.result.now
    (touched-same c.self.inside.field c.self.inside.width c.self.inside.row.items c.self.inside.places.items _ _ c.self.invariant c.deref_mut.ensures.value c.deref.ensures.value)

cleared : (c : goal.After-clear) → take c.self.inside.row.len (c.make_zero.new.row ++ drop (length c.make_zero.new.row) c.self.inside.row.items) ≡ zeros c.self.inside.width
cleared c =
    let count : length c.make_zero.new.row ≡ c.self.inside.row.len = (let a = c.make_zero.auto.row in let v = ap length c.deref_mut.ensures.value in let o = c.self.inside.row.ok in omega arith) in
    take_at c.make_zero.new.row _ c.self.inside.row.len count
    ∙ c.make_zero.ensures c.self.inside.field c.self.inside.width
    (touched-same c.self.inside.field c.self.inside.width c.self.inside.row.items c.self.inside.places.items _ _ c.self.invariant c.deref_mut.ensures.value c.deref.ensures.value)

pub invariant_of-self : goal.invariant_of-self
invariant_of-self c = touched-zeros c.self.inside.field c.self.inside.width _ _ (cleared c) c.clear.ensures.items

pub returns-clause-fits : goal.returns-clause-fits
returns-clause-fits c = record {
  field_is = ap (λ (v : TouchedView). v.field) c.self.view_is;
  width_is = ap (λ (v : TouchedView). v.width) c.self.view_is;
  row_is = subst (IsRow c.args.self.now.field c.args.self.now.width) (sym (cleared c ∙ ap zeros (ap (λ (v : TouchedView). v.width) c.self.view_is)))
      (IsRow-zeros c.args.self.now.field c.args.self.now.width);
}

pub returns-clause-row : goal.returns-clause-row
returns-clause-row c = cleared c ∙ ap zeros (ap (λ (v : TouchedView). v.width) c.self.view_is)
