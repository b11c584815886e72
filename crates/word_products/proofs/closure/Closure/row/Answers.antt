use Rattle.std.proofs.Common.{◌<◌, length, ap, sym, subst, arith}
use Rattle.std.proofs.lemmas.Nat.{row_fits}
use Rattle.linear_algebra.specs.Rows.{IsInSpan, rows_of}
use Rattle.linear_algebra.proofs.Rows.{length-rows_of, IsInSpan-row}
use Rattle.fp_linear.proofs.Cells.{IsGrid-rows_of}
use Rattle.fp_linear.proofs.Matrices.{row-part}
use Rattle.word_products.proofs.closure.Closure.row.Goals as goal

pub returns-clause-value : goal.returns-clause-value
returns-clause-value c =
    let r = rw (← c.self.view_is) at c.requires in
    let e = length-rows_of c.self.inside.rows c.self.inside.columns c.self.inside.entries.items in
    rw (← c.self.view_is, c.deref.ensures.value) (row-part c.self.inside.rows c.self.inside.columns c.args.i _ c.self.inside.entries.items c.self.invariant.count (omega arith) (omega arith))

pub returns-clause-span : goal.returns-clause-span
returns-clause-span c =
    let r = rw (← c.self.view_is) at c.requires in
    let e = length-rows_of c.self.inside.rows c.self.inside.columns c.self.inside.entries.items in
    let l : c.args.i < c.self.inside.rows = omega arith in
    rw (← c.self.view_is, c.deref.ensures.value)
    (subst (IsInSpan c.self.inside.field c.self.inside.columns (rows_of c.self.inside.rows c.self.inside.columns c.self.inside.entries.items))
    (sym (row-part c.self.inside.rows c.self.inside.columns c.args.i _ c.self.inside.entries.items c.self.invariant.count l (omega arith)))
    (IsInSpan-row c.self.inside.field c.self.inside.rows c.self.inside.columns (rows_of c.self.inside.rows c.self.inside.columns c.self.inside.entries.items) c.args.i
    (IsGrid-rows_of c.self.inside.field c.self.inside.rows c.self.inside.columns c.self.inside.entries.items c.self.invariant.elements) l))

pub slice_bounds-result-end : goal.slice_bounds-result-end
slice_bounds-result-end c =
    let r = rw (← c.self.view_is) at c.requires in
    let e = length-rows_of c.self.inside.rows c.self.inside.columns c.self.inside.entries.items in
    let l : c.args.i < c.self.inside.rows = omega arith in
    let v = ap length c.deref.ensures.value in
    let k = c.self.invariant.count in
    let most = row_fits c.args.i c.self.inside.columns c.self.inside.rows c.self.inside.columns l (omega arith) in
    omega arith
