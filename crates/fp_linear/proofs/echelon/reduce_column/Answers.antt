use Rattle.std.proofs.Common.{ℕ, ◌≡◌, ◌≢◌, sym, ap, ◌∙◌, arith, get_or, set, get_or-set_same, get_or-set_other}
use Rattle.linear_algebra.specs.Field.{mul, inv}
use Rattle.linear_algebra.specs.FieldLaws.{inv_below, inv_mul, mul_inv, mul_zero}
use Rattle.linear_algebra.proofs.Rows.{SameSpan-trans}
use Rattle.fp_linear.specs.Slices.{cell}
use Rattle.fp_linear.proofs.Cells.{cell-is, cell_small}
use Rattle.fp_linear.proofs.Elimination.{IsPartlyReduced-exchanged, IsPartlyReduced-scaled, IsPartlyReduced-cleared}
use Rattle.fp_linear.proofs.Spans.{SameSpan-exchanged, SameSpan-is_scaled, SameSpan-is_cleared}
use Rattle.fp_linear.proofs.echelon.reduce_column.Goals as goal

pub inv-scale-requires-clause-nonzero : goal.inv-scale-requires-clause-nonzero
inv-scale-requires-clause-nonzero c = λ z. c.in-Some.ensures.2 (sym (c.swap_rows.ensures.exchanged.first c.args.column c.requires.inside) ∙ cell-is c.args.cols c.swap_rows.new.entries c.args.rank c.args.column ∙ z)

pub scale_row-requires-clause-element : goal.scale_row-requires-clause-element
scale_row-requires-clause-element c = rw c.inv-scale.ensures (inv_below c.args.field _)

pub clear_column-requires-clause-before : goal.clear_column-requires-clause-before
clear_column-requires-clause-before c = λ j l.
    let found = c.in-Some.ensures in
    c.scale_row.ensures.scaled.row j (omega arith) ∙ ap (mul c.args.field c.inv-scale.result)
    ((IsPartlyReduced-exchanged c.args.rows c.args.cols c.args.column c.args.rank c.in-Some.row _ _ _ c.requires.partly c.swap_rows.ensures.exchanged found.0 found.1 (omega arith)).below c.args.rank j (omega arith) (omega arith) l)
    ∙ mul_zero c.args.field _

-- the entry at the pivot before it is scaled
pub returns-in-Some-clause-partly : goal.returns-in-Some-clause-partly
returns-in-Some-clause-partly c =
    let found = c.in-Some.ensures in
    let entry = cell c.args.cols c.swap_rows.new.entries c.args.rank c.args.column in
    let nonzero : entry ≢ 0 = λ z. found.2 (sym (c.swap_rows.ensures.exchanged.first c.args.column c.requires.inside) ∙ z) in
    let below = cell_small c.args.field c.args.cols c.swap_rows.new.entries c.args.rank c.args.column (c.swap_rows.ensures.elements c.args.field c.requires.elements) in
    let scale : c.inv-scale.result ≡ inv c.args.field entry = c.inv-scale.ensures ∙ ap (inv c.args.field) (sym (cell-is c.args.cols c.swap_rows.new.entries c.args.rank c.args.column)) in
    let first = IsPartlyReduced-exchanged c.args.rows c.args.cols c.args.column c.args.rank c.in-Some.row _ _ _ c.requires.partly c.swap_rows.ensures.exchanged found.0 found.1 (omega arith) in
    let second = IsPartlyReduced-scaled c.args.field c.args.rows c.args.cols c.args.column c.args.rank c.inv-scale.result _ _ _ first c.scale_row.ensures.scaled (omega arith) (omega arith) in
    IsPartlyReduced-cleared c.args.field c.args.rows c.args.cols c.args.column c.args.rank _ _ (λ (i : ℕ). get_or c.args.pivots.now i 0) (λ (i : ℕ). get_or (set c.args.pivots.now c.args.rank c.args.column) i 0) second
    (λ i j. cell_small c.args.field c.args.cols c.scale_row.new.entries i j c.scale_row.ensures.elements) c.clear_column.ensures.cleared (omega arith) c.requires.inside
    (c.scale_row.ensures.scaled.row c.args.column c.requires.inside ∙ ap (λ a. mul c.args.field a entry) scale ∙ inv_mul c.args.field entry below nonzero)
    (λ i l. let ne : i ≢ c.args.rank = omega arith in get_or-set_other c.args.pivots.now c.args.rank i c.args.column 0 ne)
    (get_or-set_same c.args.pivots.now c.args.rank c.args.column 0 (omega arith))

pub returns-in-Some-clause-span : goal.returns-in-Some-clause-span
returns-in-Some-clause-span c =
    let found = c.in-Some.ensures in
    let entry = cell c.args.cols c.swap_rows.new.entries c.args.rank c.args.column in
    let nonzero : entry ≢ 0 = λ z. found.2 (sym (c.swap_rows.ensures.exchanged.first c.args.column c.requires.inside) ∙ z) in
    let swapped = c.swap_rows.ensures.elements c.args.field c.requires.elements in
    let below = cell_small c.args.field c.args.cols c.swap_rows.new.entries c.args.rank c.args.column swapped in
    let scale : c.inv-scale.result ≡ inv c.args.field entry = c.inv-scale.ensures ∙ ap (inv c.args.field) (sym (cell-is c.args.cols c.swap_rows.new.entries c.args.rank c.args.column)) in
    SameSpan-trans c.args.field c.args.cols _ _ _
    (SameSpan-exchanged c.args.field c.args.rows c.args.cols c.args.rank c.in-Some.row _ _ c.requires.elements swapped (omega arith) found.1 c.swap_rows.ensures.exchanged)
    (SameSpan-trans c.args.field c.args.cols _ _ _
    (SameSpan-is_scaled c.args.field c.args.rows c.args.cols c.args.rank c.inv-scale.result entry _ _ swapped c.scale_row.ensures.elements (ap (mul c.args.field entry) scale ∙ mul_inv c.args.field entry below nonzero) c.scale_row.ensures.scaled)
    (SameSpan-is_cleared c.args.field c.args.rows c.args.cols c.args.rank c.args.column _ _ c.scale_row.ensures.elements c.clear_column.ensures.elements (omega arith) c.clear_column.ensures.cleared))
