use Rattle.std.proofs.Common.{◌≡◌, ◌+◌, length, arith, ap, sym, subst, ◌∙◌, ◌++◌, ◌∷◌, []}
use Rattle.linear_algebra.specs.Rows.{SameSpan, rows_of}
use Rattle.linear_algebra.proofs.Rows.{length-rows_of}
use Rattle.linear_algebra.proofs.SpanPush.{SameSpan-push}
use Rattle.word_products.proofs.RowSlices.{HoldsRows-push, rows_of-append}
use Rattle.word_products.proofs.closure.Closure.push.Goals as goal

field_is : (c : goal.After-self-1) → c.self.inside.field ≡ c.args.self.now.field
field_is c = ap (λ v. v.field) c.self.view_is ∙ ap (λ v. v.field) c.make_room.ensures.shape

columns_are : (c : goal.After-self-1) → c.self.inside.columns ≡ c.args.self.now.columns
columns_are c = ap (λ v. v.columns) c.self.view_is ∙ ap (λ v. v.columns) c.make_room.ensures.shape

pub overflow_add-self : goal.overflow_add-self
overflow_add-self c =
    let r = rw (← c.self.view_is) at c.make_room.ensures.room in
    let e = length-rows_of c.self.inside.rows c.self.inside.columns c.self.inside.entries.items in
    let k = c.self.invariant.small_room in
    omega arith

pub invariant_of-self-2 : goal.invariant_of-self-2
invariant_of-self-2 c =
    let r = rw (← c.self.view_is) at c.make_room.ensures.room in
    let e = length-rows_of c.self.inside.rows c.self.inside.columns c.self.inside.entries.items in
    HoldsRows-push c.self.inside.field c.self.inside.rows c.self.inside.columns (length c.self.inside.pivots.items) c.self.inside.entries.items c.args.row.now
    c.extend_from_slice.new.self.items c.self.invariant (omega arith) (rw (field_is c, columns_are c) c.requires) c.in_ok-extend_from_slice.ensures.items

pub returns-clause-span : goal.returns-clause-span
returns-clause-span c =
    let all : rows_of (c.self.inside.rows + 1) c.self.inside.columns c.extend_from_slice.new.self.items ≡ c.make_room.new.self.rows ++ c.args.row.now ∷ [] =
    ap (rows_of (c.self.inside.rows + 1) c.self.inside.columns) c.in_ok-extend_from_slice.ensures.items
    ∙ (rows_of-append c.self.inside.rows c.self.inside.columns c.self.inside.entries.items c.args.row.now c.self.invariant.count (c.requires.count ∙ sym (columns_are c))
    ∙ ap (λ v. v.rows ++ c.args.row.now ∷ []) c.self.view_is) in
    subst (SameSpan c.args.self.now.field c.args.self.now.columns (c.args.self.now.rows ++ c.args.row.now ∷ [])) (sym all)
    (SameSpan-push c.args.self.now.field c.args.self.now.columns c.args.self.now.rows c.make_room.new.self.rows c.args.row.now c.make_room.ensures.span)
