use Rattle.std.proofs.Common.{◌≡◌, ◌++◌, ◌∷◌, [], length, ap, ap₂, ◌∙◌, arith}
use Rattle.word_products.specs.SparseRows.{SparseView, pieces}
use Rattle.word_products.proofs.SparseLemmas.{pieces-push, HoldsSparse-push}
use Rattle.word_products.proofs.sparse.SparseRows.push_row.Goals as goal

ends_are : (c : goal.In-Ok) → c.push.new.self.items ≡ c.self.inside.ends.items ++ length (c.self.inside.entries.items ++ c.args.row.now) ∷ []
ends_are c =
    let e : c.len.result ≡ length (c.self.inside.entries.items ++ c.args.row.now) = omega (arith, c.len.ensures, c.extend_from_slice.new.self.ok.0, ap length c.in_ok-extend_from_slice.ensures.items) in
    c.in-Ok.ensures.items ∙ ap (λ n. c.self.inside.ends.items ++ n ∷ []) e

pub invariant_of-self-in-Ok : goal.invariant_of-self-in-Ok
invariant_of-self-in-Ok c =
    rw (ends_are c, c.in_ok-extend_from_slice.ensures.items)
    (HoldsSparse-push c.self.inside.field c.self.inside.width c.self.inside.ends.items c.self.inside.entries.items c.args.row.now c.self.invariant (rw (← c.self.view_is) at c.requires))

pub returns-in-Ok : goal.returns-in-Ok
returns-in-Ok c =
    ap₂ (λ x y. record { field = c.self.inside.field; width = c.self.inside.width; rows = pieces x y }) (ends_are c) c.in_ok-extend_from_slice.ensures.items
    ∙ ap (λ r. record { field = c.self.inside.field; width = c.self.inside.width; rows = r })
    (pieces-push c.self.inside.field c.self.inside.width c.self.inside.ends.items c.self.inside.entries.items c.args.row.now c.self.invariant)
    ∙ ap (λ (v : SparseView). record { field = v.field; width = v.width; rows = v.rows ++ c.args.row.now ∷ [] }) c.self.view_is
