use Rattle.std.proofs.Common.{◌≡◌, ◌*◌, sym, ap, ◌∙◌, arith, length}
use Rattle.std.proofs.lemmas.Nat.{row_fits}
use Rattle.linear_algebra.specs.Field.{order, mul}
use Rattle.fp_linear.proofs.Fields.{row_of_products, length-table_of}
use Rattle.fp_linear.proofs.field.Field.products_by.Goals as goal

pub slice_bounds-result-end : goal.slice_bounds-result-end
slice_bounds-result-end c =
    let size : order c.args.self.now ≡ c.self.inside.q = ap order (sym c.self.view_is) ∙ c.self.invariant in
    let most = row_fits c.args.factor c.self.inside.q c.self.inside.q c.self.inside.q (omega arith) (omega arith) in
    let whole : length c.products.result.now ≡ c.self.inside.q * c.self.inside.q = ap length c.products.ensures ∙ length-table_of _ (mul c.args.self.now) ∙ ap (λ n. n * n) size in
    omega arith

pub returns : goal.returns
returns c =
    let size : order c.args.self.now ≡ c.self.inside.q = ap order (sym c.self.view_is) ∙ c.self.invariant in
    row_of_products c.args.self.now c.args.factor _ _ c.products.result.now c.products.ensures c.requires.below (omega arith) (ap (λ n. c.args.factor * n) (sym size))
