use Rattle.std.proofs.Common.{ℕ, ◌≡◌, ◌*◌, sym, ap, ◌∙◌, arith, length}
use Rattle.std.proofs.lemmas.Nat.{row_fits}
use Rattle.std.proofs.Math.Nat.{mul_comm}
use Rattle.linear_algebra.specs.Field.{order}
use Rattle.fp_linear.proofs.MultipleTables.{part_of_multiples, length-multiples_of}
use Rattle.fp_linear.proofs.field.Field.sums_by.Goals as goal

pub slice_bounds-result-end : goal.slice_bounds-result-end
slice_bounds-result-end c =
    let size : order c.args.self.now ≡ c.self.inside.q = ap order (sym c.self.view_is) ∙ c.self.invariant in
    let part : ℕ = c.self.inside.q * c.self.inside.q in
    let most = row_fits c.args.factor part c.self.inside.q part (omega arith) (omega arith) in
    let whole : length c.multiples.result.now ≡ c.self.inside.q * c.self.inside.q * c.self.inside.q = ap length c.multiples.ensures ∙ length-multiples_of c.args.self.now ∙ ap (λ n. n * n * n) size in
    omega (arith, mul_comm c.self.inside.q part)

pub returns : goal.returns
returns c =
    let size : order c.args.self.now ≡ c.self.inside.q = ap order (sym c.self.view_is) ∙ c.self.invariant in
    let part : c.self.inside.q * c.self.inside.q ≡ order c.args.self.now * order c.args.self.now = ap (λ n. n * n) (sym size) in
    part_of_multiples c.args.self.now c.args.factor _ _ c.multiples.result.now c.multiples.ensures c.requires.below (omega arith) (ap (λ n. c.args.factor * n) part)
