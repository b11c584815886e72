use Rattle.std.proofs.Common.{◌≡◌, sym, ap, ◌∙◌}
use Rattle.std.proofs.lemmas.Nat.{mul-add-lt}
use Rattle.linear_algebra.specs.Field.{order, degree, mul}
use Rattle.linear_algebra.proofs.PrimeFields.{prime_mul}
use Rattle.fp_linear.proofs.Fields.{length-table_of, table_of-at}
use Rattle.fp_linear.proofs.field.Field.mul.Goals as goal

pub bounds-products-a : goal.bounds-products-a
bounds-products-a c =
    let size : order c.args.self.now ≡ c.self.inside.q = ap order (sym c.self.view_is) ∙ c.self.invariant in
    let fits = mul-add-lt c.args.a (order c.args.self.now) c.args.b (order c.args.self.now) c.requires.a_below c.requires.b_below in
    rw (c.products.ensures, length-table_of, ← size) fits

pub returns-else-is_prime : goal.returns-else-is_prime
returns-else-is_prime c =
    let size : order c.args.self.now ≡ c.self.inside.q = ap order (sym c.self.view_is) ∙ c.self.invariant in
    rw (c.products.ensures, ← size) (table_of-at (order c.args.self.now) (mul c.args.self.now) c.args.a c.args.b c.requires.a_below c.requires.b_below)

pub returns-then-is_prime : goal.returns-then-is_prime
returns-then-is_prime c =
    let size : order c.args.self.now ≡ c.self.inside.q = ap order (sym c.self.view_is) ∙ c.self.invariant in
    let prime : degree c.args.self.now ≡ 1 = c.is_prime.ensures.0 c.if-is_prime.true in
    rw (← size) (sym (prime_mul c.args.self.now c.args.a c.args.b prime))
