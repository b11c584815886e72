use Rattle.std.proofs.Common.{◌≡◌, sym, ap, ◌∙◌}
use Rattle.std.proofs.lemmas.Nat.{mul-add-lt}
use Rattle.linear_algebra.specs.Field.{order, degree, add}
use Rattle.linear_algebra.specs.FieldLaws.{one_mul}
use Rattle.linear_algebra.proofs.PrimeFields.{prime_add}
use Rattle.fp_linear.proofs.Fields.{xor_adds}
use Rattle.fp_linear.proofs.MultipleTables.{letter_back}
use Rattle.fp_linear.proofs.field.Field.add.Goals as goal

pub bounds-sums_by-a : goal.bounds-sums_by-a
bounds-sums_by-a c =
    let size : order c.args.self.now ≡ c.self.inside.q = ap order (sym c.self.view_is) ∙ c.self.invariant in
    let fits = mul-add-lt c.args.a (order c.args.self.now) c.args.b (order c.args.self.now) c.requires.a_below c.requires.b_below in
    rw (c.sums_by.ensures.count, ← size) fits

pub returns-else-is_prime : goal.returns-else-is_prime
returns-else-is_prime c =
    let size : order c.args.self.now ≡ c.self.inside.q = ap order (sym c.self.view_is) ∙ c.self.invariant in
    rw (← size, c.sums_by.ensures.sums c.args.a c.args.b c.requires.a_below c.requires.b_below, one_mul c.args.self.now c.args.b c.requires.b_below) (letter_back (add c.args.self.now c.args.a c.args.b))

pub returns-then-is_prime : goal.returns-then-is_prime
returns-then-is_prime c =
    let size : order c.args.self.now ≡ c.self.inside.q = ap order (sym c.self.view_is) ∙ c.self.invariant in
    let prime : degree c.args.self.now ≡ 1 = c.is_prime.ensures.0 c.if-is_prime.true in
    rw (← size) (sym (prime_add c.args.self.now c.args.a c.args.b prime))

pub returns-then-is_binary : goal.returns-then-is_binary
returns-then-is_binary c = xor_adds c.args.self.now c.args.a c.args.b (c.is_binary.ensures.0 c.if-is_binary.true) c.requires.a_below c.requires.b_below
