use Rattle.std.proofs.Common.{◌≡◌, sym, ap, ◌∙◌, arith}
use Rattle.std.proofs.lemmas.Bool.{both_ways}
use Rattle.linear_algebra.specs.Field.{order, degree}
use Rattle.fp_linear.proofs.Fields.{neg_binary, neg_25_by_product, neg_odd, prime_neg}
use Rattle.fp_linear.proofs.field.Field.neg.Goals as goal

pub returns-then-is_binary : goal.returns-then-is_binary
returns-then-is_binary c = neg_binary c.args.self.now c.args.a (c.is_binary.ensures.0 c.if-is_binary.true) c.requires

pub returns-then-is_prime : goal.returns-then-is_prime
returns-then-is_prime c =
    let size : order c.args.self.now ≡ c.self.inside.q = ap order (sym c.self.view_is) ∙ c.self.invariant in
    let prime : degree c.args.self.now ≡ 1 = c.is_prime.ensures.0 c.if-is_prime.true in
    rw (← size) (prime_neg c.args.self.now c.args.a prime c.requires)

pub returns-then-self-eq25 : goal.returns-then-self-eq25
returns-then-self-eq25 c =
    let size : order c.args.self.now ≡ c.self.inside.q = ap order (sym c.self.view_is) ∙ c.self.invariant in
    c.mul.ensures ∙ neg_25_by_product c.args.self.now c.args.a (size ∙ c.if-self-eq25.true) c.requires

pub returns-else-self-eq25 : goal.returns-else-self-eq25
returns-else-self-eq25 c =
    let size : order c.args.self.now ≡ c.self.inside.q = ap order (sym c.self.view_is) ∙ c.self.invariant in
    c.mul-else-self-eq25.ensures ∙ neg_odd c.args.self.now c.args.a (λ h. both_ways _ c.if-is_prime.false (c.is_prime.ensures.1 h)) (λ h. both_ways _ c.if-is_binary.false (c.is_binary.ensures.1 h)) (λ h. omega arith) c.requires
