use Rattle.std.proofs.Common.{◌≡◌, sym, ap, ◌∙◌, arith}
use Rattle.linear_algebra.specs.Field.{order, mul, inv}
use Rattle.linear_algebra.specs.FieldLaws.{mul_zero, mul_inv, inv_below}
use Rattle.fp_linear.proofs.Fields.{inverse_unique}
use Rattle.fp_linear.proofs.field.Field.inv.Goals as goal

pub returns-then-mul-eq1 : goal.returns-then-mul-eq1
returns-then-mul-eq1 c =
    let size : order c.args.self.now ≡ c.self.inside.q = ap order (sym c.self.view_is) ∙ c.self.invariant in
    inverse_unique c.args.self.now c.args.a c.loop-b.b c.requires.below c.requires.nonzero (omega arith) (sym c.mul.ensures ∙ c.if-mul-eq1.true)

pub returns : goal.returns
returns c =
    let size : order c.args.self.now ≡ c.self.inside.q = ap order (sym c.self.view_is) ∙ c.self.invariant in
    let i = inv c.args.self.now c.args.a in
    let bound = inv_below c.args.self.now c.args.a in
    absurd (c.loop-b.invariant i (omega arith) (mul_inv c.args.self.now c.args.a c.requires.below c.requires.nonzero))

pub loop-b-init : goal.loop-b-init
loop-b-init c = λ k h e.
    let none : k ≡ 0 = omega arith in
    let zero : mul c.args.self.now c.args.a k ≡ 0 = ap (mul c.args.self.now c.args.a) none ∙ mul_zero c.args.self.now c.args.a in
    omega arith
