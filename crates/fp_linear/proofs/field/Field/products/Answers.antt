use Rattle.std.proofs.Common.{◌≡◌, sym, ap, ◌∙◌, arith}
use Rattle.linear_algebra.specs.Field.{order, f4, f8, f9, f16, f25, f27}
use Rattle.fp_linear.specs.Sizes.{field_of}
use Rattle.fp_linear.proofs.Fields.{products_4, products_8, products_9, products_16, products_25, products_27, is_27}
use Rattle.fp_linear.proofs.field.Field.products.Goals as goal

pub returns-in-4 : goal.returns-in-4
returns-in-4 c =
    let e : c.args.self.now ≡ f4 = sym c.self.view_is ∙ ap field_of c.in-4.is in
    rw e products_4

pub returns-in-8 : goal.returns-in-8
returns-in-8 c =
    let e : c.args.self.now ≡ f8 = sym c.self.view_is ∙ ap field_of c.in-8.is in
    rw e products_8

pub returns-in-9 : goal.returns-in-9
returns-in-9 c =
    let e : c.args.self.now ≡ f9 = sym c.self.view_is ∙ ap field_of c.in-9.is in
    rw e products_9

pub returns-in-16 : goal.returns-in-16
returns-in-16 c =
    let e : c.args.self.now ≡ f16 = sym c.self.view_is ∙ ap field_of c.in-16.is in
    rw e products_16

pub returns-in-25 : goal.returns-in-25
returns-in-25 c =
    let e : c.args.self.now ≡ f25 = sym c.self.view_is ∙ ap field_of c.in-25.is in
    rw e products_25

pub returns-in_default : goal.returns-in_default
returns-in_default c =
    let size : order c.args.self.now ≡ c.self.inside.q = ap order (sym c.self.view_is) ∙ c.self.invariant in
    let e : c.args.self.now ≡ f27 = is_27 c.args.self.now c.requires (λ h. omega arith) (λ h. omega arith) (λ h. omega arith) (λ h. omega arith) (λ h. omega arith) in
    rw e products_27
