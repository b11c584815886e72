use Rattle.std.proofs.Common.{◌≡◌, sym, ap, ◌∙◌, arith}
use Rattle.linear_algebra.specs.Field.{order, f9, f25, f27}
use Rattle.fp_linear.specs.Sizes.{field_of}
use Rattle.fp_linear.proofs.Fields.{is_odd_27}
use Rattle.fp_linear.proofs.MultipleTables.{multiples_9, multiples_25, multiples_27}
use Rattle.fp_linear.proofs.field.Field.multiples.Goals as goal

pub returns-in-9 : goal.returns-in-9
returns-in-9 c =
    let e : c.args.self.now ≡ f9 = sym c.self.view_is ∙ ap field_of c.in-9.is in
    rw e multiples_9

pub returns-in-25 : goal.returns-in-25
returns-in-25 c =
    let e : c.args.self.now ≡ f25 = sym c.self.view_is ∙ ap field_of c.in-25.is in
    rw e multiples_25

pub returns-in_default : goal.returns-in_default
returns-in_default c =
    let size : order c.args.self.now ≡ c.self.inside.q = ap order (sym c.self.view_is) ∙ c.self.invariant in
    let e : c.args.self.now ≡ f27 = is_odd_27 c.args.self.now c.requires.extension c.requires.odd (λ h. omega arith) (λ h. omega arith) in
    rw e multiples_27
