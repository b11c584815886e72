use Rattle.std.proofs.Common.{◌≡◌, arith}
use Rattle.module_types.specs.Algebras.{algebra_at}
use Rattle.module_types.specs.Readings.{read}
use Rattle.module_checks.proofs.Sides.{arrows_at}
use Rattle.module_operations.proofs.OnQuotients.{HaveInduced-more, on_quotients_is}
use Rattle.module_operations.proofs.quotient_modules.quotient_module.Goals as goal

pub loop-arrow-preserved : goal.loop-arrow-preserved
loop-arrow-preserved c =
    rw c.in_ok-push.ensures.items
    (HaveInduced-more (read c.args.header.now c.args.a.now) c.args.projections.now c.loop-arrow.arrow c.in_ok-matrix.matrix c.loop-arrow.matrices.items c.in_ok-matrix.ensures c.loop-arrow.invariant)

pub returns : goal.returns
returns c =
    let h = c.args.header.now in
    let a = c.args.a.now in
    let end : c.loop-arrow.arrow ≡ (algebra_at a.side h).quiver.arrows = omega (arith, arrows_at a.side h, c.loop-arrow-test.false, c.loop-arrow.auto.arrow-end, c.len-arrow-end.ensures) in
    rw c.from_vec.ensures (on_quotients_is h a c.requires.shape c.args.projections.now c.requires.quotients c.loop-arrow.matrices.items (rw end at c.loop-arrow.invariant) c.in_ok-dims.dims c.in_ok-dims.ensures)
