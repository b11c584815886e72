use Rattle.std.proofs.Common.{◌≡◌, arith}
use Rattle.module_operations.specs.VertexSpaces.{kernel_size, kernel_family}
use Rattle.module_operations.proofs.VertexForms.{kernel_form, HaveForms-more}
use Rattle.module_operations.proofs.vertex_forms.kernel_bases.Goals as goal

pub loop-v-preserved : goal.loop-v-preserved
loop-v-preserved c = λ q Q X Y M.
    let f = c.args.f.now in
    rw c.in_ok-push.ensures.items
    (HaveForms-more X (kernel_size X Y f) (kernel_family X Y f) c.loop-v.v c.in_ok-basis.basis c.loop-v.bases.items
    (kernel_form X Y f M c.loop-v.v (omega (arith, c.loop-v-test.true, c.len-v-end.ensures)) c.index.result.now c.in_ok-basis.basis c.index.ensures c.in_ok-basis.ensures.matrix c.in_ok-basis.ensures.shape c.in_ok-basis.ensures.basis)
    (c.loop-v.invariant q Q X Y M))

pub returns : goal.returns
returns c = λ q Q X Y M.
    let end : c.loop-v.v ≡ Q.vertices = omega (arith, c.loop-v-test.false, c.loop-v.auto.v-end, c.len-v-end.ensures, M.counted) in
    rw c.from_vec.ensures (rw end at (c.loop-v.invariant q Q X Y M))
