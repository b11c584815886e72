use Rattle.std.proofs.Common.{◌≡◌, ◌∙◌, sym, ap, arith}
use Rattle.std.specs.Prelude.{slice_index_or}
use Rattle.module_types.specs.Readings.{family_of}
use Rattle.module_operations.proofs.VertexForms.{image_form, HaveForms-more}
use Rattle.module_operations.proofs.vertex_forms.image_bases.Goals as goal

pub loop-v-preserved : goal.loop-v-preserved
loop-v-preserved c = λ q Q X Y M.
    let f = c.args.f.now in
    let copy : c.in_ok-clone.field-0 ≡ slice_index_or f c.loop-v.v c.in_ok-clone.field-0 = c.in_ok-clone.ensures.cases ∙ c.index.ensures ∙ ap (slice_index_or f c.loop-v.v) (sym c.in_ok-clone.ensures.cases) in
    rw c.in_ok-push.ensures.items
    (HaveForms-more Y X.dim (family_of X Y f) c.loop-v.v c.in_ok-basis.basis c.loop-v.bases.items
    (image_form X Y f M c.loop-v.v (omega (arith, c.loop-v-test.true, c.len-v-end.ensures)) c.in_ok-clone.field-0 c.in_ok-basis.basis copy c.in_ok-basis.ensures.matrix c.in_ok-basis.ensures.shape c.in_ok-basis.ensures.form)
    (c.loop-v.invariant q Q X Y M))

pub returns : goal.returns
returns c = λ q Q X Y M.
    let end : c.loop-v.v ≡ Q.vertices = omega (arith, c.loop-v-test.false, c.loop-v.auto.v-end, c.len-v-end.ensures, M.counted) in
    rw c.from_vec.ensures (rw end at (c.loop-v.invariant q Q X Y M))
