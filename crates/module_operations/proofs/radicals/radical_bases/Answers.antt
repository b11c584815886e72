use Rattle.module_types.specs.Readings.{read}
use Rattle.module_operations.specs.ArrowSpans.{arrow_size, arrow_family}
use Rattle.module_operations.proofs.VertexForms.{HaveForms-more}
use Rattle.module_operations.proofs.ArrowStacks.{all_arrows}
use Rattle.module_operations.proofs.radicals.radical_bases.Goals as goal

pub loop-v-preserved : goal.loop-v-preserved
loop-v-preserved c =
    let h = c.args.header.now in
    let a = c.args.a.now in
    rw c.in_ok-push.ensures.items
    (HaveForms-more (read h a) (arrow_size (read h a)) (arrow_family (read h a)) c.loop-v.v c.in_ok-basis.basis c.loop-v.bases.items (all_arrows h a c.loop-v.v c.in_ok-basis.basis c.in_ok-basis.ensures) c.loop-v.invariant)
