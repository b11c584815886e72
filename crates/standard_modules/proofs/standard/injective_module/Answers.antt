use Rattle.std.proofs.Common.{◌≡◌, ◌∙◌, subst, arith}
use Rattle.module_types.specs.Algebras.{other_side}
use Rattle.standard_modules.specs.StandardModules.{projective_rep, injective_rep, projective_at, injective_at}
use Rattle.standard_modules.proofs.Modules.{written_shape, written_over, injective_total, injective_over, dual_is_injective}
use Rattle.standard_modules.proofs.standard.injective_module.Goals as goal

pub returns-clause-module : goal.returns-clause-module
returns-clause-module c = λ t.
    let h = c.args.table.now.header in
    let ws = c.args.table.now.words in
    let side = c.args.side in
    let at : c.in_ok-projective.projective ≡ projective_at h ws t (other_side side) c.args.v = subst (λ s. c.in_ok-projective.projective ≡ projective_at h ws t s c.args.v) c.other.ensures (c.in_ok-projective.ensures.module t) in
    let is : c.in_ok-m.m ≡ injective_at h ws t side c.args.v = c.in_ok-m.ensures _ _ (projective_rep h ws t (other_side side) c.args.v) (other_side side) at ∙ dual_is_injective h ws t side c.args.v in
    is

pub returns-clause-shape : goal.returns-clause-shape
returns-clause-shape c =
    let h = c.args.table.now.header in
    let ws = c.args.table.now.words in
    let side = c.args.side in
    let t = c.in_ok-projective.ensures.table in
    let at : c.in_ok-projective.projective ≡ projective_at h ws t (other_side side) c.args.v = subst (λ s. c.in_ok-projective.projective ≡ projective_at h ws t s c.args.v) c.other.ensures (c.in_ok-projective.ensures.module t) in
    let is : c.in_ok-m.m ≡ injective_at h ws t side c.args.v = c.in_ok-m.ensures _ _ (projective_rep h ws t (other_side side) c.args.v) (other_side side) at ∙ dual_is_injective h ws t side c.args.v in
    let e = injective_total h ws t side c.args.v in
    written_shape h side (injective_rep h ws t side c.args.v) c.in_ok-m.m is (omega (arith, e, c.injective_dim-dim.ensures.dim, c.if-dim-gt-MOST_DIMENSION.false))

pub returns-clause-over : goal.returns-clause-over
returns-clause-over c =
    let h = c.args.table.now.header in
    let ws = c.args.table.now.words in
    let side = c.args.side in
    let t = c.in_ok-projective.ensures.table in
    let at : c.in_ok-projective.projective ≡ projective_at h ws t (other_side side) c.args.v = subst (λ s. c.in_ok-projective.projective ≡ projective_at h ws t s c.args.v) c.other.ensures (c.in_ok-projective.ensures.module t) in
    let is : c.in_ok-m.m ≡ injective_at h ws t side c.args.v = c.in_ok-m.ensures _ _ (projective_rep h ws t (other_side side) c.args.v) (other_side side) at ∙ dual_is_injective h ws t side c.args.v in
    written_over h side (injective_rep h ws t side c.args.v) c.in_ok-m.m is (injective_over h ws t side c.args.v)
