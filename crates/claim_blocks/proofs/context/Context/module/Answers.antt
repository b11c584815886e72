use Rattle.std.specs.Prelude.{slice_index_or}
use Rattle.std.proofs.Common.{◌≡◌, arith, ◌-◌, refl, subst}
use Rattle.report_types.specs.Numbers.{module_of, no_module}
use Rattle.claim_blocks.specs.Setting.{Setting}
use Rattle.claim_blocks.proofs.ContextReading.{module_before, module_zero, module_past, module_here}
use Rattle.claim_blocks.proofs.context.Context.module.Goals as goal
use Rattle.claim_blocks.proofs.context.Context.module.Goals.{then-n-before-via-then-n-before, then-n-before-via-else-n-before+then-n-before-2}

pub returns-in-Some : goal.returns-in-Some
returns-in-Some c =
    let x = c.self.inside in
    subst (λ (s : Setting). c.in-Some.found.now ≡ module_of s.records c.args.n) c.self.view_is (module_before x.before.now x.modules.now x.maps.now c.args.n c.in-Some.found.now c.in-Some.ensures.0 c.in-Some.ensures.1)

pub returns-then-n-before : goal.returns-then-n-before
returns-then-n-before c =
    let x = c.self.inside in
    subst (λ (s : Setting). module_of s.records c.args.n ≡ no_module) c.self.view_is (elim c.then-n-before.branch [
      | then-n-before-via-then-n-before w ↦ module_zero x.before.now x.modules.now x.maps.now c.args.n c.in_default.ensures (omega (arith, w.if-n-before, c.module_count-before.ensures))
      | then-n-before-via-else-n-before+then-n-before-2 w ↦ module_past x.before.now x.modules.now x.maps.now c.args.n (omega (arith, w.if-n-before, w.if-n-before-2, c.module_count-before.ensures))
    ])

pub returns : goal.returns
returns c =
    let x = c.self.inside in
    let l = c.module_count-before.ensures in
    let m = slice_index_or x.modules.now (c.args.n - c.module_count-before.result - 1) c.index-self-n.result in
    subst (λ (s : Setting). m ≡ module_of s.records c.args.n) c.self.view_is
    (module_here x.before.now x.modules.now x.maps.now c.args.n m c.index-self-n.result (c.args.n - c.module_count-before.result - 1) (omega (arith, c.if-n-before.false, l)) (omega (arith, c.if-n-before.false, c.if-n-before-2.false, l)) refl)
