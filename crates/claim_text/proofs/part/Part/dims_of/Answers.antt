use Rattle.std.proofs.Common.{arith, ap, ◌∙◌, ◌-◌}
use Rattle.module_types.specs.declared.Module.{Module}
use Rattle.claim_text.proofs.ObjectReading.{module_before, module_zero, module_past, module_here}
use Rattle.claim_text.proofs.part.Part.dims_of.Goals as goal
use Rattle.claim_text.proofs.part.Part.dims_of.Goals.{then-n-before-via-then-n-before, then-n-before-via-else-n-before+then-n-before-2}

pub returns-in-Some : goal.returns-in-Some
returns-in-Some c = c.as_slice.ensures ∙ ap (λ (m : Module). m.dims) (module_before c.args.self.now c.args.n c.in-Some.found.now c.in-Some.ensures.0 c.in-Some.ensures.1)

pub returns-then-n-before : goal.returns-then-n-before
returns-then-n-before c =
    elim c.then-n-before.branch [
      | then-n-before-via-then-n-before w ↦ ap (λ (m : Module). m.dims) (module_zero c.args.self.now c.args.n c.in_default.ensures (omega (arith, w.if-n-before, c.module_count-before.ensures)))
      | then-n-before-via-else-n-before+then-n-before-2 w ↦ ap (λ (m : Module). m.dims) (module_past c.args.self.now c.args.n (omega (arith, w.if-n-before, w.if-n-before-2, w.len.ensures, c.module_count-before.ensures)))
    ]

pub returns : goal.returns
returns c =
    c.as_slice-2.ensures
    ∙ ap (λ (m : Module). m.dims) (module_here c.args.self.now c.args.n c.index.result.now _ (c.args.n - c.module_count-before.result - 1)
    (omega (arith, c.if-n-before.false, c.module_count-before.ensures)) (omega (arith, c.if-n-before.false, c.if-n-before-2.false, c.len.ensures, c.module_count-before.ensures)) c.index.ensures)
