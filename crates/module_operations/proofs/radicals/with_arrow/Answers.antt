use Rattle.std.proofs.Common.{◌≡◌, ◌∙◌, arith}
use Rattle.module_types.specs.Algebras.{algebra_at}
use Rattle.module_types.specs.Readings.{read}
use Rattle.module_operations.proofs.ArrowSpanSteps.{SpansArrows-other}
use Rattle.module_operations.proofs.ArrowStacks.{stack_rows, stack_size, stacked_spans}
use Rattle.module_operations.proofs.radicals.with_arrow.Goals as goal

pub returns-then-target_at-vertex : goal.returns-then-target_at-vertex
returns-then-target_at-vertex c =
    SpansArrows-other (read c.args.header.now c.args.a.now) c.args.vertex c.args.arrow c.args.basis (λ e. c.if-target_at-vertex.true (c.target_at.ensures ∙ e)) c.requires.basis

pub stack-requires-clause-rows : goal.stack-requires-clause-rows
stack-requires-clause-rows c =
    stack_rows c.args.header.now c.args.a.now c.requires.allowed c.requires.shape c.args.vertex c.args.arrow c.requires.arrow c.args.basis c.index.result.now c.requires.basis c.index.ensures

pub stack-requires-clause-size : goal.stack-requires-clause-size
stack-requires-clause-size c =
    stack_size c.args.header.now c.args.a.now c.requires.allowed c.requires.shape c.args.vertex c.args.arrow c.requires.arrow c.args.basis c.index.result.now c.requires.basis c.index.ensures

pub returns : goal.returns
returns c =
    let same : (algebra_at c.args.a.now.side c.args.header.now).quiver.target c.args.arrow ≡ c.args.vertex = omega (arith, c.target_at.ensures, c.if-target_at-vertex.false) in
    stacked_spans c.args.header.now c.args.a.now c.requires.allowed c.requires.shape c.args.vertex c.args.arrow c.requires.arrow c.args.basis c.index.result.now c.requires.basis c.index.ensures same c.in_ok-both.both c.in_ok-reduced.reduced
    c.in_ok-both.ensures c.in_ok-reduced.ensures.shape c.in_ok-reduced.ensures.matrix c.in_ok-reduced.ensures.form
