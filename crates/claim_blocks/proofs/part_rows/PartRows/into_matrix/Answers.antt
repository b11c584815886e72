use Rattle.std.proofs.Common.{ap, ◌∙◌}
use Rattle.linear_algebra.specs.Rows.{rows_of}
use Rattle.fp_linear.specs.Matrix.{plain}
use Rattle.claim_blocks.proofs.ReadRows.{entries_matrix}
use Rattle.claim_blocks.proofs.part_rows.PartRows.into_matrix.Goals as goal

pub returns : goal.returns
returns c =
    let x = c.self.inside in
    entries_matrix c.args.self x.field x.width x.wanted x.read x.entries.items c.in_ok-m.m c.self.view_is
    (c.in_ok-m.ensures ∙ ap (λ s. plain x.field x.read x.width (rows_of x.read x.width s)) c.deref.ensures.value)
