use Rattle.std.proofs.Common.{◌≡◌, sym, ap, ◌∙◌}
use Rattle.linear_algebra.specs.Rows.{rows_of}
use Rattle.fp_linear.specs.Matrix.{PlainMatrix}
use Rattle.fp_linear.proofs.Cells.{IsGrid-rows_of}
use Rattle.fp_linear.proofs.InvertOf.{inverse-of}
use Rattle.fp_linear.proofs.matrix.Matrix.invert.Goals as goal

pub returns-clause-inverse : goal.returns-clause-inverse
returns-clause-inverse c =
    let q = c.self.inside.field in
    let n = c.self.inside.rows in
    let square : c.self.inside.cols ≡ n = ap (λ (a : PlainMatrix). a.col_count) c.self.view_is ∙ c.requires.square ∙ sym (ap (λ (a : PlainMatrix). a.row_count) c.self.view_is) in
    let grid = IsGrid-rows_of q n n c.self.inside.entries.items c.self.invariant.small in
    let one = c.in_ok-identity.ensures in
    rw (← c.self.view_is, square) (inverse-of q n (rows_of n n c.self.inside.entries.items) c.solve.result grid (rw (← c.self.view_is, one, square) at c.solve.ensures.solution))
