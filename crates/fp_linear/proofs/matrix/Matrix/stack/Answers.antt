use Rattle.std.proofs.Common.{ℕ, ◌≡◌, ◌+◌, sym, ap, ◌∙◌, List, ◌++◌}
use Rattle.linear_algebra.specs.Rows.{rows_of}
use Rattle.fp_linear.specs.Matrix.{PlainMatrix, plain}
use Rattle.fp_linear.proofs.Products.{rows_of-append}
use Rattle.fp_linear.proofs.matrix.Matrix.stack.Goals as goal

pub returns : goal.returns
returns c =
    let q = c.self.inside.field in
    let m = c.self.inside.rows in
    let k = c.below.inside.rows in
    let n = c.self.inside.cols in
    let shape : c.below.inside.cols ≡ n = ap (λ (a : PlainMatrix). a.col_count) c.below.view_is ∙ c.requires.shape ∙ sym (ap (λ (a : PlainMatrix). a.col_count) c.self.view_is) in
    let first : c.extend_from_slice.new.self.items ≡ c.self.inside.entries.items = c.in_ok-extend_from_slice.ensures.items ∙ ap (λ (x : List ℕ). x ++ c.deref.result.now) c.in_ok-entries.ensures.items ∙ c.deref.ensures.value in
    let whole : c.extend_from_slice-2.new.self.items ≡ c.self.inside.entries.items ++ c.below.inside.entries.items =
    c.in_ok-extend_from_slice-2.ensures.items ∙ ap (λ (x : List ℕ). x ++ c.deref-2.result.now) first ∙ ap (λ (x : List ℕ). c.self.inside.entries.items ++ x) c.deref-2.ensures.value in
    rw (← c.self.view_is, ← c.below.view_is)
    (ap (plain q (m + k) n)
    (ap (rows_of (m + k) n) whole ∙ rows_of-append m k n c.self.inside.entries.items c.below.inside.entries.items c.self.invariant.count
    ∙ ap (λ (r : ℕ). rows_of m n c.self.inside.entries.items ++ rows_of k r c.below.inside.entries.items) (sym shape)))
