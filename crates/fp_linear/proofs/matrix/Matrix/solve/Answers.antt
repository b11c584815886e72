use Rattle.std.proofs.Common.{ℕ, ◌≡◌, ◌<◌, ◌+◌, sym, ap, ◌∙◌, arith, get_or}
use Rattle.std.proofs.lemmas.List.{take_at}
use Rattle.linear_algebra.specs.Rows.{rows_of}
use Rattle.linear_algebra.specs.RowSolutions.{IsReadFrom}
use Rattle.fp_linear.specs.Slices.{cell, AreElements}
use Rattle.fp_linear.specs.Matrix.{PlainMatrix}
use Rattle.fp_linear.proofs.Cells.{IsGrid-rows_of}
use Rattle.fp_linear.proofs.KernelOf.{pivots-ascend}
use Rattle.fp_linear.proofs.SolveOf.{solution-of, no_solution-of}
use Rattle.fp_linear.proofs.matrix.Matrix.solve.Goals as goal

pub count_below-requires-clause-ascending : goal.count_below-requires-clause-ascending
count_below-requires-clause-ascending c = λ i k l b.
    let pivots : c.deref-3.result.now ≡ c.reduce_equations-rank.new.pivots = c.deref-3.ensures.value ∙ take_at c.reduce_equations-rank.new.pivots _ _ (omega (arith, c.deref_mut-2.ensures.len, c.reduce_equations-rank.auto.pivots)) in
    rw pivots (pivots-ascend _ _ _ _ c.reduce_equations-rank.new.pivots _ i k c.reduce_equations-rank.ensures.equations.form l b)

pub read_solution-requires-clause-ascending : goal.read_solution-requires-clause-ascending
read_solution-requires-clause-ascending c = λ i k l b.
    let pivots : c.deref-5.result.now ≡ c.reduce_equations-rank.new.pivots = c.deref-5.ensures.value ∙ take_at c.reduce_equations-rank.new.pivots _ _ (omega (arith, c.deref_mut-2.ensures.len, c.reduce_equations-rank.auto.pivots)) in
    rw pivots (pivots-ascend _ _ _ _ c.reduce_equations-rank.new.pivots _ i k c.reduce_equations-rank.ensures.equations.form l b)

pub returns-then-count_below-rank-clause-solution : goal.returns-then-count_below-rank-clause-solution
returns-then-count_below-rank-clause-solution c =
    let q = c.self.inside.field in
    let m = c.self.inside.rows in
    let n = c.self.inside.cols in
    let k = c.right.inside.rows in
    let rank = c.reduce_equations-rank.result in
    let wide = c.reduce_equations-rank.new.wide in
    let ps = c.reduce_equations-rank.new.pivots in
    let shape : c.right.inside.cols ≡ n = ap (λ (a : PlainMatrix). a.col_count) c.right.view_is ∙ c.requires.shape ∙ sym (ap (λ (a : PlainMatrix). a.col_count) c.self.view_is) in
    let same : c.right.inside.field ≡ q = ap (λ (a : PlainMatrix). a.field) c.right.view_is ∙ c.requires.field ∙ sym (ap (λ (a : PlainMatrix). a.field) c.self.view_is) in
    let left : rows_of m n c.self.inside.entries.items ≡ rows_of m n c.deref.result.now = ap (rows_of m n) (sym c.deref.ensures.value) in
    let right : rows_of k c.right.inside.cols c.right.inside.entries.items ≡ rows_of k n c.deref-2.result.now = ap (λ (r : ℕ). rows_of k r c.right.inside.entries.items) shape ∙ ap (rows_of k n) (sym c.deref-2.ensures.value) in
    let ga = IsGrid-rows_of q m n c.deref.result.now (rw c.deref.ensures.value c.self.invariant.small) in
    let gy = IsGrid-rows_of q k n c.deref-2.result.now (rw (c.deref-2.ensures.value, ← same) c.right.invariant.small) in
    let pivots : c.deref-3.result.now ≡ ps = c.deref-3.ensures.value ∙ take_at ps _ _ (omega (arith, c.deref_mut-2.ensures.len, c.reduce_equations-rank.auto.pivots)) in
    rw (← c.self.view_is, ← c.right.view_is, left, right)
    (λ x s. no_solution-of q m k n rank c.count_below.result _ _ x wide ps ga gy c.reduce_equations-rank.ensures.elements c.reduce_equations-rank.ensures.equations c.if-count_below-rank.true (rw pivots at (c.count_below.ensures.behind c.count_below.result (omega arith) c.if-count_below-rank.true)) s)

pub returns-clause-solution : goal.returns-clause-solution
returns-clause-solution c =
    let q = c.self.inside.field in
    let m = c.self.inside.rows in
    let n = c.self.inside.cols in
    let k = c.right.inside.rows in
    let rank = c.reduce_equations-rank.result in
    let wide = c.reduce_equations-rank.new.wide in
    let ps = c.reduce_equations-rank.new.pivots in
    let shape : c.right.inside.cols ≡ n = ap (λ (a : PlainMatrix). a.col_count) c.right.view_is ∙ c.requires.shape ∙ sym (ap (λ (a : PlainMatrix). a.col_count) c.self.view_is) in
    let same : c.right.inside.field ≡ q = ap (λ (a : PlainMatrix). a.field) c.right.view_is ∙ c.requires.field ∙ sym (ap (λ (a : PlainMatrix). a.field) c.self.view_is) in
    let left : rows_of m n c.self.inside.entries.items ≡ rows_of m n c.deref.result.now = ap (rows_of m n) (sym c.deref.ensures.value) in
    let right : rows_of k c.right.inside.cols c.right.inside.entries.items ≡ rows_of k n c.deref-2.result.now = ap (λ (r : ℕ). rows_of k r c.right.inside.entries.items) shape ∙ ap (rows_of k n) (sym c.deref-2.ensures.value) in
    let ga = IsGrid-rows_of q m n c.deref.result.now (rw c.deref.ensures.value c.self.invariant.small) in
    let gy = IsGrid-rows_of q k n c.deref-2.result.now (rw (c.deref-2.ensures.value, ← same) c.right.invariant.small) in
    let pivots : c.deref-3.result.now ≡ ps = c.deref-3.ensures.value ∙ take_at ps _ _ (omega (arith, c.deref_mut-2.ensures.len, c.reduce_equations-rank.auto.pivots)) in
    let whole : c.count_below.result ≡ rank = (let f = c.count_below.ensures.fits in let g = c.if-count_below-rank.false in omega arith) in
    let before : (i : ℕ) → i < rank → get_or ps i 0 < m = rw (pivots, whole) at c.count_below.ensures.before in
    let equations : c.deref-4.result.now ≡ wide = c.deref-4.ensures.value ∙ take_at wide _ _ (omega (arith, c.deref_mut.ensures.len, c.reduce_equations-rank.auto.wide)) in
    let columns : c.deref-5.result.now ≡ ps = c.deref-5.ensures.value ∙ take_at ps _ _ (omega (arith, c.deref_mut-2.ensures.len, c.reduce_equations-rank.auto.pivots)) in
    let read : IsReadFrom m k rank (λ i. get_or ps i 0) (cell (m + k) wide) (cell m c.read_solution.new.entries) = rw (equations, columns) at c.read_solution.ensures.read in
    let small : AreElements q c.read_solution.new.entries = c.read_solution.ensures.elements q (rw equations c.reduce_equations-rank.ensures.elements) in
    rw (← c.self.view_is, ← c.right.view_is, take_at c.read_solution.new.entries _ c.in_ok-entries.entries.len (omega (arith, c.deref_mut-3.ensures.len, c.read_solution.auto.entries)), left, right)
    (solution-of q m k n rank _ _ wide ps c.read_solution.new.entries ga gy c.reduce_equations-rank.ensures.elements c.reduce_equations-rank.ensures.equations before small read)
