use Rattle.std.proofs.Common.{ℕ, ◌≡◌, ◌<◌, ◌≤◌, ◌+◌, ◌-◌, ◌*◌, length, get_or, replicate, refl, sym, ap, ◌∙◌, arith}
use Rattle.std.proofs.lemmas.List.{take_at, length-replicate}
use Rattle.linear_algebra.specs.Rows.{rows_of}
use Rattle.linear_algebra.specs.Kernels.{IsExtended}
use Rattle.linear_algebra.specs.Reduced.{ReducesTo}
use Rattle.linear_algebra.proofs.Rows.{length-rows_of}
use Rattle.fp_linear.specs.Slices.{AreElements}
use Rattle.fp_linear.proofs.Slices.{AreElements-zeros}
use Rattle.fp_linear.proofs.KernelOf.{pivots-ascend, kernel-of, HoldsMatrix-kernel}
use Rattle.fp_linear.proofs.Matrices.{IsMatrix-held}
use Rattle.fp_linear.proofs.matrix.Matrix.kernel.Goals as goal

pub count_below-left-requires-clause-ascending : goal.count_below-left-requires-clause-ascending
count_below-left-requires-clause-ascending c = λ i k l b.
    let pivots : c.deref-2.result.now ≡ c.echelon_rows-rank.new.pivots = c.deref-2.ensures.value ∙ take_at c.echelon_rows-rank.new.pivots _ _ (omega (arith, c.deref_mut-3.ensures.len, c.echelon_rows-rank.auto.pivots)) in
    rw pivots (pivots-ascend _ _ _ _ c.echelon_rows-rank.new.pivots _ i k c.echelon_rows-rank.ensures.form l b)

pub invariant_of-result : goal.invariant_of-result
invariant_of-result c =
    let q = c.self.inside.field in
    let m = c.self.inside.rows in
    let n = c.self.inside.cols in
    let rank = c.echelon_rows-rank.result in
    let left = c.count_below-left.result in
    let square : m * m ≤ 67108864 = rw (← c.self.view_is) at c.requires in
    let most : rank ≤ m = (let f = c.echelon_rows-rank.ensures.form.fits in let e = length-rows_of m (n + m) c.echelon_rows-rank.new.entries in omega arith) in
    let zeros : c.in_ok-entries.entries.items ≡ replicate ((rank - left) * m) 0 = c.in_ok-entries.ensures.items_if_clones_equal (λ y h. h) in
    let count : length c.copy_block.new.target ≡ (rank - left) * m = c.copy_block.auto.target ∙ ap length c.deref_mut-4.ensures.value ∙ ap length zeros ∙ length-replicate ((rank - left) * m) 0 in
    let source : c.deref-3.result.now ≡ c.echelon_rows-rank.new.entries = c.deref-3.ensures.value ∙ take_at c.echelon_rows-rank.new.entries _ _ (omega (arith, c.deref_mut-2.ensures.len, c.echelon_rows-rank.auto.entries)) in
    let small : AreElements q c.copy_block.new.target = c.copy_block.ensures.elements q (rw source c.echelon_rows-rank.ensures.elements) (rw c.deref_mut-4.ensures.value (AreElements-zeros q ((rank - left) * m) _ zeros)) in
    let len : c.in_ok-entries.entries.len ≡ length c.copy_block.new.target = omega (arith, c.deref_mut-4.ensures.len, c.copy_block.auto.target) in
    HoldsMatrix-kernel q m rank left c.in_ok-entries.entries.len _ _ c.copy_block.new.target square most refl len count small

pub returns-clause-matrix : goal.returns-clause-matrix
returns-clause-matrix c =
    let q = c.self.inside.field in
    let m = c.self.inside.rows in
    let n = c.self.inside.cols in
    let rank = c.echelon_rows-rank.result in
    let left = c.count_below-left.result in
    let square : m * m ≤ 67108864 = rw (← c.self.view_is) at c.requires in
    let most : rank ≤ m = (let f = c.echelon_rows-rank.ensures.form.fits in let e = length-rows_of m (n + m) c.echelon_rows-rank.new.entries in omega arith) in
    let zeros : c.in_ok-entries.entries.items ≡ replicate ((rank - left) * m) 0 = c.in_ok-entries.ensures.items_if_clones_equal (λ y h. h) in
    let count : length c.copy_block.new.target ≡ (rank - left) * m = c.copy_block.auto.target ∙ ap length c.deref_mut-4.ensures.value ∙ ap length zeros ∙ length-replicate ((rank - left) * m) 0 in
    let source : c.deref-3.result.now ≡ c.echelon_rows-rank.new.entries = c.deref-3.ensures.value ∙ take_at c.echelon_rows-rank.new.entries _ _ (omega (arith, c.deref_mut-2.ensures.len, c.echelon_rows-rank.auto.entries)) in
    let small : AreElements q c.copy_block.new.target = c.copy_block.ensures.elements q (rw source c.echelon_rows-rank.ensures.elements) (rw c.deref_mut-4.ensures.value (AreElements-zeros q ((rank - left) * m) _ zeros)) in
    let len : c.in_ok-entries.entries.len ≡ length c.copy_block.new.target = omega (arith, c.deref_mut-4.ensures.len, c.copy_block.auto.target) in
    IsMatrix-held _ _ _ _ (HoldsMatrix-kernel q m rank left c.in_ok-entries.entries.len _ _ c.copy_block.new.target square most refl len count small)

pub returns-clause-basis : goal.returns-clause-basis
returns-clause-basis c =
    let q = c.self.inside.field in
    let m = c.self.inside.rows in
    let n = c.self.inside.cols in
    let rank = c.echelon_rows-rank.result in
    let left = c.count_below-left.result in
    let square : m * m ≤ 67108864 = rw (← c.self.view_is) at c.requires in
    let most : rank ≤ m = (let f = c.echelon_rows-rank.ensures.form.fits in let e = length-rows_of m (n + m) c.echelon_rows-rank.new.entries in omega arith) in
    let zeros : c.in_ok-entries.entries.items ≡ replicate ((rank - left) * m) 0 = c.in_ok-entries.ensures.items_if_clones_equal (λ y h. h) in
    let count : length c.copy_block.new.target ≡ (rank - left) * m = c.copy_block.auto.target ∙ ap length c.deref_mut-4.ensures.value ∙ ap length zeros ∙ length-replicate ((rank - left) * m) 0 in
    let source : c.deref-3.result.now ≡ c.echelon_rows-rank.new.entries = c.deref-3.ensures.value ∙ take_at c.echelon_rows-rank.new.entries _ _ (omega (arith, c.deref_mut-2.ensures.len, c.echelon_rows-rank.auto.entries)) in
    let small : AreElements q c.copy_block.new.target = c.copy_block.ensures.elements q (rw source c.echelon_rows-rank.ensures.elements) (rw c.deref_mut-4.ensures.value (AreElements-zeros q ((rank - left) * m) _ zeros)) in
    let len : c.in_ok-entries.entries.len ≡ length c.copy_block.new.target = omega (arith, c.deref_mut-4.ensures.len, c.copy_block.auto.target) in
    let first : c.deref_mut-2.result.now ≡ c.extend.new.wide = c.deref_mut-2.ensures.value ∙ take_at c.extend.new.wide _ _ (omega (arith, c.deref_mut.ensures.len, c.extend.auto.wide)) in
    let pivots : c.deref-2.result.now ≡ c.echelon_rows-rank.new.pivots = c.deref-2.ensures.value ∙ take_at c.echelon_rows-rank.new.pivots _ _ (omega (arith, c.deref_mut-3.ensures.len, c.echelon_rows-rank.auto.pivots)) in
    let entries : c.deref.result.now ≡ c.self.inside.entries.items = c.deref.ensures.value in
    let extended : IsExtended q m n (rows_of m n c.self.inside.entries.items) (rows_of m (n + m) c.extend.new.wide) = rw entries at (c.extend.ensures.extended q (rw entries c.self.invariant.small)) in
    let form : ReducesTo q (n + m) (rows_of m (n + m) c.extend.new.wide) (rows_of m (n + m) c.echelon_rows-rank.new.entries) c.echelon_rows-rank.new.pivots rank = rw first at c.echelon_rows-rank.ensures.form in
    let before : (i : ℕ) → i < left → get_or c.echelon_rows-rank.new.pivots i 0 < n = rw pivots at c.count_below-left.ensures.before in
    let behind : (i : ℕ) → left ≤ i → i < rank → n ≤ get_or c.echelon_rows-rank.new.pivots i 0 = rw pivots at c.count_below-left.ensures.behind in
    rw (← c.self.view_is, take_at c.copy_block.new.target _ _ (sym len))
    (kernel-of q m n rank left c.self.inside.entries.items c.extend.new.wide c.echelon_rows-rank.new.entries c.echelon_rows-rank.new.pivots c.copy_block.new.target _ extended c.echelon_rows-rank.ensures.elements form c.count_below-left.ensures.fits before behind small (rw source at c.copy_block.ensures.block))
