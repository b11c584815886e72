-- The kernel as the code reads it from the reduced row form.
use Rattle.std.proofs.Common.{ℕ, ◌<◌, ◌≤◌, ◌≡◌, ◌+◌, ◌-◌, ◌*◌, ◌++◌, List, length, get_or, take, sym, ap, ◌∙◌, arith}
use Rattle.std.proofs.lemmas.List.{length-take-le}
use Rattle.std.proofs.lemmas.Nat.{mul-le}
use Rattle.linear_algebra.specs.Field.{Gf}
use Rattle.linear_algebra.specs.FieldLaws.{order-pos}
use Rattle.linear_algebra.specs.Rows.{rows_of}
use Rattle.linear_algebra.specs.Kernels.{IsExtended, IsKernel}
use Rattle.linear_algebra.specs.Reduced.{ReducesTo}
use Rattle.linear_algebra.proofs.Rows.{length-rows_of}
use Rattle.linear_algebra.proofs.Reduced.{pivot-column, entry-take, IsGrid-take}
use Rattle.linear_algebra.proofs.KernelRows.{IsKernel-ends}
use Rattle.fp_linear.specs.Slices.{cell, AreElements}
use Rattle.fp_linear.specs.Matrix.{HoldsMatrix}
use Rattle.fp_linear.specs.Products.{HasBlock, HasUnits}
use Rattle.fp_linear.proofs.Cells.{cell-entry, IsGrid-rows_of}
use Rattle.fp_linear.proofs.Matrices.{HoldsMatrix-written}

pub pivots-ascend : (q : Gf) (n : ℕ) (old new : List (List ℕ)) (ps : List ℕ) (r i k : ℕ) → ReducesTo q n old new ps r → i < k → k < r → get_or ps i 0 < get_or ps k 0
pivots-ascend q n old new ps r i k h l b =
    rw (pivot-column q n old new ps r i h (omega arith), pivot-column q n old new ps r k h b)
    (h.reduced.further i k l (let e = length-take-le r new h.fits in omega arith))

pub AreElements-none : (q : Gf) (s : List ℕ) → ((k : ℕ) → get_or s k 0 ≡ 0) → AreElements q s
AreElements-none q s z = record { small = λ k. rw (z k) (order-pos q) }

pub IsExtended-written : (q : Gf) (m n : ℕ) (s first wide : List ℕ) (e : ℕ → ℕ → ℕ) → AreElements q wide → HasBlock (n + m) n m 0 0 (cell n s) e (cell (n + m) first) → HasUnits m n m (cell (n + m) first) (cell (n + m) wide)
    → IsExtended q m n (rows_of m n s) (rows_of m (n + m) wide)
IsExtended-written q m n s first wide e small b u = record {
  grid = IsGrid-rows_of q m (n + m) wide small;
  count = length-rows_of m n s;
  left = λ i j l k.
      let zi : 0 + i ≡ i = omega arith in
      let zj : 0 + j ≡ j = omega arith in
      cell-entry m (n + m) wide i j l (omega arith) ∙ u.left i j k ∙ b.done i j l k ∙ ap (λ i. cell n s i (0 + j)) zi ∙ ap (cell n s i) zj ∙ sym (cell-entry m n s i j l k);
  right = λ i j l k. cell-entry m (n + m) wide i (n + j) l (omega arith) ∙ u.done i j l k;
}

pub kernel-of : (q : Gf) (m n rank left : ℕ) (s start wide ps k : List ℕ) (f : ℕ → ℕ → ℕ) → IsExtended q m n (rows_of m n s) (rows_of m (n + m) start) → AreElements q wide
    → ReducesTo q (n + m) (rows_of m (n + m) start) (rows_of m (n + m) wide) ps rank → left ≤ rank → ((i : ℕ) → i < left → get_or ps i 0 < n) → ((i : ℕ) → left ≤ i → i < rank → n ≤ get_or ps i 0)
    → AreElements q k → HasBlock m m (rank - left) left n (cell (n + m) wide) f (cell m k) → IsKernel q m n (rows_of m n s) (rows_of (rank - left) m k)
kernel-of q m n rank left s start wide ps k f ext small red fits before behind ek block =
    IsKernel-ends q m n rank left (rows_of m n s) (rows_of m (n + m) start) (take rank (rows_of m (n + m) wide)) (rows_of (rank - left) m k) ext
    record {
      grid = IsGrid-take q m (n + m) rank (rows_of m (n + m) wide) (IsGrid-rows_of q m (n + m) wide small) most;
      form = red.reduced;
      fits = fits;
      before = λ i l. rw (← (pivot-column q (n + m) _ _ ps rank i red (omega arith))) (before i l);
      behind = λ i l b. rw (← (pivot-column q (n + m) _ _ ps rank i red b)) (behind i l b);
      kernel = IsGrid-rows_of q (rank - left) m k ek;
      ends = λ a j l b.
          cell-entry (rank - left) m k a j l b ∙ block.done a j l b ∙ sym (entry-take rank (rows_of m (n + m) wide) (left + a) (n + j) (omega arith) ∙ cell-entry m (n + m) wide (left + a) (n + j) (let o = most in omega arith) (omega arith));
    }
    red.span
  where
    most : rank ≤ m
    most = let c = length-rows_of m (n + m) wide in let o = red.fits in omega arith

pub HoldsMatrix-kernel : (q : Gf) (m rank left len : ℕ) (s old new : List ℕ) → m * m ≤ 67108864 → rank ≤ m → s ≡ take len (new ++ old) → len ≡ length new → length new ≡ (rank - left) * m → AreElements q new → HoldsMatrix q (rank - left) m s
HoldsMatrix-kernel q m rank left len s old new square most e l c a =
    HoldsMatrix-written q (rank - left) m len s old new e l c a (let f = mul-le (rank - left) m m m (omega arith) (omega arith) in omega arith)
