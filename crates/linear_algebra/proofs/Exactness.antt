-- Kernels, cokernels and exactness by sizes; factoring through injections and surjections.
use Rattle.std.proofs.Common.{ℕ, ◌+◌, ◌≡◌, sym, ap, ◌∙◌, arith}
use Rattle.linear_algebra.specs.Field.{Gf}
use Rattle.linear_algebra.specs.Matrix.{Mat, Row, zeros, one, ◌⊟◌, ◌·◌}
use Rattle.linear_algebra.specs.Parts.{row}
use Rattle.linear_algebra.specs.Rank.{RankFactorisation, IsInSpan, HasRightInverse, HasLeftInverse}
use Rattle.linear_algebra.proofs.MatrixLaws.{mul_assoc_mat, mul_one_mat, mul_zeros, sub_eq_zeros}
use Rattle.linear_algebra.proofs.PartsLaws.{rows_equal, row-mul, row_zeros}
use Rattle.linear_algebra.proofs.Products.{products, sums}
use Rattle.linear_algebra.proofs.Solving.{left_f, in_span_trans, in_span_by_rows}
use Rattle.linear_algebra.proofs.Dimension.{complement, kernel_spans, rank_unique}
use Rattle.linear_algebra.proofs.Subspaces.{inclusion_equal}
use Rattle.linear_algebra.proofs.RowFormUnique.{rank_of_span}

-- What holds on all rows that g takes to zero holds on matrices of such rows.
pub by_kernel_rows : {q : Gf} {n l k c : ℕ} (g : Mat q n l) (u : Mat q n c) → ((x : Row q n) → x · g ≡ zeros q 1 l → x · u ≡ zeros q 1 c) → (x : Mat q k n) → x · g ≡ zeros q k l → x · u ≡ zeros q k c
by_kernel_rows {q} {n} {l} {k} {c} g u h x e = rows_equal _ _ (λ i b.
    row-mul i x u ∙ h (row i x) (sym (row-mul i x g) ∙ ap (row i) e ∙ row_zeros q k l i) ∙ sym (row_zeros q k c i))

-- A matrix that is zero wherever the surjection g is factors through it, by a section of g; and in one way.
pub through_surjection : {q : Gf} {n l c : ℕ} (g : Mat q n l) (s : Mat q l n) → s · g ≡ one q l → (u : Mat q n c) → ((x : Row q n) → x · g ≡ zeros q 1 l → x · u ≡ zeros q 1 c) → g · (s · u) ≡ u
through_surjection {q} {n} {l} {c} g s e u h =
    let rest : (one q n ⊟ g · s) · g ≡ zeros q n l = simp (products, e, sums) in
    let zero_there = by_kernel_rows g u h (one q n ⊟ g · s) rest in
    sym (sub_eq_zeros u (g · (s · u)) (simp (products) (simp (products) at zero_there)))

-- A matrix with rows in the span of the injection i factors through it, by a retraction of i.
pub through_injection : {q : Gf} {m n k : ℕ} (i : Mat q m n) (r : Mat q n m) → i · r ≡ one q m → (u : Mat q k n) → IsInSpan i u → u · r · i ≡ u
through_injection i r e u s =
    ap (λ z. z · r · i) (sym s.is) ∙ ap (λ z. z · i) (mul_assoc_mat s.by i r ∙ ap (λ z. s.by · z) e ∙ mul_one_mat s.by) ∙ s.is

-- Independent rows that f takes to zero, as many as the rows of f exceed its rank, span the kernel.
pub kernel_by_size : {q : Gf} {k l m n : ℕ} (i : Mat q k m) (f : Mat q m n) (F : RankFactorisation f) → HasRightInverse i → i · f ≡ zeros q k n → k + F.size ≡ m
    → (x : Mat q l m) → x · f ≡ zeros q l n → IsInSpan i x
kernel_by_size i f F r e size x z =
    let C = complement f in
    let same = rank_unique C.rank F in
    let sizes : _ ≡ C.nullity = (let t = C.rank_nullity in omega arith) in
    in_span_trans i C.kernel x (inclusion_equal i C.kernel sizes r (kernel_spans f C i e)) (kernel_spans f C x z)

-- A surjection that kills f, of as many columns as the columns of f exceed its rank, takes to zero only the combinations of f.
pub cokernel_by_size : {q : Gf} {l m n c : ℕ} (f : Mat q m n) (p : Mat q n c) (F : RankFactorisation f) → HasLeftInverse p → f · p ≡ zeros q m c → F.size + c ≡ n
    → (x : Mat q l n) → x · p ≡ zeros q l c → IsInSpan f x
cokernel_by_size {q} {l} {m} {n} {c} f p F s e size x z =
    let C = complement p in
    let rank : C.rank.size ≡ c = rank_of_left_inverse C.rank in
    let sizes : F.size ≡ C.nullity = (let t = C.rank_nullity in omega arith) in
    let basis_kills : F.basis · p ≡ zeros q F.size c = ap (λ w. w · p) (sym (left_f F)) ∙ mul_assoc_mat F.left f p ∙ ap (λ w. F.left · w) e ∙ mul_zeros F.left in
    let inside = inclusion_equal F.basis C.kernel sizes (record { inverse = F.right; is = F.right_inverse }) (kernel_spans p C F.basis basis_kills) in
    in_span_trans f F.basis x (record { by = F.left; is = left_f F }) (in_span_trans F.basis C.kernel x inside (kernel_spans p C x z))
  where
    rank_of_left_inverse : (G : RankFactorisation p) → G.size ≡ c
    rank_of_left_inverse G =
        rank_of_span p (one q c) (record { inverse = one q c; is = mul_one_mat (one q c) }) (record { by = p; is = mul_one_mat p }) (record { by = s.inverse; is = s.is }) G

-- Exactness at the middle of f and g, by ranks; both ways.
pub exact_by_ranks : {q : Gf} {l m n k : ℕ} (f : Mat q m n) (g : Mat q n k) (F : RankFactorisation f) (G : RankFactorisation g) → f · g ≡ zeros q m k → F.size + G.size ≡ n
    → (x : Mat q l n) → x · g ≡ zeros q l k → IsInSpan f x
exact_by_ranks {q} {l} {m} {n} {k} f g F G e size x z =
    let basis_kills : F.basis · g ≡ zeros q F.size k = ap (λ w. w · g) (sym (left_f F)) ∙ mul_assoc_mat F.left f g ∙ ap (λ w. F.left · w) e ∙ mul_zeros F.left in
    in_span_trans f F.basis x (record { by = F.left; is = left_f F }) (kernel_by_size F.basis g G (record { inverse = F.right; is = F.right_inverse }) basis_kills size x z)

pub ranks_of_exact : {q : Gf} {m n k : ℕ} (f : Mat q m n) (g : Mat q n k) (F : RankFactorisation f) (G : RankFactorisation g) → f · g ≡ zeros q m k
    → ((x : Row q n) → x · g ≡ zeros q 1 k → IsInSpan f x) → F.size + G.size ≡ n
ranks_of_exact {q} {m} {n} {k} f g F G e h =
    let C = complement g in
    let kernel_in : IsInSpan f C.kernel = in_span_by_rows f C.kernel (λ i b.
    h (row i C.kernel) (sym (row-mul i C.kernel g) ∙ ap (row i) C.kernel_kills ∙ row_zeros q C.nullity k i)) in
    let size : F.size ≡ C.nullity = rank_of_span f C.kernel (record { inverse = C.retraction; is = C.kernel_retracts }) (kernel_spans g C f e) kernel_in F in
    let same = rank_unique C.rank G in
    let t = C.rank_nullity in
    omega arith
