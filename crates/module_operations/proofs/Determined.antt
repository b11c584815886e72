-- Two answers to one question are equal: a submodule by an inclusion in reduced row form, and a quotient by a co-reduced projection, are determined.
use Rattle.std.proofs.Common.{ℕ, ◌≡◌, List, [], sym, ap, ap₂, ◌∙◌, refl, subst}
use Rattle.linear_algebra.specs.Field.{Gf}
use Rattle.linear_algebra.specs.Matrix.{Mat, Mat-eq, Row, zeros, one, ◌·◌}
use Rattle.linear_algebra.specs.MatrixLaws.{mul_assoc_mat, mul_one_mat, one_mul_mat}
use Rattle.linear_algebra.specs.Parts.{row}
use Rattle.linear_algebra.specs.PartsLaws.{row-mul, row_zeros}
use Rattle.linear_algebra.specs.Rank.{IsInSpan, HasRightInverse, HasLeftInverse}
use Rattle.linear_algebra.specs.Rows.{IsGrid, list_of}
use Rattle.linear_algebra.specs.Typed.{as_mat, grid_of}
use Rattle.linear_algebra.proofs.Dimension.{complement, kernel_spans}
use Rattle.linear_algebra.proofs.KernelsBySize.{coreduced_surjective}
use Rattle.linear_algebra.proofs.PartsLaws.{rows_equal}
use Rattle.linear_algebra.proofs.RowForm.{reduced_independent}
use Rattle.linear_algebra.proofs.Rows.{list_of-is, list_of-same}
use Rattle.linear_algebra.proofs.Solving.{in_span_by_rows}
use Rattle.linear_algebra.proofs.Typed.{grid_of-as_mat}
use Rattle.fp_linear.specs.Matrix.{PlainMatrix, plain}
use Rattle.row_spaces.specs.RowSpaces.{IsReducedMatrix, IsRowFormOf, IsQuotientBy}
use Rattle.row_spaces.proofs.FormsOnce.{row_form_once, quotient_once}
use Rattle.representations.specs.Quiver.{Quiver}
use Rattle.representations.specs.Rep.{Rep}
use Rattle.representations.proofs.RepEqual.{Rep-eq}
use Rattle.module_types.specs.declared.Module.{Module}
use Rattle.module_types.specs.declared.Side.{Side}
use Rattle.module_types.specs.Readings.{rows_at, rep_of, family_of, IsHom}
use Rattle.module_types.specs.Shapes.{IsModule, AreMatrices}
use Rattle.module_types.specs.Written.{written}
use Rattle.module_types.proofs.Written.{written-rep_of}
use Rattle.module_operations.specs.Determined.{AreEqual}
use Rattle.module_operations.proofs.ListedMatrices.{listed}

-- The matrix on a submodule, by an embedding; the matrix on a quotient, by a projection.
inside_once : {q : Gf} (k l c d : ℕ) (N : Mat q k l) (s : Mat q k c) (t : Mat q l d) (X : Mat q c d) → HasRightInverse t → N · t ≡ s · X → (m n : ℕ) → k ≡ m → l ≡ n → (M : Mat q m n) (u : Mat q m c) (w : Mat q n d)
    → ((x y : ℕ) → s.at x y ≡ u.at x y) → ((x y : ℕ) → t.at x y ≡ w.at x y) → M · w ≡ u · X → (x y : ℕ) → N.at x y ≡ M.at x y
inside_once {q} k l c d N s t X r e m n em en =
    subst (λ (m : ℕ). (M : Mat q m n) (u : Mat q m c) (w : Mat q n d) → ((x y : ℕ) → s.at x y ≡ u.at x y) → ((x y : ℕ) → t.at x y ≡ w.at x y) → M · w ≡ u · X → (x y : ℕ) → N.at x y ≡ M.at x y) em
    (subst (λ (n : ℕ). (M : Mat q k n) (u : Mat q k c) (w : Mat q n d) → ((x y : ℕ) → s.at x y ≡ u.at x y) → ((x y : ℕ) → t.at x y ≡ w.at x y) → M · w ≡ u · X → (x y : ℕ) → N.at x y ≡ M.at x y) en here)
  where
    undone : (A : Mat q k l) → A · t · r.inverse ≡ A
    undone A = mul_assoc_mat A t r.inverse ∙ ap (λ z. A · z) r.is ∙ mul_one_mat A

    here : (M : Mat q k l) (u : Mat q k c) (w : Mat q l d) → ((x y : ℕ) → s.at x y ≡ u.at x y) → ((x y : ℕ) → t.at x y ≡ w.at x y) → M · w ≡ u · X → (x y : ℕ) → N.at x y ≡ M.at x y
    here M u w es et f x y =
        let su : s ≡ u = Mat-eq s u es in
        let tw : t ≡ w = Mat-eq t w et in
        let same : N · t ≡ M · t = e ∙ ap (λ z. z · X) su ∙ sym f ∙ ap (λ z. M · z) (sym tw) in
        ap (λ (z : Mat q k l). z.at x y) (sym (undone N) ∙ ap (λ z. z · r.inverse) same ∙ undone M)

outside_once : {q : Gf} (k l c d : ℕ) (N : Mat q k l) (s : Mat q c k) (t : Mat q d l) (X : Mat q c d) → HasLeftInverse s → X · t ≡ s · N → (m n : ℕ) → k ≡ m → l ≡ n → (M : Mat q m n) (u : Mat q c m) (w : Mat q d n)
    → ((x y : ℕ) → s.at x y ≡ u.at x y) → ((x y : ℕ) → t.at x y ≡ w.at x y) → X · w ≡ u · M → (x y : ℕ) → N.at x y ≡ M.at x y
outside_once {q} k l c d N s t X r e m n em en =
    subst (λ (m : ℕ). (M : Mat q m n) (u : Mat q c m) (w : Mat q d n) → ((x y : ℕ) → s.at x y ≡ u.at x y) → ((x y : ℕ) → t.at x y ≡ w.at x y) → X · w ≡ u · M → (x y : ℕ) → N.at x y ≡ M.at x y) em
    (subst (λ (n : ℕ). (M : Mat q k n) (u : Mat q c k) (w : Mat q d n) → ((x y : ℕ) → s.at x y ≡ u.at x y) → ((x y : ℕ) → t.at x y ≡ w.at x y) → X · w ≡ u · M → (x y : ℕ) → N.at x y ≡ M.at x y) en here)
  where
    undone : (A : Mat q k l) → r.inverse · (s · A) ≡ A
    undone A = sym (mul_assoc_mat r.inverse s A) ∙ ap (λ z. z · A) r.is ∙ one_mul_mat A

    here : (M : Mat q k l) (u : Mat q c k) (w : Mat q d l) → ((x y : ℕ) → s.at x y ≡ u.at x y) → ((x y : ℕ) → t.at x y ≡ w.at x y) → X · w ≡ u · M → (x y : ℕ) → N.at x y ≡ M.at x y
    here M u w es et f x y =
        let su : s ≡ u = Mat-eq s u es in
        let tw : t ≡ w = Mat-eq t w et in
        let same : s · N ≡ s · M = sym e ∙ ap (λ z. X · z) tw ∙ f ∙ ap (λ z. z · M) (sym su) in
        ap (λ (z : Mat q k l). z.at x y) (sym (undone N) ∙ ap (λ z. r.inverse · z) same ∙ undone M)

-- Lists of matrices with the same counts and entries are equal.
plain_same : (q : Gf) (m n k l : ℕ) (A : Mat q m n) (B : Mat q k l) → m ≡ k → n ≡ l → ((x y : ℕ) → A.at x y ≡ B.at x y) → plain q m n (grid_of A) ≡ plain q k l (grid_of B)
plain_same q m n k l A B em en h =
    subst (λ (k : ℕ). (B : Mat q k l) → ((x y : ℕ) → A.at x y ≡ B.at x y) → plain q m n (grid_of A) ≡ plain q k l (grid_of B)) em
    (subst (λ (l : ℕ). (B : Mat q m l) → ((x y : ℕ) → A.at x y ≡ B.at x y) → plain q m n (grid_of A) ≡ plain q m l (grid_of B)) en (λ B h. ap (λ z. plain q m n (grid_of z)) (Mat-eq A B h))) B h

abbrev written_at : (q : Gf) (rows columns : ℕ → ℕ) (matrices : List PlainMatrix) → ℕ → PlainMatrix
written_at q rows columns matrices v = plain q (rows v) (columns v) (grid_of (as_mat q (rows v) (columns v) (rows_at matrices v)))

written_list : (q : Gf) (count : ℕ) (rows columns : ℕ → ℕ) (matrices : List PlainMatrix) → AreMatrices q count rows columns matrices → matrices ≡ list_of count (written_at q rows columns matrices)
written_list q count rows columns matrices S = list_of-is count (written_at q rows columns matrices) matrices (plain q 0 0 []) S.counted (λ v l.
    let e = listed q count rows columns matrices S v (plain q 0 0 []) l in
    let g : IsGrid q (rows v) (columns v) (rows_at matrices v) = subst (λ (m : PlainMatrix). IsGrid m.field m.row_count m.col_count m.rows) e (S.each v (plain q 0 0 []) l).matrix.grid in
    e ∙ ap (plain q (rows v) (columns v)) (sym (grid_of-as_mat q (rows v) (columns v) (rows_at matrices v) g)))

lists_once : (q : Gf) (count : ℕ) (rows columns heights widths : ℕ → ℕ) (i j : List PlainMatrix) → AreMatrices q count rows columns i → AreMatrices q count heights widths j → ((v : ℕ) → rows v ≡ heights v) → ((v : ℕ) → columns v ≡ widths v)
    → ((v x y : ℕ) → (as_mat q (rows v) (columns v) (rows_at i v)).at x y ≡ (as_mat q (heights v) (widths v) (rows_at j v)).at x y) → i ≡ j
lists_once q count rows columns heights widths i j S T er ec h =
    written_list q count rows columns i S ∙ list_of-same count (written_at q rows columns i) (written_at q heights widths j) (plain q 0 0 []) (λ v l. plain_same q (rows v) (columns v) (heights v) (widths v) _ _ (er v) (ec v) (h v))
    ∙ sym (written_list q count heights widths j T)

module _ {q : Gf} {Q : Quiver} (X : Rep q Q) (n m : Module) (sn : IsModule q Q n) (sm : IsModule q Q m) (side : n.side ≡ m.side) (i j : List PlainMatrix) where
  abbrev N : Rep q Q
  N = rep_of q Q n

  abbrev M : Rep q Q
  M = rep_of q Q m

  same_module : ((v : ℕ) → N.dim v ≡ M.dim v) → ((r x y : ℕ) → (N.mat r).at x y ≡ (M.mat r).at x y) → n ≡ m
  same_module e h = sym (written-rep_of q Q n sn) ∙ ap₂ (λ (s : Side) (X : Rep q Q). written s X) side (Rep-eq N M e h) ∙ written-rep_of q Q m sm

  pub submodule_once : AreMatrices q Q.vertices N.dim X.dim i → AreMatrices q Q.vertices M.dim X.dim j → (size : ℕ → ℕ) (g : (v : ℕ) → Mat q (size v) (X.dim v)) → ((v : ℕ) → IsRowFormOf (g v) (family_of N X i v))
      → ((v : ℕ) → IsRowFormOf (g v) (family_of M X j v)) → IsHom N X (family_of N X i) → IsHom M X (family_of M X j) → AreEqual n m i j
  submodule_once si sj size g fi fj hi hj = record {
    modules = same_module (λ v. (once v).0) (λ r. inside_once (N.dim (Q.source r)) (N.dim (Q.target r)) (X.dim (Q.source r)) (X.dim (Q.target r)) (N.mat r) (family_of N X i (Q.source r)) (family_of N X i (Q.target r)) (X.mat r)
        (reduced_independent (family_of N X i (Q.target r)) (fi (Q.target r)).reduced.0 (fi (Q.target r)).reduced.1) (hi r) (M.dim (Q.source r)) (M.dim (Q.target r)) (once (Q.source r)).0 (once (Q.target r)).0 (M.mat r)
        (family_of M X j (Q.source r)) (family_of M X j (Q.target r)) (once (Q.source r)).1 (once (Q.target r)).1 (hj r));
    matrices = lists_once q Q.vertices N.dim X.dim M.dim X.dim i j si sj (λ v. (once v).0) (λ v. refl) (λ v. (once v).1);
  }
    where
      once : (v : ℕ) → (N.dim v ≡ M.dim v) × ((x y : ℕ) → (family_of N X i v).at x y ≡ (family_of M X j v).at x y)
      once v = row_form_once (g v) (family_of N X i v) (family_of M X j v) (fi v) (fj v)

  pub quotient_module_once : AreMatrices q Q.vertices X.dim N.dim i → AreMatrices q Q.vertices X.dim M.dim j → (size : ℕ → ℕ) (g : (v : ℕ) → Mat q (size v) (X.dim v)) → ((v : ℕ) → IsQuotientBy (g v) (family_of X N i v))
      → ((v : ℕ) → IsQuotientBy (g v) (family_of X M j v)) → IsHom X N (family_of X N i) → IsHom X M (family_of X M j) → AreEqual n m i j
  quotient_module_once si sj size g fi fj hi hj = record {
    modules = same_module (λ v. (once v).0) (λ r. outside_once (N.dim (Q.source r)) (N.dim (Q.target r)) (X.dim (Q.source r)) (X.dim (Q.target r)) (N.mat r) (family_of X N i (Q.source r)) (family_of X N i (Q.target r)) (X.mat r)
        (coreduced_surjective (family_of X N i (Q.source r)) (fi (Q.source r)).place (fi (Q.source r)).coreduced) (hi r) (M.dim (Q.source r)) (M.dim (Q.target r)) (once (Q.source r)).0 (once (Q.target r)).0 (M.mat r)
        (family_of X M j (Q.source r)) (family_of X M j (Q.target r)) (once (Q.source r)).1 (once (Q.target r)).1 (hj r));
    matrices = lists_once q Q.vertices X.dim N.dim X.dim M.dim i j si sj (λ v. refl) (λ v. (once v).0) (λ v. (once v).1);
  }
    where
      once : (v : ℕ) → (N.dim v ≡ M.dim v) × ((x y : ℕ) → (family_of X N i v).at x y ≡ (family_of X M j v).at x y)
      once v = quotient_once (g v) (family_of X N i v) (family_of X M j v) (fi v) (fj v)

-- What is zero on all combinations of rows is zero on the rows.
pub killed_by_rows : {q : Gf} {k m n : ℕ} (i : Mat q k m) (f : Mat q m n) → ((x : Row q k) → x · i · f ≡ zeros q 1 n) → i · f ≡ zeros q k n
killed_by_rows {q} {k} {m} {n} i f h = rows_equal _ _ (λ r l.
    ap (row r) (sym (one_mul_mat (i · f))) ∙ row-mul r (one q k) (i · f) ∙ sym (mul_assoc_mat (row r (one q k)) i f) ∙ h (row r (one q k)) ∙ sym (row_zeros q k n r))

pub kernel_form_of : {q : Gf} {k m n : ℕ} (f : Mat q m n) (i : Mat q k m) → IsReducedMatrix i → ((x : Row q k) → x · i · f ≡ zeros q 1 n) → ((y : Row q m) → y · f ≡ zeros q 1 n → IsInSpan i y) → IsRowFormOf (complement f).kernel i
kernel_form_of {q} {k} {m} {n} f i r c e =
    let C = complement f in
    record {
      reduced = r;
      spans = in_span_by_rows i C.kernel (λ x l. e (row x C.kernel) (sym (row-mul x C.kernel f) ∙ ap (row x) C.kernel_kills ∙ row_zeros q C.nullity n x));
      spanned = kernel_spans f C i (killed_by_rows i f c);
    }
