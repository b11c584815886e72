-- Bases and projections at the vertices, from the matrices at their places.
use Rattle.std.proofs.Common.{ℕ, ◌<◌, ◌≤◌, ◌≡◌, ◌+◌, ◌*◌, List, [], ◌∷◌, ◌++◌, length, sym, ap, ◌∙◌, refl, arith, subst}
use Rattle.std.specs.Prelude.{slice_index_or}
use Rattle.linear_algebra.specs.Field.{Gf}
use Rattle.linear_algebra.specs.Matrix.{Mat}
use Rattle.linear_algebra.specs.Parts.{row}
use Rattle.linear_algebra.specs.PartsLaws.{row-mul, row_zeros}
use Rattle.linear_algebra.specs.Typed.{as_mat}
use Rattle.linear_algebra.proofs.Dimension.{complement, kernel_spans}
use Rattle.linear_algebra.proofs.Solving.{in_span_by_rows}
use Rattle.fp_linear.specs.Matrix.{PlainMatrix, plain, IsMatrix, most_entries}
use Rattle.row_spaces.specs.RowSpaces.{typed, IsRowFormOf, IsKernelBasis, IsQuotientBy}
use Rattle.representations.specs.Quiver.{Quiver}
use Rattle.representations.specs.Rep.{Rep}
use Rattle.module_types.specs.Readings.{rows_at, family_of}
use Rattle.module_types.specs.Shapes.{AreMatrices, most_dimension}
use Rattle.module_operations.specs.VertexSpaces.{IsFormOf, IsProjectionOf, HaveForms, HaveProjections, AreLow, AreNarrow, kernel_family}
use Rattle.module_operations.proofs.Counts.{each_pushed, counted_pushed}
use Rattle.module_operations.proofs.ListedMatrices.{found}
use Rattle.module_operations.proofs.Restrictions.{few_entries}

-- A basis of what f takes to zero spans what any other does.
kernel_as_form : {q : Gf} {k m n : ℕ} (f : Mat q m n) (basis : Mat q k m) → IsKernelBasis f basis → IsRowFormOf (complement f).kernel basis
kernel_as_form {q} {k} {m} {n} f basis b =
    let C = complement f in
    record {
      reduced = b.reduced;
      spans = in_span_by_rows basis C.kernel (λ i l. b.spans (row i C.kernel) (sym (row-mul i C.kernel f) ∙ ap (row i) C.kernel_kills ∙ row_zeros q C.nullity n i));
      spanned = kernel_spans f C basis b.kills;
    }

pub low_square : (matrices : List PlainMatrix) (v : ℕ) (m : PlainMatrix) → AreLow matrices → v < length matrices → m ≡ slice_index_or matrices v m → m.row_count * m.row_count ≤ most_entries
low_square matrices v m h l e = let b = subst (λ (x : PlainMatrix). x.row_count ≤ most_dimension) (sym e) (h.each v m l) in few_entries m.row_count m.row_count b b

pub narrow_square : (matrices : List PlainMatrix) (v : ℕ) (m : PlainMatrix) → AreNarrow matrices → v < length matrices → m ≡ slice_index_or matrices v m → m.col_count * m.col_count ≤ most_entries
narrow_square matrices v m h l e = let b = subst (λ (x : PlainMatrix). x.col_count ≤ most_dimension) (sym e) (h.each v m l) in few_entries m.col_count m.col_count b b

module _ {q : Gf} {Q : Quiver} (X Y : Rep q Q) (f : List PlainMatrix) (M : AreMatrices q Q.vertices X.dim Y.dim f) (v : ℕ) (l : v < length f) (m result : PlainMatrix) (e : m ≡ slice_index_or f v m) (kept : IsMatrix result) where
  is_plain : m ≡ plain q (X.dim v) (Y.dim v) (rows_at f v)
  is_plain = found q Q.vertices X.dim Y.dim f M v m (let c = M.counted in omega arith) e

  pub kernel_form : result ≡ plain m.field result.row_count m.row_count result.rows → IsKernelBasis (typed m) (as_mat m.field result.row_count m.row_count result.rows) → IsFormOf (kernel_family X Y f v) result
  kernel_form s b = record {
    shape = subst (λ (x : PlainMatrix). result ≡ plain x.field result.row_count x.row_count result.rows) is_plain s;
    matrix = kept;
    form = kernel_as_form (family_of X Y f v) (as_mat q result.row_count (X.dim v) result.rows)
        (subst (λ (x : PlainMatrix). IsKernelBasis (typed x) (as_mat x.field result.row_count x.row_count result.rows)) is_plain b);
  }

  pub image_form : result ≡ plain m.field result.row_count m.col_count result.rows → IsRowFormOf (typed m) (as_mat m.field result.row_count m.col_count result.rows) → IsFormOf (family_of X Y f v) result
  image_form s b = record {
    shape = subst (λ (x : PlainMatrix). result ≡ plain x.field result.row_count x.col_count result.rows) is_plain s;
    matrix = kept;
    form = subst (λ (x : PlainMatrix). IsRowFormOf (typed x) (as_mat x.field result.row_count x.col_count result.rows)) is_plain b;
  }

  pub quotient_form : result ≡ plain m.field m.col_count result.col_count result.rows → IsQuotientBy (typed m) (as_mat m.field m.col_count result.col_count result.rows) → IsProjectionOf (family_of X Y f v) result
  quotient_form s b = record {
    shape = subst (λ (x : PlainMatrix). result ≡ plain x.field x.col_count result.col_count result.rows) is_plain s;
    matrix = kept;
    quotient = subst (λ (x : PlainMatrix). IsQuotientBy (typed x) (as_mat x.field x.col_count result.col_count result.rows)) is_plain b;
  }

-- One more.
module _ {q : Gf} {Q : Quiver} (X : Rep q Q) (size : ℕ → ℕ) (g : (v : ℕ) → Mat q (size v) (X.dim v)) where
  pub HaveForms-none : HaveForms X size g 0 []
  HaveForms-none = record { counted = refl; each = λ v b l. absurd (omega arith) }

  pub HaveForms-more : (k : ℕ) (b : PlainMatrix) (bases : List PlainMatrix) → IsFormOf (g k) b → HaveForms X size g k bases → HaveForms X size g (k + 1) (bases ++ b ∷ [])
  HaveForms-more k b bases f h = record { counted = counted_pushed k bases b h.counted; each = each_pushed (λ (v : ℕ) (b : PlainMatrix). IsFormOf (g v) b) k bases b h.counted h.each f }

  pub HaveProjections-none : HaveProjections X size g 0 []
  HaveProjections-none = record { counted = refl; each = λ v b l. absurd (omega arith) }

  pub HaveProjections-more : (k : ℕ) (b : PlainMatrix) (projections : List PlainMatrix) → IsProjectionOf (g k) b → HaveProjections X size g k projections → HaveProjections X size g (k + 1) (projections ++ b ∷ [])
  HaveProjections-more k b projections f h = record { counted = counted_pushed k projections b h.counted; each = each_pushed (λ (v : ℕ) (b : PlainMatrix). IsProjectionOf (g v) b) k projections b h.counted h.each f }
