-- The bases that are written are those that terms cover.
use Rattle.std.proofs.Common.{ℕ, suc, ◌<◌, ◌≤◌, ◌≡◌, ◌≢◌, ◌+◌, ◌*◌, List, sym, ◌∙◌, arith, subst}
use Rattle.std.specs.Prelude.{slice_index}
use Rattle.std.proofs.lemmas.Nat.{mul-le}
use Rattle.linear_algebra.specs.Matrix.{one}
use Rattle.linear_algebra.specs.Rows.{rows_of}
use Rattle.linear_algebra.specs.Kernels.{IsKernel}
use Rattle.fp_linear.specs.Slices.{AreElements}
use Rattle.quiver_paths.specs.declared.Path.{Path}
use Rattle.path_algebra.specs.declared.Header.{Header}
use Rattle.alg_table.specs.TableView.{IsTable}
use Rattle.module_types.specs.declared.Module.{Module}
use Rattle.module_types.specs.declared.TermRows.{TermRows}
use Rattle.module_types.specs.Readings.{read}
use Rattle.claim_conditions.specs.Terms.{vertices_at}
use Rattle.term_rows.specs.SumDims.{sum_dim, covered_dim}
use Rattle.term_rows.specs.TermCells.{term_sum, term_target, matrix_in}
use Rattle.term_rows.proofs.SumSteps.{sum_dim_is}
use Rattle.term_rows.proofs.WordRows.{covered_is}
use Rattle.resolution_checks.specs.Steps.{words_of_side}
use Rattle.resolution_checks.proofs.CompositesAt.{held_in}
use Rattle.cover_checks.specs.Bases.{ArePlaces, HoldsBasis, same_place}
use Rattle.cover_checks.specs.Covers.{covered_size, covered_rows, covered_pivot}
use Rattle.cover_checks.proofs.KernelHeld.{size_is, has_nonzero, kernel_holds}

pub wide_inside : (m n len : ℕ) → m ≤ 512 → n ≤ 512 → len ≡ 524288 → m * (n + m) ≤ len
wide_inside m n len a b e = let p = mul-le m (n + m) 512 1024 a (omega (arith, a, b)) in omega (arith, p, e)

pub count_inside : (size m len : ℕ) → size ≤ m → m ≤ 512 → 262144 ≤ len → size * m ≤ len
count_inside size m len s a b = let p = mul-le size m 512 512 (omega (arith, s, a)) a in omega (arith, p, b)

module _ (h : Header) (words : List Path) (t : IsTable h words) (a : Module) (terms : List TermRows) (k w rows columns size : ℕ) (s basis : List ℕ) (re : rows ≡ sum_dim words a.side (vertices_at terms k) w) (ce : columns ≡ covered_dim words h a terms k w)
    (es : AreElements h.field s) (eb : AreElements h.field basis) (held : held_in h words t a terms k w s) (K : IsKernel h.field rows columns (rows_of rows columns s) (rows_of size rows basis)) where
  abbrev m : ℕ
  m = (term_sum h words t a terms k).dim w

  abbrev n : ℕ
  n = (term_target h words t a terms k).dim w

  m_is : m ≡ rows
  m_is = sum_dim_is h words t a.side (vertices_at terms k) w ∙ sym re

  n_is : n ≡ columns
  n_is = covered_is h words t a terms k w ∙ sym ce

  typed : IsKernel h.field m n (rows_of m n s) (rows_of size m basis)
  typed = subst (λ m. IsKernel h.field m n (rows_of m n s) (rows_of size m basis)) (sym m_is) (subst (λ n. IsKernel h.field rows n (rows_of rows n s) (rows_of size rows basis)) (sym n_is) K)

  pub kernel_size : size ≡ covered_size (words_of_side h words t a terms) (read h a) terms (suc k) w
  kernel_size = size_is h.field m n size (matrix_in h words t a terms k w) s basis es eb held typed

  pub kernel_nonzero : (i : ℕ) → i < size → (p : ℕ) × (p < rows) × (slice_index basis (i * rows + p) ≢ 0)
  kernel_nonzero = subst (λ m. (i : ℕ) → i < size → (p : ℕ) × (p < m) × (slice_index basis (i * m + p) ≢ 0)) m_is (has_nonzero h.field m n size (matrix_in h words t a terms k w) s basis es eb held typed)

  pub kernel_basis : (marks : List ℕ) → ArePlaces rows size basis marks
      → HoldsBasis (covered_rows (words_of_side h words t a terms) (read h a) terms (suc k) w) (covered_pivot (words_of_side h words t a terms) (read h a) terms (suc k) w) basis marks
  kernel_basis marks p = kernel_holds h.field m n size (matrix_in h words t a terms k w) s basis es eb held typed marks (subst (λ m. ArePlaces m size basis marks) (sym m_is) p)

-- the module itself
module _ (h : Header) (words : List Path) (t : IsTable h words) (a : Module) (terms : List TermRows) (w n : ℕ) (e : n ≡ covered_dim words h a terms 0 w) (basis marks : List ℕ) (H : HoldsBasis (one h.field n) same_place basis marks) where
  dim_is : n ≡ (read h a).dim w
  dim_is = e ∙ sym (covered_is h words t a terms 0 w)

  pub whole_size : n ≡ covered_size (words_of_side h words t a terms) (read h a) terms 0 w
  whole_size = dim_is

  pub whole_basis : HoldsBasis (covered_rows (words_of_side h words t a terms) (read h a) terms 0 w) (covered_pivot (words_of_side h words t a terms) (read h a) terms 0 w) basis marks
  whole_basis = subst (λ n. HoldsBasis (one h.field n) same_place basis marks) dim_is H

pub product_inside : (m n len : ℕ) → m ≤ 512 → n ≤ 512 → 262144 ≤ len → m * n ≤ len
product_inside m n len a b c = let p = mul-le m n 512 512 a b in omega (arith, p, c)
