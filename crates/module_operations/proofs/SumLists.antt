-- The sum of two modules, vertex by vertex and arrow by arrow.
use Rattle.std.proofs.Common.{ℕ, ◌<◌, ◌≤◌, ◌≡◌, ◌+◌, List, length, get_or, sym, ap, ap₂, ◌∙◌, arith, subst}
use Rattle.std.specs.Prelude.{slice_index_or}
use Rattle.std.proofs.lemmas.Grind.{get_or_default_zero}
use Rattle.linear_algebra.specs.Field.{Gf}
use Rattle.linear_algebra.specs.DirectSum.{diagonal}
use Rattle.linear_algebra.specs.Rows.{list_of}
use Rattle.linear_algebra.specs.Typed.{grid_of}
use Rattle.fp_linear.specs.Matrix.{PlainMatrix, plain}
use Rattle.representations.specs.Quiver.{Quiver}
use Rattle.module_types.specs.declared.Module.{Module}
use Rattle.module_types.specs.declared.Side.{Side}
use Rattle.module_types.specs.Readings.{dim_at, rows_at, rep_of}
use Rattle.module_types.specs.Written.{block_sum}
use Rattle.module_types.proofs.Written.{dim_at-below, dim_at-dimension}
use Rattle.module_operations.specs.Summands.{AreSummands, AreSmallBlocks}
use Rattle.module_operations.proofs.Diagonals.{on_diagonal}
use Rattle.module_operations.proofs.ListedMatrices.{found}

module _ (q : Gf) (Q : Quiver) (a b : Module) where
  abbrev pub sum_dim : ℕ → ℕ
  sum_dim v = dim_at Q a.dims v + dim_at Q b.dims v

  abbrev pub sum_matrix : ℕ → PlainMatrix
  sum_matrix r = plain q (sum_dim (Q.source r)) (sum_dim (Q.target r)) (grid_of (diagonal ((rep_of q Q a).mat r) ((rep_of q Q b).mat r)))

  module _ (S : AreSummands q Q a b) where
    few_sum : (v : ℕ) → sum_dim v ≤ 256
    few_sum v = let d = dim_at-dimension Q a.dims v S.first.counted in let e = dim_at-dimension Q b.dims v S.second.counted in let s = S.small in omega arith

    default_zero : (xs : List ℕ) (i x : ℕ) → i < length xs → x ≡ get_or xs i x → x ≡ get_or xs i 0
    default_zero xs i x l e = e ∙ get_or_default_zero xs i x l

    first_dim : (v d : ℕ) → v < length a.dims → d ≡ get_or a.dims v d → d ≡ dim_at Q a.dims v
    first_dim v d l e = default_zero a.dims v d l e ∙ sym (dim_at-below Q a.dims v (let c = S.first.counted in omega arith))

    second_dim : (v d : ℕ) → v < length a.dims → d ≡ get_or b.dims v d → d ≡ dim_at Q b.dims v
    second_dim v d l e =
        let c = S.first.counted in
        let k = S.second.counted in
        default_zero b.dims v d (omega arith) e ∙ sym (dim_at-below Q b.dims v (omega arith))

    pub dims_add : (v d e : ℕ) → v < length a.dims → d ≡ get_or a.dims v d → e ≡ get_or b.dims v e → d + e ≡ sum_dim v
    dims_add v d e l f g = ap₂ (λ m n. m + n) (first_dim v d l f) (second_dim v e l g)

    pub dims_fit : (v d e : ℕ) → v < length a.dims → d ≡ get_or a.dims v d → e ≡ get_or b.dims v e → d + e ≤ 256
    dims_fit v d e l f g = let s = dims_add v d e l f g in let t = few_sum v in omega arith

    module _ (r : ℕ) (l : r < length a.matrices) (x y : PlainMatrix) (ex : x ≡ slice_index_or a.matrices r x) (ey : y ≡ slice_index_or b.matrices r y) where
      arrow : r < Q.arrows
      arrow = let c = S.first.matrices.counted in omega arith

      first_is : x ≡ plain q (dim_at Q a.dims (Q.source r)) (dim_at Q a.dims (Q.target r)) (rows_at a.matrices r)
      first_is = found q Q.arrows _ _ a.matrices S.first.matrices r x arrow ex

      second_is : y ≡ plain q (dim_at Q b.dims (Q.source r)) (dim_at Q b.dims (Q.target r)) (rows_at b.matrices r)
      second_is = found q Q.arrows _ _ b.matrices S.second.matrices r y arrow ey

      pub one_field : y.field ≡ x.field
      one_field = ap (λ (m : PlainMatrix). m.field) second_is ∙ sym (ap (λ (m : PlainMatrix). m.field) first_is)

      pub small_blocks : AreSmallBlocks x y
      small_blocks = record {
        rows = subst (λ (n : ℕ). n ≤ 256) (sym (ap₂ (λ (x y : PlainMatrix). x.row_count + y.row_count) first_is second_is)) (few_sum (Q.source r));
        columns = subst (λ (n : ℕ). n ≤ 256) (sym (ap₂ (λ (x y : PlainMatrix). x.col_count + y.col_count) first_is second_is)) (few_sum (Q.target r));
      }

      pub blocks_are : (m : PlainMatrix) → m ≡ on_diagonal x y → m ≡ sum_matrix r
      blocks_are m e = e ∙ ap₂ on_diagonal first_is second_is

    pub as_many : length b.dims ≡ length a.dims
    as_many = let c = S.first.counted in let k = S.second.counted in omega arith

    pub as_many_arrows : length b.matrices ≡ length a.matrices
    as_many_arrows = let c = S.first.matrices.counted in let k = S.second.matrices.counted in omega arith

    pub sum_by_lists : (side : Side) (dims : List ℕ) (matrices : List PlainMatrix) → side ≡ a.side → dims ≡ list_of Q.vertices sum_dim → matrices ≡ list_of Q.arrows sum_matrix
        → record { side = side; dims = dims; matrices = matrices } ≡ block_sum q Q a b
    unfolding block_sum
    sum_by_lists side dims matrices s d e = λ i. record { side = s i; dims = d i; matrices = e i }
