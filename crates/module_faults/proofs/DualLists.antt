-- The dual of a module, matrix by matrix.
use Rattle.std.proofs.Common.{ℕ, ◌<◌, ◌≡◌, ◌+◌, List, [], ◌∷◌, ◌++◌, get_or, inl, inr, sym, ap, ◌∙◌, subst, arith}
use Rattle.std.specs.Prelude.{slice_index_or}
use Rattle.std.proofs.lemmas.Bool.{cases_lt}
use Rattle.std.proofs.lemmas.List.{ext_get_or, length_push, get_or_append_left, get_or_push}
use Rattle.linear_algebra.specs.Field.{Gf}
use Rattle.linear_algebra.specs.Rows.{list_of, transposed}
use Rattle.linear_algebra.specs.Matrix.{Mat, transpose}
use Rattle.linear_algebra.specs.MatrixLaws.{transpose-at}
use Rattle.linear_algebra.specs.Typed.{grid_of}
use Rattle.linear_algebra.proofs.Rows.{length-list_of, get_or-list_of, list_of-same}
use Rattle.linear_algebra.proofs.Typed.{entry-grid_of}
use Rattle.fp_linear.specs.Matrix.{PlainMatrix, plain}
use Rattle.representations.specs.Quiver.{Quiver}
use Rattle.module_types.specs.declared.Side.{Side}
use Rattle.module_types.specs.declared.Module.{Module}
use Rattle.module_types.specs.Algebras.{other_side}
use Rattle.module_types.specs.Readings.{rep_of, dim_at}
use Rattle.module_types.specs.Shapes.{IsModule}
use Rattle.module_types.specs.Written.{written, dual_of}
use Rattle.module_types.proofs.Written.{written-rep_of}

pub list_of-more : {X : Type 0} (n : ℕ) (f : ℕ → X) (d : X) → list_of (n + 1) f ≡ list_of n f ++ f n ∷ []
list_of-more n f d =
    ext_get_or d (list_of (n + 1) f) (list_of n f ++ f n ∷ []) (length-list_of (n + 1) f ∙ sym (length_push (list_of n f) (f n) ∙ ap (λ k. k + 1) (length-list_of n f)))
    (λ i b. let l : i < n + 1 = omega (arith, length-list_of (n + 1) f, b) in get_or-list_of (n + 1) f i d l ∙ elim (cases_lt i n) [
      | inl k ↦ sym (get_or_append_left (list_of n f) (f n ∷ []) d i (omega (arith, length-list_of n f, k)) ∙ get_or-list_of n f i d k)
      | inr g ↦ (let at : i ≡ n = omega arith in subst (λ i. f i ≡ get_or (list_of n f ++ f n ∷ []) i d) (sym at) (sym (get_or_push (list_of n f) (f n) d n (length-list_of n f))))
    ])

-- the matrix of the dual at an arrow
abbrev pub dual_matrix_of : (q : Gf) (Q : Quiver) → Module → ℕ → PlainMatrix
dual_matrix_of q Q m a = plain q (dim_at Q m.dims (Q.target a)) (dim_at Q m.dims (Q.source a)) (grid_of (transpose ((rep_of q Q m).mat a)))

module _ (q : Gf) (Q : Quiver) (m : Module) (M : IsModule q Q m) where
  -- its matrix at an arrow
  matrix_of : ℕ → PlainMatrix
  matrix_of a = plain q (dim_at Q m.dims (Q.source a)) (dim_at Q m.dims (Q.target a)) (grid_of ((rep_of q Q m).mat a))

  is_written : written {Q = Q} m.side (rep_of q Q m) ≡ m
  is_written = written-rep_of q Q m M

  read_at : (a : ℕ) (p : PlainMatrix) → a < Q.arrows → p ≡ slice_index_or m.matrices a p → p ≡ matrix_of a
  unfolding matrix_of
  read_at a p l e = e ∙ ap (λ (m : Module). slice_index_or m.matrices a p) (sym is_written) ∙ get_or-list_of Q.arrows (λ a. plain q (dim_at Q m.dims (Q.source a)) (dim_at Q m.dims (Q.target a)) (grid_of ((rep_of q Q m).mat a))) a p l

  pub transposed_at : (a : ℕ) (p t : PlainMatrix) → a < Q.arrows → p ≡ slice_index_or m.matrices a p → t ≡ plain p.field p.col_count p.row_count (transposed p.row_count p.col_count p.rows) → t ≡ dual_matrix_of q Q m a
  unfolding matrix_of transposed grid_of
  transposed_at a p t l e d =
      d ∙ ap (λ (p : PlainMatrix). plain p.field p.col_count p.row_count (transposed p.row_count p.col_count p.rows)) (read_at a p l e)
      ∙ ap (plain q (dim_at Q m.dims (Q.target a)) (dim_at Q m.dims (Q.source a))) (turned ((rep_of q Q m).mat a))
    where
      turned : {m n : ℕ} (a : Mat q m n) → transposed m n (grid_of a) ≡ grid_of (transpose a)
      turned {m} {n} a = list_of-same n _ _ [] (λ j l. list_of-same m _ _ 0 (λ i k. entry-grid_of a i j ∙ sym (transpose-at a j i)))

  pub dual_by_lists : (side : Side) (dims : List ℕ) (matrices : List PlainMatrix) → side ≡ other_side m.side → dims ≡ m.dims → matrices ≡ list_of Q.arrows (dual_matrix_of q Q m)
      → record { side = side; dims = dims; matrices = matrices } ≡ dual_of q Q m
  unfolding dual_of
  dual_by_lists side dims matrices s d e = λ i. record { side = s i; dims = (d ∙ sym (ap (λ (m : Module). m.dims) is_written)) i; matrices = e i }

pub list_of-none : {X : Type 0} (f : ℕ → X) (xs : List X) → xs ≡ [] → xs ≡ list_of 0 f
unfolding list_of
list_of-none f xs e = e
