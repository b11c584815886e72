-- The matrices of paths on right and left modules.
use Rattle.std.proofs.Common.{ℕ, ◌≡◌, ◌<◌, ◌⊎◌, inl, inr, ◌∷◌, [], ◌++◌, refl, sym, ap, ◌∙◌}
use Rattle.linear_algebra.specs.Field.{Gf}
use Rattle.linear_algebra.specs.Matrix.{zeros, one, transpose, ◌·◌}
use Rattle.linear_algebra.proofs.MatrixLaws.{transpose_transpose, transpose_zeros}
use Rattle.quiver_paths.specs.declared.Quiver.{Quiver}
use Rattle.quiver_paths.specs.declared.Path.{Path}
use Rattle.quiver_paths.specs.Quiver.{arrow_count, source, target}
use Rattle.quiver_paths.specs.Path.{Leads, concat, trivial_path, arrow_path}
use Rattle.quiver_paths.proofs.PathLemmas.{Leads-append}
use Rattle.representations.specs.Quiver.{Path as TypedPath, trivial, then, reverse, opposite}
use Rattle.representations.specs.Rep.{Rep, along}
use Rattle.representations.specs.Dual.{dual}
use Rattle.representations.proofs.Duals.{along-reverse, reverse_reverse}
use Rattle.representations.proofs.Paths.{along-trivial, along-then, along_after}
use Rattle.bound_algebra.specs.TypedPaths.{quiver_of, arrows_of, path_of, Runs, cases_runs, listed}
use Rattle.bound_algebra.specs.PathMatrices.{path_matrix_by, path_matrix, left_path_matrix_by, left_path_matrix}
use Rattle.bound_algebra.proofs.TypedPaths.{same_arrows, arrows_of-path_of}

pub zeros-at : (q : Gf) (m n i j : ℕ) → (zeros q m n).at i j ≡ 0
unfolding zeros
zeros-at q m n i j = refl

pub Runs-listed : (Q : Quiver) {v w : ℕ} (p : TypedPath (quiver_of Q) v w) → Leads Q v (arrows_of p) w → Runs Q v w (listed p)
Runs-listed Q p l = record { starts = refl; ends = refl; leads = l }

pub Runs-trivial : (Q : Quiver) (v : ℕ) → Runs Q v v (trivial_path v)
Runs-trivial Q v = record { starts = refl; ends = refl; leads = refl }

Runs-behind : (Q : Quiver) (v : ℕ) (p : Path) (a : ℕ) → a < arrow_count Q → Runs Q v (source Q a) p → Runs Q v (target Q a) (concat p (arrow_path Q a))
Runs-behind Q v p a l r = record { starts = r.starts; ends = refl; leads = Leads-append Q v p.arrows (source Q a) (a ∷ []) (target Q a) r.leads (l, refl, refl) }

-- a path is that of its arrows
path_of-same : (Q : Quiver) {v w : ℕ} (t : TypedPath (quiver_of Q) v w) (p : Path) (r : Runs Q v w p) → arrows_of t ≡ p.arrows → path_of Q v p.arrows w r.leads ≡ t
path_of-same Q {v} {w} t p r e = same_arrows (path_of Q v p.arrows w r.leads) t (arrows_of-path_of Q v p.arrows w r.leads ∙ sym e)

module _ {q : Gf} (Q : Quiver) (X : Rep q (quiver_of Q)) where
  path_matrix_by-typed : {v w : ℕ} (t : TypedPath (quiver_of Q) v w) (p : Path) (c : Runs Q v w p ⊎ (Runs Q v w p → ⊥)) → Runs Q v w p → arrows_of t ≡ p.arrows → path_matrix_by Q X v w p c ≡ along X t
  path_matrix_by-typed t p (inl r) is e = ap (along X) (path_of-same Q t p r e)
  path_matrix_by-typed t p (inr n) is e = absurd (n is)

  path_matrix_by-apart : (v w : ℕ) (p : Path) (c : Runs Q v w p ⊎ (Runs Q v w p → ⊥)) → (Runs Q v w p → ⊥) → path_matrix_by Q X v w p c ≡ zeros q (X.dim v) (X.dim w)
  path_matrix_by-apart v w p (inl r) d = absurd (d r)
  path_matrix_by-apart v w p (inr n) d = refl

  -- the matrix of a path of these arrows
  pub path_matrix-typed : {v w : ℕ} (t : TypedPath (quiver_of Q) v w) (p : Path) → Runs Q v w p → arrows_of t ≡ p.arrows → path_matrix Q X v w p ≡ along X t
  unfolding path_matrix
  path_matrix-typed {v} {w} t p is e = path_matrix_by-typed t p (cases_runs Q v w p) is e

  pub path_matrix-apart : (v w : ℕ) (p : Path) → (Runs Q v w p → ⊥) → path_matrix Q X v w p ≡ zeros q (X.dim v) (X.dim w)
  unfolding path_matrix
  path_matrix-apart v w p d = path_matrix_by-apart v w p (cases_runs Q v w p) d

  pub path_matrix-trivial : (v : ℕ) → path_matrix Q X v v (trivial_path v) ≡ one q (X.dim v)
  path_matrix-trivial v = path_matrix-typed trivial (trivial_path v) (Runs-trivial Q v) refl ∙ along-trivial X v

  -- a path, and an arrow behind it
  pub path_matrix-behind : (v : ℕ) (p : Path) (a : ℕ) → a < arrow_count Q → Runs Q v (source Q a) p
      → path_matrix Q X v (target Q a) (concat p (arrow_path Q a)) ≡ path_matrix Q X v (source Q a) p · X.mat a
  path_matrix-behind v p a l r =
      let t : TypedPath (quiver_of Q) v (source Q a) = path_of Q v p.arrows (source Q a) r.leads in
      let same : arrows_of t ≡ p.arrows = arrows_of-path_of Q v p.arrows (source Q a) r.leads in
      path_matrix-typed (then a t) (concat p (arrow_path Q a)) (Runs-behind Q v p a l r) (ap (λ xs. xs ++ a ∷ []) same)
      ∙ along-then X a t ∙ ap (λ m. m · X.mat a) (sym (path_matrix-typed t p r same))

module _ {q : Gf} (Q : Quiver) (X : Rep q (opposite (quiver_of Q))) where
  left_path_matrix_by-typed : {v w : ℕ} (t : TypedPath (quiver_of Q) v w) (p : Path) (c : Runs Q v w p ⊎ (Runs Q v w p → ⊥)) → Runs Q v w p → arrows_of t ≡ p.arrows
      → left_path_matrix_by Q X v w p c ≡ along X (reverse t)
  left_path_matrix_by-typed t p (inl r) is e = ap (λ z. along X (reverse z)) (path_of-same Q t p r e)
  left_path_matrix_by-typed t p (inr n) is e = absurd (n is)

  left_path_matrix_by-apart : (v w : ℕ) (p : Path) (c : Runs Q v w p ⊎ (Runs Q v w p → ⊥)) → (Runs Q v w p → ⊥) → left_path_matrix_by Q X v w p c ≡ zeros q (X.dim w) (X.dim v)
  left_path_matrix_by-apart v w p (inl r) d = absurd (d r)
  left_path_matrix_by-apart v w p (inr n) d = refl

  pub left_path_matrix-typed : {v w : ℕ} (t : TypedPath (quiver_of Q) v w) (p : Path) → Runs Q v w p → arrows_of t ≡ p.arrows → left_path_matrix Q X v w p ≡ along X (reverse t)
  unfolding left_path_matrix
  left_path_matrix-typed {v} {w} t p is e = left_path_matrix_by-typed t p (cases_runs Q v w p) is e

  pub left_path_matrix-apart : (v w : ℕ) (p : Path) → (Runs Q v w p → ⊥) → left_path_matrix Q X v w p ≡ zeros q (X.dim w) (X.dim v)
  unfolding left_path_matrix
  left_path_matrix-apart v w p d = left_path_matrix_by-apart v w p (cases_runs Q v w p) d

  pub left_path_matrix-trivial : (v : ℕ) → left_path_matrix Q X v v (trivial_path v) ≡ one q (X.dim v)
  left_path_matrix-trivial v = let t : TypedPath (quiver_of Q) v v = trivial in left_path_matrix-typed t (trivial_path v) (Runs-trivial Q v) refl ∙ along-trivial X v

  -- on a left module the arrow acts first
  pub left_path_matrix-behind : (v : ℕ) (p : Path) (a : ℕ) → a < arrow_count Q → Runs Q v (source Q a) p
      → left_path_matrix Q X v (target Q a) (concat p (arrow_path Q a)) ≡ X.mat a · left_path_matrix Q X v (source Q a) p
  left_path_matrix-behind v p a l r =
      let t : TypedPath (quiver_of Q) v (source Q a) = path_of Q v p.arrows (source Q a) r.leads in
      let same : arrows_of t ≡ p.arrows = arrows_of-path_of Q v p.arrows (source Q a) r.leads in
      left_path_matrix-typed (then a t) (concat p (arrow_path Q a)) (Runs-behind Q v p a l r) (ap (λ xs. xs ++ a ∷ []) same)
      ∙ along_after X a (reverse t) ∙ ap (λ m. X.mat a · m) (sym (left_path_matrix-typed t p r same))

  -- on the dual, a right module, paths have the transposed matrices
  dual_matrix_by : (v w : ℕ) (p : Path) (c : Runs Q v w p ⊎ (Runs Q v w p → ⊥)) → path_matrix_by Q (dual X) v w p c ≡ transpose (left_path_matrix_by Q X v w p c)
  dual_matrix_by v w p (inl r) =
      let t : TypedPath (quiver_of Q) v w = path_of Q v p.arrows w r.leads in
      ap (along (dual X)) (sym (reverse_reverse t)) ∙ along-reverse X (reverse t)
  dual_matrix_by v w p (inr n) = sym (transpose_zeros q (X.dim w) (X.dim v))

  pub dual_matrix : (v w : ℕ) (p : Path) → path_matrix Q (dual X) v w p ≡ transpose (left_path_matrix Q X v w p)
  unfolding path_matrix left_path_matrix
  dual_matrix v w p = dual_matrix_by v w p (cases_runs Q v w p)

  pub left_matrix : (v w : ℕ) (p : Path) → left_path_matrix Q X v w p ≡ transpose (path_matrix Q (dual X) v w p)
  left_matrix v w p = sym (transpose_transpose (left_path_matrix Q X v w p)) ∙ ap transpose (sym (dual_matrix v w p))
