-- A surjection out of a sum of projective modules has its kernel in the radical exactly where the values of the generators are independent modulo
-- the radical; it is a surjection exactly where they span modulo the radical.
use Rattle.std.proofs.Common.{ℕ, ◌<◌, ◌≡◌, ◌≢◌, ◌⊎◌, inl, inr, refl, sym, ap, ap₂, ◌∙◌, subst}
use Rattle.std.proofs.Math.Path.{path_j}
use Rattle.std.proofs.lemmas.Bool.{cases_lt, cases_eq}
use Rattle.linear_algebra.specs.Field.{Gf, mul}
use Rattle.linear_algebra.specs.FieldLaws.{mul_zero, zero_mul}
use Rattle.linear_algebra.specs.Sums.{sum-zeros}
use Rattle.linear_algebra.specs.Matrix.{Mat, Row, zeros, reshape, ◌⊞◌, ◌⊟◌, negative, ◌·◌}
use Rattle.linear_algebra.proofs.MatrixLaws.{mul_assoc_mat, zeros_mul, add_mul_mat, sub_mul_mat, add_comm_mat, zeros_add, add_negative, negative_scale, add_cancel_mat, sub_self_mat, sub_add_mat}
use Rattle.linear_algebra.proofs.MatrixPaths.{reshape_refl}
use Rattle.linear_algebra.proofs.PartsLaws.{rows_equal, row-mul, Row-eq}
use Rattle.representations.specs.Quiver.{Quiver, BoundQuiver}
use Rattle.representations.specs.Rep.{Rep, along, IsMod}
use Rattle.representations.specs.Hom.{Hom}
use Rattle.representations.specs.Module.{IsEpi}
use Rattle.representations.specs.Radical.{IsInRadicalPower, IsInRadical}
use Rattle.representations.proofs.MatrixExtras.{zero_columns}
use Rattle.representations.proofs.Paths.{along-hom}
use Rattle.representations.proofs.Radical.{radical-zeros, radical-sum, radical-scale, radical-along, radical-hom, by_terms, nakayama}
use Rattle.projectives.specs.Words.{Words, IsWordBasis}
use Rattle.projectives.specs.Families.{projectives, generator_of}
use Rattle.projectives.specs.Yoneda.{row-of_rows}
use Rattle.projectives.specs.Generators.{placed, rows_at, IsIndependentModuloRadical, SpansModuloRadical}
use Rattle.projectives.specs.Covers.{KernelInRadical}
use Rattle.projectives.specs.HomRows.{value}
use Rattle.projectives.proofs.Generators.{rows_at-elsewhere, generators_independent, generators_span}

module _ {q : Gf} {Q : Quiver} where
  -- A homomorphism takes the rows at a vertex to those of the values.
  placed-mul : {X Y : Rep q Q} (f : Hom X Y) (v w : ℕ) (c : (v ≡ w) ⊎ (v ≢ w)) (x : Row q (X.dim v)) → placed X v w c x · f.at w ≡ placed Y v w c (x · f.at v)
  placed-mul {X} {Y} f v w (inl e) x = path_j (λ w e. reshape refl (ap X.dim e) x · f.at w ≡ reshape refl (ap Y.dim e) (x · f.at v))
      (ap (λ z. z · f.at v) (reshape_refl x) ∙ sym (reshape_refl (x · f.at v))) e
  placed-mul f v w (inr d) x = zeros_mul (f.at w)

  pub rows_at-mul : {X Y : Rep q Q} (f : Hom X Y) (k : ℕ) (v : ℕ → ℕ) (x : (j : ℕ) → Row q (X.dim (v j))) (w : ℕ) → rows_at X k v x w · f.at w ≡ rows_at Y k v (λ j. x j · f.at (v j)) w
  unfolding rows_at
  rows_at-mul {X} {Y} f k v x w = rows_equal _ _ (λ i h.
      row-mul i _ (f.at w) ∙ ap (λ z. z · f.at w) (row-of_rows k (λ j. placed X (v j) w (cases_eq (v j) w) (x j)) i h)
      ∙ placed-mul f (v i) w (cases_eq (v i) w) (x i) ∙ sym (row-of_rows k (λ j. placed Y (v j) w (cases_eq (v j) w) (x j · f.at (v j))) i h))

  -- A combination of the rows at a vertex whose coefficients there are zero.
  pub combination_none : (X : Rep q Q) (k : ℕ) (v : ℕ → ℕ) (x : (j : ℕ) → Row q (X.dim (v j))) (w : ℕ) (c : Row q k) → ((j : ℕ) → j < k → v j ≡ w → c.at 0 j ≡ 0) → c · rows_at X k v x w ≡ zeros q 1 (X.dim w)
  unfolding ◌·◌ zeros
  combination_none X k v x w c h = Row-eq _ _ (λ i l. sum-zeros q k _ (λ t b. elim (cases_eq (v t) w) [
    | inl e ↦ ap (λ a. mul q a ((rows_at X k v x w).at t i)) (h t b e) ∙ zero_mul q ((rows_at X k v x w).at t i)
    | inr d ↦ ap (mul q (c.at 0 t)) (rows_at-elsewhere X k v x w t i b d) ∙ mul_zero q (c.at 0 t)
  ]))

  pub radical_negative : {X : Rep q Q} {k w : ℕ} {x : Row q (X.dim w)} → IsInRadicalPower X k w x → IsInRadicalPower X k w (negative x)
  radical_negative {X} {k} {w} {x} r = subst (IsInRadicalPower X k w) (sym (negative_scale x)) (radical-scale _ r)

  -- A surjection reaches the radical from the radical.
  pub radical_lift : {X Y : Rep q Q} (f : Hom X Y) → IsEpi f → {w : ℕ} {y : Row q (Y.dim w)} → IsInRadical Y w y → (x : Row q (X.dim w)) × IsInRadical X w x × (x · f.at w ≡ y)
  radical_lift {X} {Y} f epi {w} = by_terms (λ y. (x : Row q (X.dim w)) × IsInRadical X w x × (x · f.at w ≡ y))
      (zeros q 1 (X.dim w), radical-zeros 1 w, zeros_mul (f.at w))
      (λ x y r s. (r.0 ⊞ s.0, radical-sum r.1 s.1, add_mul_mat r.0 s.0 (f.at w) ∙ ap₂ (λ a b. a ⊞ b) r.2 s.2))
      (λ v p e y. let s = epi v y in (
        s.by · along X p,
        radical-along p e s.by,
        mul_assoc_mat s.by (along X p) (f.at w) ∙ ap (λ z. s.by · z) (along-hom f p) ∙ sym (mul_assoc_mat s.by (f.at v) (along Y p)) ∙ ap (λ z. z · along Y p) s.is,
      ))

opposite_of : {q : Gf} {m n : ℕ} (a b : Mat q m n) → a ⊞ b ≡ zeros q m n → a ≡ negative b
opposite_of a b e = add_cancel_mat b a (negative b) (add_comm_mat b a ∙ e ∙ sym (add_negative b))

module _ {q : Gf} (A : BoundQuiver) (W : Words q A.quiver) (B : IsWordBasis A W) (k : ℕ) (v : ℕ → ℕ) (X : Rep q A.quiver) (f : Hom (projectives W k v) X) where
  -- The rows of the generators at w, and of their values.
  sources : (w : ℕ) → Mat q k ((projectives W k v).dim w)
  sources w = rows_at (projectives W k v) k v (generator_of A W B k v) w

  values : (w : ℕ) → Mat q k (X.dim w)
  values w = rows_at X k v (value A W B k v f) w

  to_values : (w : ℕ) (c : Row q k) → c · sources w · f.at w ≡ c · values w
  unfolding sources values
  to_values w c = mul_assoc_mat c (sources w) (f.at w) ∙ ap (λ z. c · z) (rows_at-mul f k v (generator_of A W B k v) w)

  pub minimal_of_independent : IsIndependentModuloRadical X k v (value A W B k v f) → KernelInRadical f
  unfolding sources values
  minimal_of_independent independent w x e = elim (cases_lt w A.quiver.vertices) [
    | inl b ↦
        let s = generators_span A W B k v w x in
        let opposite : s.by · values w ≡ negative (s.rest · f.at w) = opposite_of (s.by · values w) (s.rest · f.at w)
        (ap (λ z. z ⊞ s.rest · f.at w) (sym (to_values w s.by)) ∙ sym (add_mul_mat (s.by · sources w) s.rest (f.at w)) ∙ ap (λ z. z · f.at w) s.is ∙ e) in
        let none : s.by · sources w ≡ zeros q 1 ((projectives W k v).dim w) = combination_none (projectives W k v) k v (generator_of A W B k v) w s.by
        (independent w b s.by (subst (IsInRadical X w) (sym opposite) (radical_negative (radical-hom f s.in_radical)))) in
        subst (IsInRadical (projectives W k v) w) (sym (zeros_add s.rest) ∙ ap (λ z. z ⊞ s.rest) (sym none) ∙ s.is) s.in_radical
    | inr b ↦ subst (IsInRadical (projectives W k v) w) (sym (zero_columns ((projectives W k v).past w b) x)) (radical-zeros 1 w)
  ]

  pub independent_of_minimal : IsEpi f → KernelInRadical f → IsIndependentModuloRadical X k v (value A W B k v f)
  unfolding sources values
  independent_of_minimal epi minimal w b c r =
      let y = radical_lift f epi r in
      let killed : (c · sources w ⊟ y.0) · f.at w ≡ zeros q 1 (X.dim w) =
      sub_mul_mat (c · sources w) y.0 (f.at w) ∙ ap₂ (λ s t. s ⊟ t) (to_values w c) y.2 ∙ sub_self_mat (c · values w) in
      generators_independent A W B k v w b c
      (subst (IsInRadical (projectives W k v) w) (sub_add_mat (c · sources w) y.0) (radical-sum (minimal w (c · sources w ⊟ y.0) killed) y.1))

  -- Surjective, by what spans modulo the radical.
  pub spans_of_epi : IsEpi f → SpansModuloRadical X k v (value A W B k v f)
  unfolding sources values
  spans_of_epi epi w y =
      let x = epi w y in
      let s = generators_span A W B k v w x.by in
      record {
        by = s.by;
        rest = s.rest · f.at w;
        in_radical = radical-hom f s.in_radical;
        is = ap (λ z. z ⊞ s.rest · f.at w) (sym (to_values w s.by)) ∙ sym (add_mul_mat (s.by · sources w) s.rest (f.at w)) ∙ ap (λ z. z · f.at w) s.is ∙ x.is;
      }

  pub epi_of_spans : IsMod A X → SpansModuloRadical X k v (value A W B k v f) → IsEpi f
  unfolding values
  epi_of_spans M span = nakayama A M f (λ w y.
      let s = span w y in
      record { from = s.by · sources w; rest = s.rest; in_radical = s.in_radical; is = ap (λ z. z ⊞ s.rest) (to_values w s.by) ∙ s.is })
