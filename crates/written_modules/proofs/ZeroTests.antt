-- Tests of matrices by their entries tell what they are.
use Rattle.std.proofs.Common.{ℕ, zero, suc, ◌≡◌, ◌<◌, Bool, true, false, inl, inr, refl, sym, ap, ◌∙◌, arith, if◌then◌else◌, ltb}
use Rattle.std.specs.Prelude.{◌&&◌}
use Rattle.std.proofs.lemmas.Bool.{and_from, cases_lt, cases_eq, eq-eqb, eqb-true, true≢false}
use Rattle.linear_algebra.specs.Field.{Gf, mul}
use Rattle.linear_algebra.specs.FieldLaws.{mul_zero}
use Rattle.linear_algebra.specs.Matrix.{Mat, Mat-eq_below, zeros}
use Rattle.quiver_paths.specs.declared.Path.{Path}
use Rattle.quiver_paths.specs.Path.{path_length}
use Rattle.path_algebra.specs.declared.Relation.{Relation}
use Rattle.path_algebra.specs.declared.Header.{Header}
use Rattle.path_algebra.proofs.SumsOver.{sum_over-zeros}
use Rattle.representations.specs.Rep.{Rep}
use Rattle.bound_algebra.specs.TypedPaths.{quiver_of}
use Rattle.bound_algebra.specs.PathMatrices.{path_matrix}
use Rattle.bound_algebra.proofs.PathMatrices.{zeros-at}
use Rattle.module_types.specs.declared.Side.TheVariants.{Right}
use Rattle.module_faults.specs.RelationActions.{short_entry, RelationIsZero}
use Rattle.script_answers.specs.ZeroTests.{all_below, same_matrix, is_zero, relation_is_zero}

pub all_pass : (n : ℕ) (test : ℕ → Bool) → ((i : ℕ) → i < n → test i ≡ true) → all_below n test ≡ true
all_pass zero test h = refl
all_pass (suc n) test h = and_from _ _ (all_pass n test (λ i l. h i (omega arith))) (h n (omega arith))

both_parts : (x y : Bool) → (x && y) ≡ true → (x ≡ true) × (y ≡ true)
both_parts true y e = (refl, e)
both_parts false y e = absurd (true≢false (sym e))

pub pass_at : (n : ℕ) (test : ℕ → Bool) → all_below n test ≡ true → (i : ℕ) → i < n → test i ≡ true
pass_at zero test e i l = absurd (omega arith)
pass_at (suc n) test e i l = elim (cases_eq i n) [
  | inl same ↦ ap test same ∙ (both_parts (all_below n test) (test n) e).1
  | inr other ↦ pass_at n test (both_parts (all_below n test) (test n) e).0 i (omega arith)
]

module _ {q : Gf} {m n : ℕ} where
  pub matrix_same : (f g : Mat q m n) → same_matrix f g ≡ true → f ≡ g
  matrix_same f g e = Mat-eq_below f g (λ i j a b. eqb-true _ _ (pass_at n _ (pass_at m _ e i a) j b))

  pub same_if : (f g : Mat q m n) → f ≡ g → same_matrix f g ≡ true
  same_if f g e = all_pass m _ (λ i a. all_pass n _ (λ j b. eq-eqb _ _ (ap (λ (h : Mat q m n). h.at i j) e)))

  pub matrix_zero : (f : Mat q m n) → is_zero f ≡ true → f ≡ zeros q m n
  matrix_zero f e = Mat-eq_below f _ (λ i j a b. eqb-true _ _ (pass_at n _ (pass_at m _ e i a) j b) ∙ sym (zeros-at q m n i j))

  pub zero_if : (f : Mat q m n) → f ≡ zeros q m n → is_zero f ≡ true
  zero_if f e = all_pass m _ (λ i a. all_pass n _ (λ j b. eq-eqb _ _ (ap (λ (h : Mat q m n). h.at i j) e ∙ zeros-at q m n i j)))

-- A relation on a right module. Where there is no vertex, no row or no column, its entries are zero.
module _ (h : Header) (X : Rep h.field (quiver_of h.quiver)) (rel : Relation) where
  empty_entry : (v w x y : ℕ) → ((p : Path) → (path_matrix h.quiver X v w p).at x y ≡ 0) → short_entry h (path_matrix h.quiver X v w) rel x y ≡ 0
  empty_entry v w x y z = sum_over-zeros h.field rel.terms _ (λ t m. chosen (ltb (path_length t.path) h.bound) t.coef t.path)
    where
      chosen : (b : Bool) (c : ℕ) (p : Path) → (if b then mul h.field c ((path_matrix h.quiver X v w p).at x y) else 0) ≡ 0
      chosen true c p = ap (mul h.field c) (z p) ∙ mul_zero h.field c
      chosen false c p = refl

  pub relation_zero : relation_is_zero h X rel ≡ true → RelationIsZero Right h X rel
  relation_zero e v w = record {
    at = λ x y. elim (cases_lt x (X.dim v)) [
      | inr past ↦ empty_entry v w x y (λ p. (path_matrix h.quiver X v w p).fits.below x y past)
      | inl inside ↦ elim (cases_lt y (X.dim w)) [
        | inr past ↦ empty_entry v w x y (λ p. (path_matrix h.quiver X v w p).fits.right x y past)
        | inl within ↦ eqb-true _ _ (pass_at (X.dim w) _ (pass_at (X.dim v) _ (pass_at (quiver_of h.quiver).vertices _ (pass_at (quiver_of h.quiver).vertices _ e v (vertex v x inside)) w (vertex w y within)) x inside) y within)
      ]
    ];
  }
    where
      vertex : (v x : ℕ) → x < X.dim v → v < (quiver_of h.quiver).vertices
      vertex v x l = elim (cases_lt v (quiver_of h.quiver).vertices) [
        | inl b ↦ b
        | inr past ↦ absurd (let n = X.past v past in omega (arith, n, l))
      ]

  pub relation_if : RelationIsZero Right h X rel → relation_is_zero h X rel ≡ true
  relation_if z = all_pass (quiver_of h.quiver).vertices _ (λ v a. all_pass (quiver_of h.quiver).vertices _ (λ w b. all_pass (X.dim v) _ (λ x c. all_pass (X.dim w) _ (λ y d. eq-eqb _ _ ((z v w).at x y)))))
