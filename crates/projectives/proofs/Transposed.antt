-- The transposed homomorphism: its coefficients, and that transposing twice changes nothing.
use Rattle.std.proofs.Common.{ℕ, ◌<◌, ◌≡◌, refl, sym, ap, ◌∙◌}
use Rattle.linear_algebra.specs.Field.{Gf}
use Rattle.linear_algebra.specs.Matrix.{◌·◌}
use Rattle.linear_algebra.specs.BlockFamilies.{sum_all}
use Rattle.linear_algebra.proofs.BlockFamilies.{sum_all-same}
use Rattle.representations.specs.Quiver.{BoundQuiver, opposite_algebra}
use Rattle.representations.specs.Hom.{Hom}
use Rattle.representations.specs.Dual.{dual_hom}
use Rattle.representations.proofs.Sums.{IsMod-family}
use Rattle.projectives.specs.Words.{projective}
use Rattle.projectives.specs.Families.{projectives}
use Rattle.projectives.specs.Components.{component, in_component}
use Rattle.projectives.specs.HomRows.{value}
use Rattle.projectives.specs.TwoSided.{TwoSided, other, swap}
use Rattle.projectives.specs.Transposed.{coefficients, transposed, nakayama}
use Rattle.projectives.proofs.Families.{projectives_mod, generator-from_rows, equal_on_generators}
use Rattle.projectives.proofs.Components.{component_of_sum, sum_of_components}
use Rattle.projectives.proofs.TwoSided.{generator_of-back}

module _ {q : Gf} {A : BoundQuiver} (T : TwoSided q A) (k : ℕ) (v : ℕ → ℕ) (h : ℕ) (u : ℕ → ℕ) (d : Hom (projectives T.words k v) (projectives T.words h u)) where
  pub transposed-value : (j : ℕ) → j < h → value (opposite_algebra A) (other T) T.opposite_basis h u (transposed T k v h u d) j ≡ sum_all k (λ i. in_component (other T) k v i (u j) (coefficients T k v h u d i j))
  unfolding transposed
  transposed-value j l =
      generator-from_rows (opposite_algebra A) (other T) T.opposite_basis h u (projectives (other T) k v)
      (IsMod-family (opposite_algebra A) k (λ i. projective (other T) (v i)) (λ i l. T.opposite_basis.modules (v i)))
      (λ j. sum_all k (λ i. in_component (other T) k v i (u j) (coefficients T k v h u d i j))) j l

  -- The coefficients of the transposed are those of d, with the two places exchanged.
  pub transposed-coefficients : (i j : ℕ) → i < k → j < h → coefficients (swap T) h u k v (transposed T k v h u d) j i ≡ coefficients T k v h u d i j
  transposed-coefficients i j l m =
      ap (component (other T) k v i (u j)) (transposed-value j m)
      ∙ component_of_sum (other T) k v (u j) i l (λ i. coefficients T k v h u d i j)

  -- A homomorphism is made of its coefficients.
  pub value_of_coefficients : (i : ℕ) → sum_all h (λ j. in_component T.words h u j (v i) (coefficients T k v h u d i j)) ≡ value A T.words T.basis k v d i
  value_of_coefficients i = sum_of_components T.words h u (v i) (value A T.words T.basis k v d i)

  pub nakayama_is : nakayama T k v h u d ≡ dual_hom (transposed T k v h u d)
  unfolding nakayama
  nakayama_is = refl

pub transposed_transposed : {q : Gf} {A : BoundQuiver} (T : TwoSided q A) (k : ℕ) (v : ℕ → ℕ) (h : ℕ) (u : ℕ → ℕ) (d : Hom (projectives T.words k v) (projectives T.words h u))
    → transposed (swap T) h u k v (transposed T k v h u d) ≡ d
transposed_transposed {q} {A} T k v h u d =
    equal_on_generators (opposite_algebra (opposite_algebra A)) (other (swap T)) (swap T).opposite_basis k v (projectives T.words h u)
    (projectives_mod (opposite_algebra (opposite_algebra A)) (other (swap T)) (swap T).opposite_basis h u)
    (transposed (swap T) h u k v (transposed T k v h u d)) d (λ i l.
    transposed-value (swap T) h u k v (transposed T k v h u d) i l
    ∙ sum_all-same h _ (λ j. in_component T.words h u j (v i) (coefficients T k v h u d i j)) (λ j m. ap (in_component T.words h u j (v i)) (transposed-coefficients T k v h u d i j l m))
    ∙ value_of_coefficients T k v h u d i
    ∙ sym (ap (λ z. z · d.at (v i)) (generator_of-back T k v i)))
