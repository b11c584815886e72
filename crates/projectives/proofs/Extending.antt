-- A sum of injective modules is injective, in the strong form: what is zero where f is zero factors through f.
use Rattle.std.proofs.Common.{ℕ, ◌≡◌, sym, ap, ◌∙◌, arith}
use Rattle.linear_algebra.specs.Field.{Gf}
use Rattle.linear_algebra.specs.Matrix.{Mat, Row, zeros, ◌·◌, transpose}
use Rattle.linear_algebra.specs.Rank.{IsInColumnSpan}
use Rattle.linear_algebra.specs.LinearMaps.{IsLinear, matrix_of}
use Rattle.linear_algebra.proofs.MatrixLaws.{mul_assoc_mat, add_mul_mat, scale_mul, mul_zeros, zeros_mul, zero_scale}
use Rattle.linear_algebra.proofs.LinearMaps.{mul-matrix_of}
use Rattle.linear_algebra.proofs.BlockFamilies.{sum_all-zeros}
use Rattle.linear_algebra.proofs.Solving.{factors_through}
use Rattle.representations.specs.Quiver.{BoundQuiver, opposite_algebra}
use Rattle.representations.specs.Rep.{Rep, IsMod}
use Rattle.representations.specs.Hom.{Hom, ◌≫◌, identity, zero_hom}
use Rattle.representations.specs.Module.{IsMono}
use Rattle.representations.specs.Dual.{dual_hom}
use Rattle.representations.specs.HomSpace.{HomBasis}
use Rattle.representations.proofs.Homs.{compose-at, zero_hom-at, zero_multiple, compose_assoc, compose_identity}
use Rattle.representations.proofs.Duals.{dual_compose, dual_identity}
use Rattle.representations.proofs.HomSpace.{hom_basis, coordinates, hom-coordinates, coordinates-sum, coordinates-multiple, hom_sum, hom_scale, compose_linear_left}
use Rattle.projectives.specs.Words.{projective}
use Rattle.projectives.specs.Families.{family_in, projectives, generator_of}
use Rattle.projectives.specs.Components.{family_out}
use Rattle.projectives.specs.HomRows.{value}
use Rattle.projectives.specs.TwoSided.{TwoSided, other}
use Rattle.projectives.specs.Injective.{injective, injectives}
use Rattle.projectives.specs.Pairing.{IsFunctional, pairing, IsPairingAfter}
use Rattle.projectives.proofs.Components.{in-out}
use Rattle.projectives.proofs.Pairing.{value-natural, pairing-linear_before, pairing-natural, equal_by_pairing, perfect_after}

module _ {q : Gf} {A : BoundQuiver} (T : TwoSided q A) (k : ℕ) (v : ℕ → ℕ) (X Y : Rep q A.quiver) (M : IsMod A X) (N : IsMod A Y) (f : Hom X Y) (s : Hom X (injectives T k v))
    (zero_there : (w : ℕ) (x : Row q (X.dim w)) → x · f.at w ≡ zeros q 1 (Y.dim w) → x · s.at w ≡ zeros q 1 ((injectives T k v).dim w)) where
  -- What f takes to zero has the pairing zero with s.
  value_zero : (u : Hom (projectives T.words k v) X) → u ≫ f ≡ zero_hom (projectives T.words k v) Y → (j : ℕ) → value A T.words T.basis k v u j · f.at (v j) ≡ zeros q 1 (Y.dim (v j))
  value_zero u e j =
      sym (value-natural T k v X Y u f j)
      ∙ ap (λ z. value A T.words T.basis k v z j) e
      ∙ ap (λ z. generator_of A T.words T.basis k v j · z) (zero_hom-at (projectives T.words k v) Y (v j)) ∙ mul_zeros (generator_of A T.words T.basis k v j)

  pairing_zero : (u : Hom (projectives T.words k v) X) → u ≫ f ≡ zero_hom (projectives T.words k v) Y → pairing T k v u s ≡ zeros q 1 1
  unfolding pairing
  pairing_zero u e = sum_all-zeros k _ (λ j l.
      sym (mul_assoc_mat (value A T.words T.basis k v u j) (s.at (v j)) (transpose (generator_of (opposite_algebra A) (other T) T.opposite_basis k v j)))
      ∙ ap (λ z. z · transpose (generator_of (opposite_algebra A) (other T) T.opposite_basis k v j)) (zero_there (v j) (value A T.words T.basis k v u j) (value_zero u e j))
      ∙ zeros_mul (transpose (generator_of (opposite_algebra A) (other T) T.opposite_basis k v j)))

  before : HomBasis (projectives T.words k v) X
  before = hom_basis (projectives T.words k v) X

  after : HomBasis (projectives T.words k v) Y
  after = hom_basis (projectives T.words k v) Y

  -- composition with f, and the pairing with s, in coordinates
  composed : Row q before.size → Row q after.size
  composed c = coordinates after (before.hom c ≫ f)

  composed_linear : IsLinear composed
  unfolding composed
  composed_linear = compose_linear_left before after f

  paired : Row q before.size → Row q 1
  paired c = pairing T k v (before.hom c) s

  paired_linear : IsLinear paired
  unfolding paired
  paired_linear = record {
    sum = λ c d. ap (λ z. pairing T k v z s) (hom_sum before c d) ∙ (pairing-linear_before T k v X s).of_sum (before.hom c) (before.hom d);
    multiple = λ n c. ap (λ z. pairing T k v z s) (hom_scale before n c) ∙ (pairing-linear_before T k v X s).of_multiple n (before.hom c);
  }

  -- a homomorphism with zero coordinates is zero
  zero_coordinates : (g : Hom (projectives T.words k v) Y) → coordinates after g ≡ zeros q 1 after.size → g ≡ zero_hom (projectives T.words k v) Y
  zero_coordinates g e =
      sym (hom-coordinates after g)
      ∙ ap after.hom (e ∙ sym (zero_scale (coordinates after g)))
      ∙ hom_scale after 0 (coordinates after g) ∙ zero_multiple (after.hom (coordinates after g))

  functional_column : IsInColumnSpan (matrix_of composed) (matrix_of paired)
  unfolding composed paired
  functional_column = factors_through (matrix_of composed) (matrix_of paired) (λ c e.
      mul-matrix_of paired paired_linear c
      ∙ pairing_zero (before.hom c) (zero_coordinates (before.hom c ≫ f) (sym (mul-matrix_of composed composed_linear c) ∙ e)))

  -- the functional on Hom (P, Y) that extends it
  extended : Hom (projectives T.words k v) Y → Mat q 1 1
  extended g = coordinates after g · functional_column.by

  extended_linear : IsFunctional extended
  unfolding extended
  extended_linear = record {
    of_sum = λ a b. ap (λ z. z · functional_column.by) (coordinates-sum after a b) ∙ add_mul_mat (coordinates after a) (coordinates after b) functional_column.by;
    of_multiple = λ c a. ap (λ z. z · functional_column.by) (coordinates-multiple after c a) ∙ scale_mul c (coordinates after a) functional_column.by;
  }

  extended_is : (u : Hom (projectives T.words k v) X) → extended (u ≫ f) ≡ pairing T k v u s
  unfolding extended composed paired
  extended_is u =
      ap (λ z. coordinates after (z ≫ f) · functional_column.by) (sym (hom-coordinates before u))
      ∙ ap (λ z. z · functional_column.by) (sym (mul-matrix_of composed composed_linear (coordinates before u)))
      ∙ mul_assoc_mat (coordinates before u) (matrix_of composed) functional_column.by
      ∙ ap (λ z. coordinates before u · z) functional_column.is
      ∙ mul-matrix_of paired paired_linear (coordinates before u)
      ∙ ap (λ z. pairing T k v z s) (hom-coordinates before u)

  represented : IsPairingAfter T k v extended
  represented = perfect_after T k v Y N extended extended_linear

  pub injectives_extend : (t : Hom Y (injectives T k v)) × (f ≫ t ≡ s)
  injectives_extend = (
    represented.by,
    equal_by_pairing T k v X M (f ≫ represented.by) s (λ u. sym (pairing-natural T k v X Y u f represented.by) ∙ represented.is (u ≫ f) ∙ extended_is u),
  )

-- Along an injective homomorphism everything extends.
module _ {q : Gf} {A : BoundQuiver} (T : TwoSided q A) (X Y : Rep q A.quiver) (M : IsMod A X) (N : IsMod A Y) (f : Hom X Y) where
  pub injectives_injective : (k : ℕ) (v : ℕ → ℕ) → IsMono f → (s : Hom X (injectives T k v)) → (t : Hom Y (injectives T k v)) × (f ≫ t ≡ s)
  injectives_injective k v mono s = injectives_extend T k v X Y M N f s (λ w x e. ap (λ z. z · s.at w) (mono w x e) ∙ zeros_mul (s.at w))

  -- One injective module is a sum of one.
  one_in : (v : ℕ) → Hom (injective T v) (injectives T 1 (λ j. v))
  one_in v = dual_hom (family_out 1 (λ j. projective (other T) v) 0)

  one_out : (v : ℕ) → Hom (injectives T 1 (λ j. v)) (injective T v)
  one_out v = dual_hom (family_in 1 (λ j. projective (other T) v) 0)

  one_in_out : (v : ℕ) → one_in v ≫ one_out v ≡ identity (injective T v)
  unfolding one_in one_out
  one_in_out v =
      sym (dual_compose (family_in 1 (λ j. projective (other T) v) 0) (family_out 1 (λ j. projective (other T) v) 0))
      ∙ ap (λ (z : Hom (projective (other T) v) (projective (other T) v)). dual_hom z) (in-out 1 (λ j. projective (other T) v) 0 (omega arith))
      ∙ dual_identity (projective (other T) v)

  pub injective_extends : (v : ℕ) (s : Hom X (injective T v)) → ((w : ℕ) (x : Row q (X.dim w)) → x · f.at w ≡ zeros q 1 (Y.dim w) → x · s.at w ≡ zeros q 1 ((injective T v).dim w)) → (t : Hom Y (injective T v)) × (f ≫ t ≡ s)
  injective_extends v s z = narrowed (injectives_extend T 1 (λ j. v) X Y M N f (s ≫ one_in v) (λ w x e.
      ap (λ y. x · y) (compose-at s (one_in v) w) ∙ sym (mul_assoc_mat x (s.at w) ((one_in v).at w))
      ∙ ap (λ y. y · (one_in v).at w) (z w x e) ∙ zeros_mul ((one_in v).at w)))
    where
      narrowed : (t : Hom Y (injectives T 1 (λ j. v))) × (f ≫ t ≡ s ≫ one_in v) → (t : Hom Y (injective T v)) × (f ≫ t ≡ s)
      narrowed p = (
        p.0 ≫ one_out v,
        sym (compose_assoc f p.0 (one_out v)) ∙ ap (λ y. y ≫ one_out v) p.1 ∙ compose_assoc s (one_in v) (one_out v)
            ∙ ap (λ y. s ≫ y) (one_in_out v) ∙ compose_identity s,
      )

  pub injective_injective : (v : ℕ) → IsMono f → (s : Hom X (injective T v)) → (t : Hom Y (injective T v)) × (f ≫ t ≡ s)
  injective_injective v mono s = injective_extends v s (λ w x e. ap (λ z. z · s.at w) (mono w x e) ∙ zeros_mul (s.at w))
