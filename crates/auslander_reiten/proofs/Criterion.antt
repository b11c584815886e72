-- A homomorphism X → νP' is a homomorphism to νP and then νd, or there is a homomorphism P' → X that d kills and whose pairing with it is 1.
use Rattle.std.proofs.Common.{ℕ, ◌≡◌, ◌⊎◌, inl, inr, sym, ap, ◌∙◌}
use Rattle.linear_algebra.specs.Field.{Gf}
use Rattle.linear_algebra.specs.Matrix.{Mat, Row, Column, zeros, one, ◌·◌}
use Rattle.linear_algebra.specs.Rank.{IsInColumnSpan, IsColumnSeparate}
use Rattle.linear_algebra.specs.LinearMaps.{IsLinear, matrix_of}
use Rattle.linear_algebra.proofs.MatrixLaws.{mul_assoc_mat, add_mul_mat, scale_mul, zero_scale}
use Rattle.linear_algebra.proofs.LinearMaps.{mul-matrix_of}
use Rattle.linear_algebra.proofs.Solving.{cosolve_or}
use Rattle.representations.specs.Quiver.{BoundQuiver}
use Rattle.representations.specs.Rep.{Rep, IsMod}
use Rattle.representations.specs.Hom.{Hom, ◌≫◌, zero_hom}
use Rattle.representations.specs.HomSpace.{HomBasis}
use Rattle.representations.proofs.Homs.{zero_multiple}
use Rattle.representations.proofs.HomSpace.{hom_basis, coordinates, hom-coordinates, coordinates-sum, coordinates-multiple, hom_sum, hom_scale, compose_linear_right}
use Rattle.projectives.specs.Families.{projectives}
use Rattle.projectives.specs.TwoSided.{TwoSided}
use Rattle.projectives.specs.Injective.{injectives}
use Rattle.projectives.specs.Transposed.{nakayama}
use Rattle.projectives.specs.Pairing.{IsFunctional, pairing, IsPairingAfter}
use Rattle.projectives.proofs.Pairing.{pairing-linear_before, equal_by_pairing, perfect_after, functional-zero}
use Rattle.projectives.proofs.PairingSides.{pairing-nakayama}

module _ {q : Gf} {A : BoundQuiver} (T : TwoSided q A) (k : ℕ) (v : ℕ → ℕ) (h : ℕ) (u : ℕ → ℕ) (d : Hom (projectives T.words k v) (projectives T.words h u)) {X : Rep q A.quiver} (s : Hom X (injectives T h u)) where
  -- s is a homomorphism to νP, and then νd.
  pub record ComesThrough : Type 0 where
    pub by : Hom X (injectives T k v)
    pub is : by ≫ nakayama T k v h u d ≡ s

  -- s has the pairing 1 with what d kills.
  pub record IsSeen : Type 0 where
    pub by : Hom (projectives T.words h u) X
    pub killed : d ≫ by ≡ zero_hom (projectives T.words k v) X
    pub sees : pairing T h u by s ≡ one q 1

-- They exclude one another.
pub through_vanishes : {q : Gf} {A : BoundQuiver} (T : TwoSided q A) (k : ℕ) (v : ℕ → ℕ) (h : ℕ) (u : ℕ → ℕ) (d : Hom (projectives T.words k v) (projectives T.words h u)) (X : Rep q A.quiver) → IsMod A X
    → (s : Hom X (injectives T h u)) → ComesThrough T k v h u d s → (y : Hom (projectives T.words h u) X) → d ≫ y ≡ zero_hom (projectives T.words k v) X → pairing T h u y s ≡ zeros q 1 1
through_vanishes T k v h u d X M s c y z =
    ap (pairing T h u y) (sym c.is) ∙ sym (pairing-nakayama T k v h u X M y c.by d)
    ∙ ap (λ b. pairing T k v b c.by) z ∙ functional-zero (λ b. pairing T k v b c.by) (pairing-linear_before T k v X c.by)

module _ {q : Gf} {A : BoundQuiver} (T : TwoSided q A) (k : ℕ) (v : ℕ → ℕ) (h : ℕ) (u : ℕ → ℕ) (d : Hom (projectives T.words k v) (projectives T.words h u)) (X : Rep q A.quiver) (M : IsMod A X) (s : Hom X (injectives T h u)) where
  before : HomBasis (projectives T.words h u) X
  before = hom_basis (projectives T.words h u) X

  after : HomBasis (projectives T.words k v) X
  after = hom_basis (projectives T.words k v) X

  -- composition after d, and the pairing with s, in coordinates
  composed : Row q before.size → Row q after.size
  composed c = coordinates after (d ≫ before.hom c)

  composed_linear : IsLinear composed
  unfolding composed
  composed_linear = compose_linear_right before after d

  paired : Row q before.size → Row q 1
  paired c = pairing T h u (before.hom c) s

  paired_linear : IsLinear paired
  unfolding paired
  paired_linear = record {
    sum = λ a b. ap (λ z. pairing T h u z s) (hom_sum before a b) ∙ (pairing-linear_before T h u X s).of_sum (before.hom a) (before.hom b);
    multiple = λ n a. ap (λ z. pairing T h u z s) (hom_scale before n a) ∙ (pairing-linear_before T h u X s).of_multiple n (before.hom a);
  }

  -- a homomorphism with zero coordinates is zero
  zero_coordinates : (g : Hom (projectives T.words k v) X) → coordinates after g ≡ zeros q 1 after.size → g ≡ zero_hom (projectives T.words k v) X
  zero_coordinates g e =
      sym (hom-coordinates after g) ∙ ap after.hom (e ∙ sym (zero_scale (coordinates after g)))
      ∙ hom_scale after 0 (coordinates after g) ∙ zero_multiple (after.hom (coordinates after g))

  -- the functional on Hom (P, X) that a column gives
  module _ (b : Column q after.size) where
    measured : Hom (projectives T.words k v) X → Mat q 1 1
    measured g = coordinates after g · b

    measured_linear : IsFunctional measured
    unfolding measured
    measured_linear = record {
      of_sum = λ f g. ap (λ z. z · b) (coordinates-sum after f g) ∙ add_mul_mat (coordinates after f) (coordinates after g) b;
      of_multiple = λ c f. ap (λ z. z · b) (coordinates-multiple after c f) ∙ scale_mul c (coordinates after f) b;
    }

    represented : IsPairingAfter T k v measured
    represented = perfect_after T k v X M measured measured_linear

  measured_is : (b : IsInColumnSpan (matrix_of composed) (matrix_of paired)) (y : Hom (projectives T.words h u) X) → measured b.by (d ≫ y) ≡ pairing T h u y s
  unfolding measured composed paired
  measured_is b y =
      ap (λ z. coordinates after (d ≫ z) · b.by) (sym (hom-coordinates before y))
      ∙ ap (λ z. z · b.by) (sym (mul-matrix_of composed composed_linear (coordinates before y)))
      ∙ mul_assoc_mat (coordinates before y) (matrix_of composed) b.by
      ∙ ap (λ z. coordinates before y · z) b.is
      ∙ mul-matrix_of paired paired_linear (coordinates before y)
      ∙ ap (λ z. pairing T h u z s) (hom-coordinates before y)

  comes : IsInColumnSpan (matrix_of composed) (matrix_of paired) → ComesThrough T k v h u d s
  comes b = record {
    by = (represented b.by).by;
    is = equal_by_pairing T h u X M _ s (λ y. sym (pairing-nakayama T k v h u X M y (represented b.by).by d) ∙ (represented b.by).is (d ≫ y) ∙ measured_is b y);
  }

  seen : IsColumnSeparate (matrix_of composed) (matrix_of paired) → IsSeen T k v h u d s
  unfolding composed paired
  seen c = record {
    by = before.hom c.functional;
    killed = zero_coordinates (d ≫ before.hom c.functional) (sym (mul-matrix_of composed composed_linear c.functional) ∙ c.kills);
    sees = sym (mul-matrix_of paired paired_linear c.functional) ∙ c.sees;
  }

  pub through_or_seen : ComesThrough T k v h u d s ⊎ IsSeen T k v h u d s
  through_or_seen = elim (cosolve_or (matrix_of composed) (matrix_of paired)) [ inl b ↦ inl (comes b) | inr c ↦ inr (seen c) ]
