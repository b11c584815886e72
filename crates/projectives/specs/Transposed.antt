-- The transposed of a homomorphism between sums of projective modules, and the Nakayama functor. (Assem, Simson, Skowroński, volume 1, chapter III, 2,
-- and IV, 2.)
use Rattle.std.specs.Prelude.{ℕ, ◌≡◌}
use Rattle.linear_algebra.specs.Field.{Gf}
use Rattle.linear_algebra.specs.Matrix.{Row}
use Rattle.linear_algebra.specs.BlockFamilies.{sum_all}
use Rattle.representations.specs.Quiver.{BoundQuiver, opposite_algebra}
use Rattle.representations.specs.Hom.{Hom}
use Rattle.representations.specs.Dual.{dual_hom}
use Rattle.representations.proofs.Sums.{IsMod-family}
use Rattle.projectives.specs.Words.{projective}
use Rattle.projectives.specs.Families.{projectives}
use Rattle.projectives.specs.HomRows.{value, hom_of_rows}
use Rattle.projectives.specs.Components.{component, in_component}
use Rattle.projectives.specs.TwoSided.{TwoSided, other}
use Rattle.projectives.specs.Injective.{injectives}

module _ {q : Gf} {A : BoundQuiver} (T : TwoSided q A) (k : ℕ) (v : ℕ → ℕ) (h : ℕ) (u : ℕ → ℕ) (d : Hom (projectives T.words k v) (projectives T.words h u)) where
  -- The coefficients of component j of the value of generator i: for each word from u j to v i a number.
  abbrev pub coefficients : (i j : ℕ) → Row q (T.words.count (u j) (v i))
  coefficients i j = component T.words h u j (v i) (value A T.words T.basis k v d i)

  -- The transposed homomorphism, on the other side: the value of generator j has in component i the coefficients that the value of generator i
  -- under d has in component j. Both go by the words from u j to v i.
  unfoldable pub transposed : Hom (projectives (other T) h u) (projectives (other T) k v)
  transposed = hom_of_rows (opposite_algebra A) (other T) T.opposite_basis h u (projectives (other T) k v)
      (IsMod-family (opposite_algebra A) k (λ i. projective (other T) (v i)) (λ i l. T.opposite_basis.modules (v i)))
      (λ j. sum_all k (λ i. in_component (other T) k v i (u j) (coefficients i j)))

  -- The Nakayama functor on homomorphisms: the dual of the transposed.
  unfoldable pub nakayama : Hom (injectives T k v) (injectives T h u)
  nakayama = dual_hom transposed

-- s is the image under the Nakayama functor of exactly one homomorphism.
pub record IsNakayama {q : Gf} {A : BoundQuiver} (T : TwoSided q A) (k : ℕ) (v : ℕ → ℕ) (h : ℕ) (u : ℕ → ℕ) (s : Hom (injectives T k v) (injectives T h u)) : Type 0 where
  pub by : Hom (projectives T.words k v) (projectives T.words h u)
  pub is : nakayama T k v h u by ≡ s
  pub once : (d : Hom (projectives T.words k v) (projectives T.words h u)) → nakayama T k v h u d ≡ s → d ≡ by
