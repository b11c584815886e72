-- Homomorphisms into a sum of injective modules by columns, and the pairing of Hom (P, X) with Hom (X, νP).
-- (Assem, Simson, Skowroński, volume 1, chapter III, 2, and IV, 2.)
use Rattle.std.specs.Prelude.{ℕ, ◌≡◌}
use Rattle.linear_algebra.specs.Field.{Gf}
use Rattle.linear_algebra.specs.Matrix.{Mat, Column, ◌⊞◌, ◌⊙◌, ◌·◌, transpose}
use Rattle.linear_algebra.specs.BlockFamilies.{sum_all}
use Rattle.representations.specs.Quiver.{Quiver, BoundQuiver, opposite_algebra}
use Rattle.representations.specs.Rep.{Rep, IsMod}
use Rattle.representations.specs.Hom.{Hom, ◌≫◌, ◌⊕◌, multiple}
use Rattle.representations.specs.Dual.{dual, dual_hom}
use Rattle.representations.proofs.Duals.{IsMod-dual}
use Rattle.projectives.specs.Words.{projective}
use Rattle.projectives.specs.Families.{family_in, projectives, generator_of}
use Rattle.projectives.specs.TwoSided.{TwoSided, other}
use Rattle.projectives.specs.Injective.{injective, injectives, turn}
use Rattle.projectives.specs.HomRows.{value, hom_of_rows}

-- A linear function from homomorphisms to the field, whose elements are the matrices of one row and one column.
pub record IsFunctional {q : Gf} {Q : Quiver} {X Y : Rep q Q} (f : Hom X Y → Mat q 1 1) : Type 0 where
  pub of_sum : (a b : Hom X Y) → f (a ⊕ b) ≡ f a ⊞ f b
  pub of_multiple : (c : ℕ) (a : Hom X Y) → f (multiple c a) ≡ c ⊙ f a

module _ {q : Gf} {A : BoundQuiver} (T : TwoSided q A) (k : ℕ) (v : ℕ → ℕ) where
  -- The column of s at the place of generator j: the entries of s at v j there.
  abbrev pub column_of : {X : Rep q A.quiver} → Hom X (injectives T k v) → (j : ℕ) → Column q (X.dim (v j))
  column_of s j = s.at (v j) · transpose (generator_of (opposite_algebra A) (other T) T.opposite_basis k v j)

  -- The component of s in the injective module at v j.
  abbrev pub part_of : {X : Rep q A.quiver} → Hom X (injectives T k v) → (j : ℕ) → Hom X (injective T (v j))
  part_of s j = s ≫ dual_hom (family_in k (λ j. projective (other T) (v j)) j)

  -- The homomorphism into the sum of injective modules that has the columns y 0, .., y (k − 1).
  unfoldable pub hom_of_columns : (X : Rep q A.quiver) → IsMod A X → ((j : ℕ) → Column q (X.dim (v j))) → Hom X (injectives T k v)
  hom_of_columns X M y = turn (hom_of_rows (opposite_algebra A) (other T) T.opposite_basis k v (dual X) (IsMod-dual A X M) (λ j. transpose (y j)))

  -- The pairing of u and s: the sum of the values of the generators under u, each times the column of s there.
  unfoldable pub pairing : {X : Rep q A.quiver} → Hom (projectives T.words k v) X → Hom X (injectives T k v) → Mat q 1 1
  pairing u s = sum_all k (λ j. value A T.words T.basis k v u j · column_of s j)

  -- The functional f on Hom (P, X) is the pairing with exactly one homomorphism; and so for one on Hom (X, νP).
  pub record IsPairingAfter {X : Rep q A.quiver} (f : Hom (projectives T.words k v) X → Mat q 1 1) : Type 0 where
    pub by : Hom X (injectives T k v)
    pub is : (u : Hom (projectives T.words k v) X) → pairing u by ≡ f u
    pub once : (s : Hom X (injectives T k v)) → ((u : Hom (projectives T.words k v) X) → pairing u s ≡ f u) → s ≡ by

  pub record IsPairingBefore {X : Rep q A.quiver} (f : Hom X (injectives T k v) → Mat q 1 1) : Type 0 where
    pub by : Hom (projectives T.words k v) X
    pub is : (s : Hom X (injectives T k v)) → pairing by s ≡ f s
    pub once : (u : Hom (projectives T.words k v) X) → ((s : Hom X (injectives T k v)) → pairing u s ≡ f s) → u ≡ by
