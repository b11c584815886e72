-- The conditions on a decomposition.
use Rattle.std.specs.Prelude.{ℕ, suc, ◌≡◌, ◌<◌, ◌≤◌, List, [], ◌∷◌, length, slice_index, slice_index_or}
use Rattle.fp_linear.specs.Matrix.{PlainMatrix}
use Rattle.path_algebra.specs.declared.Header.{Header}
use Rattle.module_types.specs.declared.Module.{Module}
use Rattle.module_types.specs.Readings.{read, read_beside, family_of}
use Rattle.module_types.specs.Shapes.{dimension}
use Rattle.claim_conditions.specs.declared.Clause.TheVariants as clause
use Rattle.claim_conditions.specs.Conditions.{Condition, ◌asks◌}
use Rattle.claim_conditions.specs.Families.{ComposeToOne}
use Rattle.claim_conditions.specs.Decompositions.{IsSumOf}
pub use Rattle.claim_conditions.specs.Decompositions.{HaveSideOf}

-- `order`: of two neighbours a does not come behind b, by the dimension, and of one dimension by the dimensions at the vertices, of which the first that differ decide
pub record ComesBefore (a b : Module) : Type 0 where
  pub dimensions : dimension a.dims ≤ dimension b.dims
  pub vectors : dimension a.dims ≡ dimension b.dims → (v : ℕ) → v < length a.dims → ((u : ℕ) → u < v → slice_index a.dims u ≡ slice_index b.dims u)
      → slice_index a.dims v ≤ slice_index b.dims v

abbrev pub AreInOrder : List Module → Type 0
AreInOrder parts = (i : ℕ) (a b : Module) → suc i < length parts → ComesBefore (slice_index_or parts i a) (slice_index_or parts (suc i) b)

-- `inverse`: both composites are the identities
pub record AreInverse (h : Header) (a s : Module) (to back : List PlainMatrix) : Type 0 where
  pub there : ComposeToOne (read_beside h a s) (read h a) (family_of (read_beside h a s) (read h a) to) (family_of (read h a) (read_beside h a s) back)
  pub again : ComposeToOne (read h a) (read_beside h a s) (family_of (read h a) (read_beside h a s) back) (family_of (read_beside h a s) (read h a) to)

-- `objects`: the numbers say that the maps go from s to a and from a to s, and that a claim shows each part to be local; and s and the parts have the side of
-- a. `order`: the parts ascend. `sum`: s has the blocks of the parts in their order. `inverse`: both composites are the identities.
abbrev pub decomposition_conditions : (named : Type 0) → Header → (a s : Module) (parts : List Module) (to back : List PlainMatrix) → List Condition
decomposition_conditions named h a s parts to back =
    (clause.Objects asks (named × HaveSideOf a s parts))
    ∷ (clause.Order asks AreInOrder parts)
    ∷ (clause.Sum asks IsSumOf h a s parts)
    ∷ (clause.Inverse asks AreInverse h a s to back)
    ∷ []
