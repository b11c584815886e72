-- Values of a functional on the homomorphisms out of a term, generator by generator. (Assem, Simson, Skowroński, volume 1, chapter IV, 2.)
use Rattle.std.specs.Prelude.{ℕ, ◌<◌, ◌≡◌, ◌≢◌, List, length, slice_index}
use Rattle.linear_algebra.specs.Field.{Gf, order}
use Rattle.linear_algebra.specs.Matrix.{Mat, zeros, ◌·◌}
use Rattle.linear_algebra.specs.Parts.{row, scalar}
use Rattle.linear_algebra.specs.BlockFamilies.{sum_all}
use Rattle.linear_algebra.specs.Typed.{as_mat, as_row}
use Rattle.fp_linear.specs.Matrix.{PlainMatrix}
use Rattle.representations.specs.HomSpace.{unflat}
use Rattle.path_algebra.specs.declared.Header.{Header}
use Rattle.local_modules.specs.Algebra.{Element}
use Rattle.module_types.specs.declared.Module.{Module}
use Rattle.module_types.specs.declared.TermRows.{TermRows}
use Rattle.module_types.specs.Algebras.{sided_words}
use Rattle.module_types.specs.Readings.{read}
use Rattle.module_types.specs.TermMatrices.{vertex, generator_row}
use Rattle.module_types.specs.Presentations.{part, value_on}
use Rattle.claim_conditions.specs.Modules.{Sides}
use Rattle.claim_conditions.specs.LocalConditions.{families_of, ring_rows}
use Rattle.local_checks.specs.Standing.{standing}

-- the dimension of the module at the vertex of a generator
abbrev pub generator_dim : Header → Module → TermRows → ℕ → ℕ
generator_dim h m t j = (read h m).dim (vertex t j)

-- the value at the image of generator j under the endomorphism that a row of numbers is
abbrev pub generator_value : (h : Header) → Sides h → (m : Module) → TermRows → List ℕ → Element (families_of h m) → ℕ → Mat h.field 1 1
generator_value h T m t functional x j = generator_row (read h m) t j · unflat (read h m) (read h m) x (vertex t j) · part (sided_words m.side T) (read h m) t functional j

-- the value at the images of the first k generators, added, stands in a slice
pub record HoldsValue (h : Header) (m : Module) (t : TermRows) (functional : List ℕ) (x : Element (families_of h m)) (k : ℕ) (s : List ℕ) : Type 0 where
  pub value : (T : Sides h) → as_row h.field 1 s ≡ sum_all k (generator_value h T m t functional x)

-- the values at the endomorphisms that the first k rows of the basis are stand in a slice, one after another
pub record HoldsValues (h : Header) (m : Module) (t : TermRows) (functional : List ℕ) (basis : PlainMatrix) (k : ℕ) (s : List ℕ) : Type 0 where
  pub small : (i : ℕ) → i < k → slice_index s i < order h.field
  pub values : (T : Sides h) (i : ℕ) → i < k → scalar h.field (slice_index s i) ≡ value_on (sided_words m.side T) (read h m) t functional (unflat (read h m) (read h m) (row i (ring_rows h m basis)))

-- the first k rows, times the column of n values, are zero
pub record VanishUpTo (q : Gf) (n : ℕ) (rows : PlainMatrix) (values : List ℕ) (k : ℕ) : Type 0 where
  pub zero : (i : ℕ) → i < k → row i (as_mat q rows.row_count n rows.rows) · standing q n 1 values ≡ zeros q 1 1

-- some of the values is not zero
pub record HasNonzero (values : List ℕ) : Type 0 where
  pub member : ℕ
  pub below : member < length values
  pub nonzero : slice_index values member ≢ 0
