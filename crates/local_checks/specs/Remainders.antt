-- What is left of families modulo a space.
use Rattle.std.specs.Prelude.{ℕ, ◌<◌, ◌≡◌, List, length}
use Rattle.linear_algebra.specs.Field.{Gf, order}
use Rattle.linear_algebra.specs.Matrix.{Mat, ◌⊞◌, ◌⊟◌, ◌⊙◌}
use Rattle.linear_algebra.specs.Parts.{row}
use Rattle.linear_algebra.specs.Rank.{IsInSpan}
use Rattle.linear_algebra.specs.Ranks.{rank}
use Rattle.linear_algebra.specs.Reduced.{pivot}
use Rattle.linear_algebra.specs.Rows.{rows_of}
use Rattle.path_algebra.specs.declared.Header.{Header}
use Rattle.local_modules.specs.Algebra.{Algebra, Element, power_in}
use Rattle.local_modules.specs.Subalgebra.{IsSubalgebra, IsFrobeniusOf}
use Rattle.module_types.specs.declared.Module.{Module}
use Rattle.claim_conditions.specs.LocalConditions.{families_of}
use Rattle.local_checks.specs.Families.{family_space}

-- x and its remainder differ by a member of the space, and the remainder is zero at the pivots.
pub record IsRemainderOf (h : Header) (m : Module) (rows pivots : List ℕ) (x rest : Element (families_of h m)) : Type 0 where
  pub differs : IsInSpan (family_space h m rows pivots) (x ⊟ rest)
  pub clear : (i : ℕ) → i < length pivots → rest.at 0 (pivot (rows_of (length pivots) (families_of h m).size rows) i) ≡ 0

-- The remainders of n elements have this rank.
pub record HaveRemaindersOfRank (h : Header) (m : Module) (rows pivots : List ℕ) (n : ℕ) (x : ℕ → Element (families_of h m)) (r : ℕ) : Type 0 where
  pub rest : Mat h.field n (families_of h m).size
  pub are : (i : ℕ) → i < n → IsRemainderOf h m rows pivots (x i) (row i rest)
  pub rank_is : rank rest ≡ r

-- The first k rows of `rest` are the remainders of so many elements.
abbrev pub AreRemaindersUpTo : (h : Header) (m : Module) (rows pivots : List ℕ) (x : ℕ → Element (families_of h m)) {n : ℕ} (rest : Mat h.field n (families_of h m).size) → ℕ → Type 0
AreRemaindersUpTo h m rows pivots x rest k = (i : ℕ) → i < k → IsRemainderOf h m rows pivots (x i) (row i rest)

-- the q-th power of row i and `factor` times the row
abbrev pub power_and_multiple : {q : Gf} (E : Algebra q) {n : ℕ} (ring : Mat q n E.size) (factor : ℕ) → ℕ → Element E
power_and_multiple {q} E ring factor i = power_in E (row i ring) (order q) ⊞ factor ⊙ row i ring

-- The remainders of these have this rank.
abbrev pub HasRemaindersOfRank : (h : Header) (m : Module) (rows pivots : List ℕ) {n : ℕ} (ring : Mat h.field n (families_of h m).size) (factor r : ℕ) → Type 0
HasRemaindersOfRank h m rows pivots {n} ring factor r = HaveRemaindersOfRank h m rows pivots n (power_and_multiple (families_of h m) ring factor) r

-- The rows span an algebra with the identity, whose residue ring modulo the ideal is a field that q-th powers recognise.
pub record IsFrobeniusSpace {q : Gf} (E : Algebra q) {n k : ℕ} (ring : Mat q n E.size) (ideal : Mat q k E.size) : Type 0 where
  pub subalgebra : IsSubalgebra E ring
  pub frobenius : IsFrobeniusOf E ring ideal
