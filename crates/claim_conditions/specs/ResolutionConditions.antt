-- The conditions on a resolution.
use Rattle.std.specs.Prelude.{ℕ, zero, suc, ◌+◌, ◌<◌, ◌≤◌, ◌≡◌, List, [], ◌∷◌, get_or}
use Rattle.linear_algebra.specs.Field.{Gf}
use Rattle.linear_algebra.specs.Matrix.{Row, zeros, ◌·◌}
use Rattle.linear_algebra.specs.Parts.{row}
use Rattle.linear_algebra.specs.Ranks.{rank}
use Rattle.path_algebra.specs.declared.Header.{Header}
use Rattle.representations.specs.Quiver.{Quiver}
use Rattle.representations.specs.Rep.{Rep}
use Rattle.representations.specs.Submodule.{Submodule, sub_rep}
use Rattle.projectives.specs.Words.{Words}
use Rattle.projectives.specs.Generators.{IsIndependentModuloRadical}
use Rattle.projectives.specs.Canonical.{canonical_vertices, canonical_columns}
use Rattle.projectives.specs.ReducedSubmodule.{whole}
use Rattle.module_types.specs.declared.Module.{Module}
use Rattle.module_types.specs.declared.TermRows.{TermRows}
use Rattle.module_types.specs.Algebras.{sided_words}
use Rattle.module_types.specs.Readings.{read}
use Rattle.module_types.specs.TermMatrices.{count, vertex}
use Rattle.claim_conditions.specs.declared.Clause.TheVariants as clause
use Rattle.claim_conditions.specs.Conditions.{Condition, ◌asks◌}
use Rattle.claim_conditions.specs.Modules.{Sides}
use Rattle.claim_conditions.specs.Terms.{term_at, vertices_at, sum_at, goes_to, printed_row, printed_matrix}
use Rattle.claim_conditions.specs.KernelParts.{IsClosed, kernel_part}

module _ {q : Gf} {Q : Quiver} (W : Words q Q) (X : Rep q Q) (terms : List TermRows) where
  -- `complex`: each composite is zero
  abbrev pub IsComplex : ℕ → Type 0
  IsComplex n = (k w : ℕ) → k < n → w < Q.vertices
      → printed_matrix W X terms (suc k) w · printed_matrix W X terms k w ≡ zeros q ((sum_at W X terms (suc k)).dim w) ((goes_to W X terms k).dim w)

  -- `exact`: term 0 is onto X, and at P 0 to P (n − 1) the ranks of the maps in and out add to the dimension
  abbrev pub IsOntoByRanks : Type 0
  IsOntoByRanks = (w : ℕ) → w < Q.vertices → rank (printed_matrix W X terms zero w) ≡ X.dim w

  abbrev pub IsExactByRanks : ℕ → Type 0
  IsExactByRanks n = (k w : ℕ) → k < n → w < Q.vertices → rank (printed_matrix W X terms (suc k) w) + rank (printed_matrix W X terms k w) ≡ (sum_at W X terms k).dim w

  -- P of what term k covers, which is X and then the kernel of the map before; false where that is a kernel out of which an arrow leads.
  abbrev pub OfCovered : (k : ℕ) → (Submodule (goes_to W X terms k) → Type 0) → Type 0
  OfCovered zero P = P (whole X)
  OfCovered (suc k) P = (closed : IsClosed (sum_at W X terms k) (printed_matrix W X terms k)) × P (kernel_part (sum_at W X terms k) (printed_matrix W X terms k) closed)

  -- `minimal`: the generators of each term lie in what it covers, and in its coordinates they are independent modulo its radical
  abbrev pub AreIndependentIn : (k : ℕ) → Submodule (goes_to W X terms k) → Type 0
  AreIndependentIn k U =
      (x : (j : ℕ) → Row q (U.size (vertex (term_at terms k) j)))
      × ((j : ℕ) → j < count (term_at terms k) → x j · U.basis (vertex (term_at terms k) j) ≡ printed_row W X terms k j)
      × IsIndependentModuloRadical (sub_rep U) (count (term_at terms k)) (vertex (term_at terms k)) x

  abbrev pub IsMinimal : ℕ → Type 0
  IsMinimal n = (k : ℕ) → k ≤ n → OfCovered k (AreIndependentIn k)

  -- `choice`: they are the canonical ones, vertex by vertex the basis rows at the columns where the radical's reduced row form has no pivot
  abbrev pub AreCanonicalIn : (k : ℕ) → Submodule (goes_to W X terms k) → Type 0
  AreCanonicalIn k U =
      (vertices_at terms k ≡ canonical_vertices (sub_rep U))
      × ((j : ℕ) → j < count (term_at terms k) → printed_row W X terms k j ≡ row (get_or (canonical_columns (sub_rep U)) j zero) (U.basis (vertex (term_at terms k) j)))

  abbrev pub IsChosen : ℕ → Type 0
  IsChosen n = (k : ℕ) → k ≤ n → OfCovered k (AreCanonicalIn k)

  abbrev pub term_conditions : ℕ → List Condition
  term_conditions n =
      (clause.Complex asks IsComplex n)
      ∷ (clause.Exact asks (IsOntoByRanks × IsExactByRanks n))
      ∷ (clause.Minimal asks IsMinimal n)
      ∷ (clause.Choice asks IsChosen n)
      ∷ []

-- the terms, over the module's own side
abbrev pub resolution_conditions : (h : Header) → Sides h → Module → List TermRows → ℕ → List Condition
resolution_conditions h T a terms n = term_conditions (sided_words a.side T).words (read h a) terms n
