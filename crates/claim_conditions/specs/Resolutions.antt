-- Minimal projective resolutions. (Assem, Simson, Skowroński, volume 1, chapter I, 5, and appendix A, 4.)
use Rattle.std.specs.Prelude.{ℕ, ◌<◌, ◌≤◌, ◌≡◌, List}
use Rattle.linear_algebra.specs.Field.{Gf}
use Rattle.path_algebra.specs.declared.Header.{Header}
use Rattle.representations.specs.Quiver.{BoundQuiver}
use Rattle.representations.specs.Rep.{Rep}
use Rattle.representations.specs.Hom.{Hom}
use Rattle.projectives.specs.Words.{Words, IsWordBasis}
use Rattle.projectives.specs.HomRows.{value}
use Rattle.projectives.specs.Resolutions.{IsMinimalResolution}
use Rattle.module_types.specs.declared.Module.{Module}
use Rattle.module_types.specs.declared.TermRows.{TermRows}
use Rattle.module_types.specs.Algebras.{algebra_at, sided_words}
use Rattle.module_types.specs.Readings.{read}
use Rattle.module_types.specs.TermMatrices.{count, vertex}
use Rattle.claim_conditions.specs.Modules.{Sides}
use Rattle.claim_conditions.specs.Terms.{term_at, vertices_at, sum_at, goes_to, printed_row}

-- There are homomorphisms that take the generators of the terms to the printed rows, and they are a minimal projective resolution of X up to place n: onto
-- X, exact at the places 0 to n − 1, and each kernel in the radical.
pub record AreResolution {q : Gf} (A : BoundQuiver) (W : Words q A.quiver) (B : IsWordBasis A W) (X : Rep q A.quiver) (terms : List TermRows) (n : ℕ) : Type 0 where
  pub differential : (k : ℕ) → Hom (sum_at W X terms k) (goes_to W X terms k)
  pub printed : (k j : ℕ) → k ≤ n → j < count (term_at terms k)
      → value A W B (count (term_at terms k)) (vertex (term_at terms k)) (differential k) j ≡ printed_row W X terms k j
  pub minimal : IsMinimalResolution W X (record { term = vertices_at terms; differential = differential }) n

-- The terms are a minimal projective resolution of the module up to place n, over the algebra of its side.
abbrev pub ResolutionHolds : (h : Header) → Sides h → Module → List TermRows → ℕ → Type 0
ResolutionHolds h T a terms n = AreResolution (algebra_at a.side h) (sided_words a.side T).words (sided_words a.side T).basis (read h a) terms n
