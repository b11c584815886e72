-- The homomorphisms that take the generators of the terms to the printed rows: their matrices are the printed ones, and each homomorphism with these values
-- is one of them.
use Rattle.std.proofs.Common.{ℕ, zero, suc, ◌<◌, ◌≡◌, List, sym, ◌∙◌}
use Rattle.linear_algebra.specs.Field.{Gf}
use Rattle.representations.specs.Quiver.{BoundQuiver}
use Rattle.representations.specs.Rep.{Rep, IsMod}
use Rattle.representations.specs.Hom.{Hom}
use Rattle.projectives.specs.Words.{Words, IsWordBasis}
use Rattle.projectives.specs.HomRows.{hom_of_rows, value}
use Rattle.projectives.specs.Resolutions.{ProjectiveSequence}
use Rattle.projectives.proofs.Families.{generator-from_rows, equal_on_generators}
use Rattle.projectives.proofs.Resolutions.{projectives_at_mod}
use Rattle.module_types.specs.declared.TermRows.{TermRows}
use Rattle.module_types.specs.TermMatrices.{count, vertex}
use Rattle.module_types.proofs.TermMatrices.{hom_of_rows-at}
use Rattle.claim_conditions.specs.Terms.{term_at, vertices_at, sum_at, goes_to, printed_row, printed_matrix}

module _ {q : Gf} (A : BoundQuiver) (W : Words q A.quiver) (B : IsWordBasis A W) (X : Rep q A.quiver) (M : IsMod A X) (terms : List TermRows) where
  pub goes_to_mod : (n : ℕ) → IsMod A (goes_to W X terms n)
  goes_to_mod zero = M
  goes_to_mod (suc n) = projectives_at_mod A W B (vertices_at terms n)

  unfoldable pub map_of : (n : ℕ) → Hom (sum_at W X terms n) (goes_to W X terms n)
  map_of n = hom_of_rows A W B (count (term_at terms n)) (vertex (term_at terms n)) (goes_to W X terms n) (goes_to_mod n) (printed_row W X terms n)

  pub map_of-at : (n w : ℕ) → (map_of n).at w ≡ printed_matrix W X terms n w
  unfolding map_of
  map_of-at n w = hom_of_rows-at A W B (count (term_at terms n)) (vertex (term_at terms n)) (goes_to W X terms n) (goes_to_mod n) (printed_row W X terms n) w

  pub map_of-value : (n j : ℕ) → j < count (term_at terms n) → value A W B (count (term_at terms n)) (vertex (term_at terms n)) (map_of n) j ≡ printed_row W X terms n j
  unfolding map_of
  map_of-value n j h = generator-from_rows A W B (count (term_at terms n)) (vertex (term_at terms n)) (goes_to W X terms n) (goes_to_mod n) (printed_row W X terms n) j h

  pub map_of-only : (n : ℕ) (d : Hom (sum_at W X terms n) (goes_to W X terms n))
      → ((j : ℕ) → j < count (term_at terms n) → value A W B (count (term_at terms n)) (vertex (term_at terms n)) d j ≡ printed_row W X terms n j) → d ≡ map_of n
  map_of-only n d e = equal_on_generators A W B (count (term_at terms n)) (vertex (term_at terms n)) (goes_to W X terms n) (goes_to_mod n) d (map_of n)
      (λ j h. e j h ∙ sym (map_of-value n j h))

  abbrev pub read_sequence : ProjectiveSequence W X
  read_sequence = record { term = vertices_at terms; differential = map_of }
