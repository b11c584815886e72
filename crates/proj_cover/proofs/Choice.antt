-- The canonical term is what the choice of generators asks of term 0.
use Rattle.std.proofs.Common.{ℕ, zero, suc, ◌<◌, ◌≡◌, [], ◌∷◌, length, get_or, sym, ap, ◌∙◌, subst, arith}
use Rattle.std.specs.Prelude.{slice_index_or}
use Rattle.linear_algebra.specs.Field.{Gf}
use Rattle.linear_algebra.specs.Matrix.{Mat-eq_below, one, delta}
use Rattle.linear_algebra.specs.Parts.{row}
use Rattle.linear_algebra.specs.PartsLaws.{row-at}
use Rattle.linear_algebra.specs.MatrixLaws.{one-at}
use Rattle.linear_algebra.specs.Rows.{unit}
use Rattle.linear_algebra.specs.Typed.{as_row}
use Rattle.linear_algebra.proofs.Rows.{get_or-unit}
use Rattle.linear_algebra.proofs.Typed.{as_row-entry}
use Rattle.representations.specs.Quiver.{Quiver}
use Rattle.representations.specs.Rep.{Rep}
use Rattle.projectives.specs.Words.{Words}
use Rattle.projectives.specs.Canonical.{canonical_vertices, canonical_columns}
use Rattle.projectives.proofs.CanonicalPlaces.{canonical_free}
use Rattle.projectives.proofs.KernelCovers.{whole_rep}
use Rattle.module_types.specs.declared.TermRows.{TermRows}
use Rattle.claim_conditions.specs.ResolutionConditions.{IsChosen}
use Rattle.proj_cover.specs.CanonicalTerms.{canonical_term}
use Rattle.proj_cover.proofs.Terms.{unit_row, term_vertex, term_column, term_image}

unit_is_row : (q : Gf) (n c : ℕ) → c < n → as_row q n (unit n c) ≡ row c (one q n)
unfolding delta row
unit_is_row q n c l = Mat-eq_below _ _ entries
  where
    entries : (i j : ℕ) → i < 1 → j < n → (as_row q n (unit n c)).at i j ≡ (row c (one q n)).at i j
    entries zero j a b = as_row-entry q n (unit n c) (unit_row q n c) j ∙ get_or-unit n c j b ∙ sym (row-at c (one q n) j ∙ one-at q n c j l)
    entries (suc i) j a b = absurd (omega (arith, a))

module _ {q : Gf} {Q : Quiver} (W : Words q Q) (X : Rep q Q) where
  -- generator j goes to a row of the unit matrix
  generator_is : (j : ℕ) → j < length (canonical_vertices X)
      → as_row q (X.dim (get_or (canonical_vertices X) j zero)) (slice_index_or (canonical_term X).images j []) ≡ row (get_or (canonical_columns X) j zero) (one q (X.dim (get_or (canonical_vertices X) j zero)))
  generator_is j l =
      let v = get_or (canonical_vertices X) j zero in
      let c = get_or (canonical_columns X) j zero in
      let image : slice_index_or (canonical_term X).images j [] ≡ unit (X.dim v) c = term_image X j l ∙ sym ((λ k. unit (X.dim (term_vertex X j l k)) (term_column X j l k))) in
      ap (as_row q (X.dim v)) image ∙ unit_is_row q (X.dim v) c ((canonical_free X).inside j l)

  canonical_chosen : IsChosen W X (canonical_term X ∷ []) 0
  canonical_chosen zero h = (
    ap canonical_vertices (sym (whole_rep X)),
    λ j l. generator_is j l ∙ ap (λ Y. row (get_or (canonical_columns Y) j zero) (one q (X.dim (get_or (canonical_vertices X) j zero)))) (sym (whole_rep X)),
  )
  canonical_chosen (suc k) h = absurd (omega (arith, h))

  pub chosen : (term : TermRows) → term ≡ canonical_term X → IsChosen W X (term ∷ []) 0
  chosen term e = subst (λ (t : TermRows). IsChosen W X (t ∷ []) 0) (sym e) canonical_chosen
