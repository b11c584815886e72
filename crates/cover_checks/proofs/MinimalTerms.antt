-- Terms whose generators are minimal, vertex by vertex and term by term.
use Rattle.std.proofs.Common.{ℕ, suc, ◌<◌, ◌≤◌, ◌≡◌, ◌+◌, ◌*◌, List, sym, ◌∙◌, inl, inr, arith, subst}
use Rattle.std.specs.Prelude.{slice_index}
use Rattle.std.proofs.lemmas.Bool.{cases_eq}
use Rattle.std.proofs.lemmas.Nat.{mul-le}
use Rattle.linear_algebra.specs.Field.{Gf}
use Rattle.quiver_paths.specs.declared.Path.{Path}
use Rattle.quiver_paths.specs.Quiver.{vertex_count}
use Rattle.path_algebra.specs.declared.Header.{Header}
use Rattle.alg_table.specs.TableView.{IsTable}
use Rattle.representations.specs.Quiver.{Quiver}
use Rattle.representations.specs.Rep.{Rep}
use Rattle.projectives.specs.Words.{Words}
use Rattle.module_types.specs.declared.Module.{Module}
use Rattle.module_types.specs.declared.TermRows.{TermRows}
use Rattle.module_types.specs.Algebras.{algebra_at}
use Rattle.module_types.specs.Readings.{read}
use Rattle.module_types.specs.TermMatrices.{vertex}
use Rattle.claim_conditions.specs.Terms.{term_at}
use Rattle.claim_conditions.specs.ResolutionConditions.{OfCovered, AreIndependentIn, IsMinimal}
use Rattle.term_rows.specs.SumDims.{covered_dim, AreTerms}
use Rattle.term_rows.proofs.WordRows.{covered_is}
use Rattle.resolution_checks.specs.Room.{AreSmall}
use Rattle.resolution_checks.specs.Steps.{words_of_side}
use Rattle.resolution_checks.proofs.CompositesAt.{side_vertices}
use Rattle.cover_checks.specs.Bases.{HoldsBasis}
use Rattle.cover_checks.specs.Covers.{covered_size, covered_rows, covered_pivot, covered_reduced, IsMinimalAt, AreMinimalBelow, AreMinimalTerms}
use Rattle.cover_checks.specs.Folds.{IsBasisAt}
use Rattle.cover_checks.proofs.CoverConditions.{minimal_to, minimal_from}

-- rows in coordinates
pub rows_inside : (size len : ℕ) → size ≤ 512 → 262656 ≤ len → (size + 1) * size ≤ len
rows_inside size len s l = let p = mul-le (size + 1) size 513 512 (omega (arith, s)) s in omega (arith, p, l)

module _ {q : Gf} {Q : Quiver} (W : Words q Q) (X : Rep q Q) (terms : List TermRows) where
  pub places_inside : (k w size width : ℕ) (basis marks : List ℕ) → IsBasisAt W X terms k w size width basis marks → (i : ℕ) → i < size → slice_index marks i < width
  places_inside k w size width basis marks B i l =
      let inside : i < covered_size W X terms k w = subst (λ n. i < n) B.size_is l in
      subst (λ p. p < width) (sym (B.basis_is.places i inside)) (subst (λ n. covered_pivot W X terms k w i < n) (sym B.width_is) ((covered_reduced W X terms k w).inside i inside))

  pub below_none : (k : ℕ) → AreMinimalBelow W X terms k 0
  below_none k = record { at = λ w l. absurd (omega arith) }

  pub below_more : (k w : ℕ) → AreMinimalBelow W X terms k w → IsMinimalAt W X terms k w → AreMinimalBelow W X terms k (w + 1)
  below_more k w h m = record { at = λ v l. elim (cases_eq v w) [ inl e ↦ subst (IsMinimalAt W X terms k) (sym e) m | inr d ↦ h.at v (omega arith) ] }

  pub terms_none : AreMinimalTerms W X terms 0
  terms_none = record { at = λ k l. absurd (omega arith) }

  pub terms_more : (n : ℕ) → AreMinimalTerms W X terms n → OfCovered W X terms n (AreIndependentIn W X terms n) → AreMinimalTerms W X terms (n + 1)
  terms_more n h m = record { at = λ k l. elim (cases_eq k n) [ inl e ↦ subst (λ k. OfCovered W X terms k (AreIndependentIn W X terms k)) (sym e) m | inr d ↦ h.at k (omega arith) ] }

  pub terms_minimal : (n m : ℕ) → n ≡ m + 1 → AreMinimalTerms W X terms n → IsMinimal W X terms m
  terms_minimal n m e h = λ k l. h.at k (omega (arith, e, l))

module _ (h : Header) (words : List Path) (t : IsTable h words) (a : Module) (terms : List TermRows) (k : ℕ) where
  abbrev W : Words h.field (algebra_at a.side h).quiver
  W = words_of_side h words t a terms

  pub basis_at : (w size width : ℕ) (basis marks : List ℕ) → size ≡ covered_size W (read h a) terms k w → width ≡ covered_dim words h a terms k w
      → HoldsBasis (covered_rows W (read h a) terms k w) (covered_pivot W (read h a) terms k w) basis marks → IsBasisAt W (read h a) terms k w size width basis marks
  basis_at w size width basis marks s d b = record { size_is = s; width_is = d ∙ sym (covered_is h words t a terms k w); basis_is = b }

  -- in the words of the condition
  pub minimal_everywhere : (n : ℕ) → n ≡ vertex_count h.quiver → AreTerms words h a terms (suc k) → AreMinimalBelow W (read h a) terms k n → OfCovered W (read h a) terms k (AreIndependentIn W (read h a) terms k)
  minimal_everywhere n e T m = minimal_from W (read h a) terms k (λ j l. subst (λ n. vertex (term_at terms k) j < n) (sym (side_vertices a.side h)) ((T.each k (omega arith)).declared j l))
      (λ w l. m.at w (subst (λ z. w < z) (side_vertices a.side h ∙ sym e) l))

  pub minimal_somewhere : (w : ℕ) → w < vertex_count h.quiver → OfCovered W (read h a) terms k (AreIndependentIn W (read h a) terms k) → IsMinimalAt W (read h a) terms k w
  minimal_somewhere w l = minimal_to W (read h a) terms k w (subst (λ n. w < n) (sym (side_vertices a.side h)) l)

-- fewer terms
pub fewer_terms : (words : List Path) (h : Header) (a : Module) (terms : List TermRows) (n m : ℕ) → m ≤ n → AreTerms words h a terms n → AreTerms words h a terms m
fewer_terms words h a terms n m l T = record { counted = (let c = T.counted in omega (arith, c, l)); each = λ k b. T.each k (omega (arith, b, l)) }

pub fewer_small : (words : List Path) (h : Header) (a : Module) (terms : List TermRows) (n m : ℕ) → m ≤ n → AreSmall words h a terms n → AreSmall words h a terms m
fewer_small words h a terms n m l S = record { fits = λ k b. S.fits k (omega (arith, b, l)) }
