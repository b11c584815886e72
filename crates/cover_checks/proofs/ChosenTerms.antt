-- Terms whose generators are met at all vertices are chosen as the condition asks.
use Rattle.std.proofs.Common.{ℕ, suc, ◌<◌, ◌≡◌, ◌+◌, List, [], length, inl, inr, sym, ap, ◌∙◌, arith, subst}
use Rattle.std.specs.Prelude.{slice_index, slice_index_or, eqb, MatchBool}
use Rattle.std.proofs.lemmas.Bool.{cases_eq}
use Rattle.std.proofs.lemmas.Bool.Decides.{eqb_tells}
use Rattle.linear_algebra.specs.Field.{Gf}
use Rattle.linear_algebra.specs.Matrix.{Mat}
use Rattle.linear_algebra.specs.Rows.{IsRow}
use Rattle.linear_algebra.specs.RowForm.{IsRowReduced}
use Rattle.quiver_paths.specs.declared.Path.{Path}
use Rattle.quiver_paths.specs.Quiver.{vertex_count}
use Rattle.path_algebra.specs.declared.Header.{Header}
use Rattle.alg_table.specs.TableView.{IsTable}
use Rattle.representations.specs.Quiver.{Quiver}
use Rattle.representations.specs.Rep.{Rep}
use Rattle.projectives.specs.Words.{Words}
use Rattle.module_types.specs.declared.Module.{Module}
use Rattle.module_types.specs.declared.TermRows.{TermRows}
use Rattle.module_types.specs.Readings.{read}
use Rattle.module_types.specs.Algebras.{algebra_at}
use Rattle.claim_conditions.specs.Terms.{term_at, vertices_at}
use Rattle.claim_conditions.specs.ResolutionConditions.{OfCovered, AreCanonicalIn}
use Rattle.term_rows.specs.SumDims.{covered_dim, AreTerms}
use Rattle.term_rows.proofs.WordRows.{covered_is}
use Rattle.resolution_checks.specs.Steps.{words_of_side}
use Rattle.resolution_checks.proofs.CompositesAt.{side_vertices}
use Rattle.cover_checks.specs.Bases.{HoldsBasis}
use Rattle.cover_checks.specs.Covers.{covered_rep, covered_reduced, StaysAt}
use Rattle.cover_checks.specs.Folds.{IsBasisAt}
use Rattle.cover_checks.specs.Choosing.{HasWidthAt, AreMetBefore, ArePivotsAt, HaveRows, IsReadAt, StaysChosen, ArePassed}
use Rattle.cover_checks.proofs.ChosenConditions.{chosen_stay, chosen_to, chosen_from}
use Rattle.cover_checks.proofs.ChosenPlaces.{met_none, met_vertex, chosen_where, count_where}

-- a comparison decides what is so where numbers are equal
pub told_where : (m n : ℕ) (P : Type 0) → (m ≡ n → P) → (P → m ≡ n) → MatchBool (eqb m n) P (¬ P)
told_where m n P f g = elim (eqb_tells m n) [
  | inl s ↦ subst (λ b. MatchBool b P (¬ P)) (sym s.0) (f s.1)
  | inr s ↦ subst (λ b. MatchBool b P (¬ P)) (sym s.0) (λ p. s.1 (g p))
]

places_inside : {q : Gf} {m n : ℕ} (b : Mat q m n) (pivot : ℕ → ℕ) (s marks : List ℕ) → IsRowReduced b pivot → HoldsBasis b pivot s marks → (i : ℕ) → i < m → slice_index marks i < n
places_inside {n = n} b pivot s marks r h i l = subst (λ z. z < n) (sym (h.places i l)) (r.inside i l)

module _ {q : Gf} {Q : Quiver} (W : Words q Q) (X : Rep q Q) (terms : List TermRows) (k : ℕ) where
  pub basis_inside : (w size width : ℕ) (basis places : List ℕ) → IsBasisAt W X terms k w size width basis places → (i : ℕ) → i < size → slice_index places i < width
  basis_inside w size width basis places B i l =
      let s = B.size_is in
      let n = B.width_is in
      let p = places_inside _ _ basis places (covered_reduced W X terms k w) B.basis_is i (omega (arith, s, l)) in
      omega (arith, p, n)

  pub passed_none : ArePassed W X terms k 0 0
  passed_none = record { stays = λ w l. absurd (omega arith); met = met_none W X terms k }

  pub passed_more : (w met j : ℕ) → ArePassed W X terms k w met → StaysAt W X terms k w × AreMetBefore W X terms k (w + 1) 0 j → ArePassed W X terms k (w + 1) j
  passed_more w met j p s = record {
    stays = λ v l. elim (cases_eq v w) [ inl e ↦ subst (StaysAt W X terms k) (sym e) s.0 | inr d ↦ p.stays v (omega (arith, l, d)) ];
    met = s.1;
  }

  pub vertex_passed : (w size j : ℕ) → size ≡ (covered_rep W X terms k).dim w → AreMetBefore W X terms k w size j → AreMetBefore W X terms k (w + 1) 0 j
  vertex_passed w size j e m = met_vertex W X terms k w size j e m

  -- the condition on the term, in coordinates
  pub stays_chosen : OfCovered W X terms k (AreCanonicalIn W X terms k) → StaysChosen W X terms k
  stays_chosen c = record { stays = λ w l. chosen_stay W X terms k w c; chosen = chosen_to W X terms k c }

  module _ (n j : ℕ) (e : n ≡ Q.vertices) (p : ArePassed W X terms k n j) where
    pub term_chosen : HaveRows W X terms k → j ≡ length (vertices_at terms k) → OfCovered W X terms k (AreCanonicalIn W X terms k)
    term_chosen h d = chosen_from W X terms k (λ w l. p.stays w (omega (arith, l, e))) (chosen_where W X terms k h n j e d p.met)

    pub chosen_count : OfCovered W X terms k (AreCanonicalIn W X terms k) → j ≡ length (vertices_at terms k)
    chosen_count c = count_where W X terms k n j e p.met (chosen_to W X terms k c)

module _ (h : Header) (words : List Path) (t : IsTable h words) (a : Module) (terms : List TermRows) where
  abbrev W' : Words h.field (algebra_at a.side h).quiver
  W' = words_of_side h words t a terms

  module _ (k : ℕ) (T : AreTerms words h a terms (suc k)) where
    pub rows_there : HaveRows W' (read h a) terms k
    rows_there = record {
      each = λ j l. subst (λ n. IsRow h.field n (slice_index_or (term_at terms k).images j [])) (sym (covered_is h words t a terms k (slice_index (vertices_at terms k) j))) ((T.each k (omega arith)).each j l);
    }

    pub widths_there : (w width : ℕ) (term : TermRows) → term ≡ term_at terms k → width ≡ covered_dim words h a terms k w → HasWidthAt term w width
    widths_there w width term e d = subst (λ t. HasWidthAt t w width) (sym e) (record {
      counted = (T.each k (omega arith)).counted;
      widths = λ j l s. ((T.each k (omega arith)).each j l).count ∙ ap (covered_dim words h a terms k) s ∙ sym d;
    })

    pub read_there : (w size width rank : ℕ) (term : TermRows) (basis places pivots : List ℕ) → w < vertex_count h.quiver → term ≡ term_at terms k
        → IsBasisAt W' (read h a) terms k w size width basis places → ArePivotsAt W' (read h a) terms k w rank pivots
        → IsReadAt W' (read h a) terms k w size width rank term basis places pivots
    read_there w size width rank term basis places pivots l e B P = record {
      vertex_below = subst (λ n. w < n) (sym (side_vertices a.side h)) l;
      term_is = e;
      rows_are = rows_there;
      basis_is = B;
      pivots_are = P;
    }

  -- all terms
  pub chosen_more : (k : ℕ) → ((i : ℕ) → i < k → OfCovered W' (read h a) terms i (AreCanonicalIn W' (read h a) terms i)) → OfCovered W' (read h a) terms k (AreCanonicalIn W' (read h a) terms k)
      → (i : ℕ) → i < k + 1 → OfCovered W' (read h a) terms i (AreCanonicalIn W' (read h a) terms i)
  chosen_more k f c i l = elim (cases_eq i k) [ inl e ↦ subst (λ i. OfCovered W' (read h a) terms i (AreCanonicalIn W' (read h a) terms i)) (sym e) c | inr d ↦ f i (omega (arith, l, d)) ]
