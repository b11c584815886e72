-- Generators that are met place by place are the canonical ones, and the canonical ones are met.
use Rattle.std.proofs.Common.{ℕ, zero, ◌<◌, ◌≡◌, ◌+◌, List, [], ◌∷◌, ◌++◌, length, get_or, true, false, inl, inr, sym, ap, ap₂, ◌∙◌, arith, subst}
use Rattle.std.specs.Prelude.{slice_index, slice_index_or}
use Rattle.std.proofs.lemmas.Bool.{cases_eq}
use Rattle.std.proofs.lemmas.List.{length-append, length-map, get_or-map, get_or_append_left, ext_get_or}
use Rattle.std.proofs.Math.Seq.{get_or-append_seam}
use Rattle.linear_algebra.specs.Field.{Gf}
use Rattle.linear_algebra.specs.Parts.{row}
use Rattle.linear_algebra.proofs.PartsLaws.{Row-eq, row-at}
use Rattle.linear_algebra.proofs.Typed.{as_row-entry}
use Rattle.representations.specs.Quiver.{Quiver}
use Rattle.representations.specs.Rep.{Rep}
use Rattle.projectives.specs.Words.{Words}
use Rattle.projectives.specs.Canonical.{Place, is_pivot, free_places, canonical_vertices, canonical_columns}
use Rattle.module_types.specs.declared.TermRows.{TermRows}
use Rattle.module_types.specs.TermMatrices.{count, vertex}
use Rattle.claim_conditions.specs.Terms.{term_at, vertices_at, goes_to, printed_row}
use Rattle.cover_checks.specs.Covers.{covered_rows, covered_rep, IsChosenIn}
use Rattle.cover_checks.specs.Choosing.{no_place, places_before, IsPlacedAt, AreMetBefore, HaveRows}
use Rattle.cover_checks.proofs.PlacesInOrder.{with_pivot, with_place, none_before, next_vertex, all_before, next_below, next_is}

module _ {q : Gf} {Q : Quiver} (W : Words q Q) (X : Rep q Q) (terms : List TermRows) (k : ℕ) where
  abbrev Z : Rep q Q
  Z = covered_rep W X terms k

  abbrev g : ℕ
  g = count (term_at terms k)

  abbrev all : List Place
  all = free_places Z Q.vertices

  -- lists that are equal
  met_same : (w c v d j : ℕ) → places_before Z w c ≡ places_before Z v d → AreMetBefore W X terms k w c j → AreMetBefore W X terms k v d j
  met_same w c v d j e m = record {
    count_is = m.count_is ∙ ap length e;
    each = λ i l. subst (λ (ps : List Place). IsPlacedAt W X terms k i (get_or ps i no_place).vertex (get_or ps i no_place).column) e (m.each i l);
  }

  pub met_none : AreMetBefore W X terms k 0 0 0
  met_none = record { count_is = ap length (sym (none_before Z)); each = λ i l. absurd (omega arith) }

  pub met_vertex : (w size j : ℕ) → size ≡ Z.dim w → AreMetBefore W X terms k w size j → AreMetBefore W X terms k (w + 1) 0 j
  met_vertex w size j e m = met_same w size (w + 1) 0 j (ap (places_before Z w) e ∙ next_vertex Z w) m

  pub met_pivot : (w c j : ℕ) → is_pivot Z w c ≡ true → AreMetBefore W X terms k w c j → AreMetBefore W X terms k w (c + 1) j
  met_pivot w c j e m = met_same w c w (c + 1) j (sym (with_pivot Z w c e)) m

  pub met_place : (w c j : ℕ) → is_pivot Z w c ≡ false → AreMetBefore W X terms k w c j → IsPlacedAt W X terms k j w c → AreMetBefore W X terms k w (c + 1) (j + 1)
  met_place w c j e m p = record { count_is = count_there; each = each_there }
    where
      p' : Place
      p' = record { vertex = w; column = c }

      count_there : j + 1 ≡ length (places_before Z w (c + 1))
      count_there = let s = ap length (with_place Z w c e) ∙ length-append (places_before Z w c) (record { vertex = w; column = c } ∷ []) in let d = m.count_is in omega (arith, s, d)

      each_there : (i : ℕ) → i < j + 1 → IsPlacedAt W X terms k i (get_or (places_before Z w (c + 1)) i no_place).vertex (get_or (places_before Z w (c + 1)) i no_place).column
      each_there i l = subst (λ (ps : List Place). IsPlacedAt W X terms k i (get_or ps i no_place).vertex (get_or ps i no_place).column) (sym (with_place Z w c e)) (elim (cases_eq i j) [
        | inl s ↦
            subst (λ (r : Place). IsPlacedAt W X terms k i r.vertex r.column)
            (sym (ap (λ i. get_or (places_before Z w c ++ record { vertex = w; column = c } ∷ []) i no_place) (s ∙ m.count_is) ∙ get_or-append_seam (places_before Z w c) (record { vertex = w; column = c }) [] no_place))
            (subst (λ i. IsPlacedAt W X terms k i w c) (sym s) p)
        | inr d ↦
            subst (λ (r : Place). IsPlacedAt W X terms k i r.vertex r.column)
            (sym (get_or_append_left (places_before Z w c) (record { vertex = w; column = c } ∷ []) no_place i (let z = m.count_is in omega (arith, z, l, d))))
            (m.each i (omega (arith, l, d)))
      ])

  module _ (h : HaveRows W X terms k) where
    -- the canonical generators are met at each place
    pub placed_where : (w c j : ℕ) → w < Q.vertices → c < Z.dim w → is_pivot Z w c ≡ false → AreMetBefore W X terms k w c j → IsChosenIn W X terms k → IsPlacedAt W X terms k j w c
    placed_where w c j l b e m C = record { counted = counted; vertex_is = vertex_there; entries_are = λ i d. entry_there i d }
      where
        listed : j < length all
        listed = let n = next_below Z w c l b e in let z = m.count_is in omega (arith, n, z)

        place_is : get_or all j no_place ≡ (let r : Place = record { vertex = w; column = c } in r)
        place_is = ap (λ j. get_or all j no_place) m.count_is ∙ next_is Z w c l b e

        counted : j < g
        counted = let s = ap length C.vertices_are ∙ length-map all (λ p. p.vertex) in let z = listed in omega (arith, s, z)

        vertex_there : vertex (term_at terms k) j ≡ w
        vertex_there = ap (λ vs. get_or vs j zero) C.vertices_are ∙ get_or-map (λ (p : Place). p.vertex) all j no_place zero listed ∙ ap (λ (p : Place). p.vertex) place_is

        column_there : get_or (canonical_columns Z) j zero ≡ c
        column_there = get_or-map (λ (p : Place). p.column) all j no_place zero listed ∙ ap (λ (p : Place). p.column) place_is

        entry_there : (i : ℕ) → i < (goes_to W X terms k).dim w → slice_index (slice_index_or (term_at terms k).images j []) i ≡ (covered_rows W X terms k w).at c i
        entry_there i d =
            sym (as_row-entry q ((goes_to W X terms k).dim (vertex (term_at terms k) j)) (slice_index_or (term_at terms k).images j []) (h.each j counted) i)
            ∙ ap (λ y. y.at 0 i) (C.rows_are j counted) ∙ row-at (get_or (canonical_columns Z) j zero) (covered_rows W X terms k (vertex (term_at terms k) j)) i
            ∙ ap₂ (λ v c. (covered_rows W X terms k v).at c i) vertex_there column_there

    -- generators that are met at all places are the canonical ones
    pub chosen_where : (n j : ℕ) → n ≡ Q.vertices → j ≡ g → AreMetBefore W X terms k n 0 j → IsChosenIn W X terms k
    chosen_where n j e d m = record { vertices_are = vertices_there; rows_are = rows_there }
      where
        here : AreMetBefore W X terms k Q.vertices 0 j
        here = subst (λ n. AreMetBefore W X terms k n 0 j) e m

        counted : j ≡ length all
        counted = here.count_is ∙ ap length (all_before Z)

        placed : (i : ℕ) → i < j → IsPlacedAt W X terms k i (get_or all i no_place).vertex (get_or all i no_place).column
        placed i l = subst (λ (ps : List Place). IsPlacedAt W X terms k i (get_or ps i no_place).vertex (get_or ps i no_place).column) (all_before Z) (here.each i l)

        column_is : (i : ℕ) → i < j → get_or (canonical_columns Z) i zero ≡ (get_or all i no_place).column
        column_is i l = get_or-map (λ (p : Place). p.column) all i no_place zero (let z = counted in omega (arith, l, z))

        placed_here : (i : ℕ) → i < j → IsPlacedAt W X terms k i (vertex (term_at terms k) i) (get_or (canonical_columns Z) i zero)
        placed_here i l =
            subst (λ c. IsPlacedAt W X terms k i (vertex (term_at terms k) i) c) (sym (column_is i l))
            (subst (λ v. IsPlacedAt W X terms k i v (get_or all i no_place).column) (sym (placed i l).vertex_is) (placed i l))

        vertices_there : vertices_at terms k ≡ canonical_vertices Z
        vertices_there = ext_get_or zero (vertices_at terms k) (canonical_vertices Z) (sym d ∙ counted ∙ sym (length-map all (λ p. p.vertex)))
            (λ i l. let b : i < j = omega (arith, l, d) in (placed i b).vertex_is ∙ sym (get_or-map (λ (p : Place). p.vertex) all i no_place zero (let z = counted in omega (arith, b, z))))

        rows_there : (i : ℕ) → i < g → printed_row W X terms k i ≡ row (get_or (canonical_columns Z) i zero) (covered_rows W X terms k (vertex (term_at terms k) i))
        rows_there i l = Row-eq _ _ (λ c b.
            as_row-entry q ((goes_to W X terms k).dim (vertex (term_at terms k) i)) (slice_index_or (term_at terms k).images i []) (h.each i l) c
            ∙ (placed_here i (omega (arith, l, d))).entries_are c b ∙ sym (row-at (get_or (canonical_columns Z) i zero) (covered_rows W X terms k (vertex (term_at terms k) i)) c))

  pub count_where : (n j : ℕ) → n ≡ Q.vertices → AreMetBefore W X terms k n 0 j → IsChosenIn W X terms k → j ≡ g
  count_where n j e m C =
      (subst (λ n. AreMetBefore W X terms k n 0 j) e m).count_is ∙ ap length (all_before Z) ∙ sym (length-map all (λ p. p.vertex)) ∙ sym (ap length C.vertices_are)
