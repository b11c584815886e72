-- The canonical term of a module: its shape, and how many generators it has.
use Rattle.std.proofs.Common.{ℕ, zero, suc, ◌<◌, ◌≤◌, ◌≡◌, ◌+◌, List, [], ◌∷◌, length, get_or, Bool, true, false, cond, eqb, inl, inr, sym, ap, ◌∙◌, subst, arith, length-append}
use Rattle.std.specs.Prelude.{slice_index, slice_index_or}
use Rattle.std.proofs.lemmas.Bool.{cond_both, cases_lt}
use Rattle.std.proofs.lemmas.List.{length-map, get_or-map, get_or_past}
use Rattle.linear_algebra.specs.Field.{Gf, order}
use Rattle.linear_algebra.specs.FieldLaws.{order-pos, one-lt-order}
use Rattle.linear_algebra.specs.BlockFamilies.{total}
use Rattle.linear_algebra.specs.Rows.{unit, IsRow}
use Rattle.linear_algebra.proofs.Rows.{length-list_of, get_or-unit}
use Rattle.path_algebra.specs.declared.Header.{Header}
use Rattle.bound_algebra.specs.TypedPaths.{quiver_of}
use Rattle.representations.specs.Quiver.{Quiver}
use Rattle.representations.specs.Rep.{Rep}
use Rattle.projectives.specs.Canonical.{Place, is_pivot, with_free, free_places, canonical_vertices, canonical_columns}
use Rattle.projectives.proofs.CanonicalPlaces.{canonical_free}
use Rattle.module_types.specs.declared.Side.{Side}
use Rattle.module_types.specs.declared.Side.TheVariants.{Right, Left}
use Rattle.module_types.specs.declared.Module.{Module}
use Rattle.module_types.specs.declared.TermRows.{TermRows}
use Rattle.module_types.specs.Algebras.{algebra_at}
use Rattle.module_types.specs.Readings.{read, dim_at}
use Rattle.module_types.specs.Shapes.{IsModule, IsTerm, dimension}
use Rattle.module_types.proofs.Written.{total-same, dim_at-below}
use Rattle.term_rows.specs.SumDims.{AreVertices}
use Rattle.standard_modules.proofs.Modules.{vertices_at}
use Rattle.proj_cover.specs.CanonicalTerms.{unit_at, canonical_term}

pub unit_row : (q : Gf) (n c : ℕ) → IsRow q n (unit n c)
unfolding unit
unit_row q n c = record {
  count = length-list_of {X = ℕ} n _;
  small = λ j. elim (cases_lt j n) [
    | inl l ↦ subst (λ z. z < order q) (sym (get_or-unit n c j l)) (cond_both (eqb c j) 1 0 (λ z. z < order q) (λ e. one-lt-order q) (λ e. order-pos q))
    | inr b ↦ subst (λ z. z < order q) (sym (get_or_past (unit n c) j 0 (let e = length-list_of {X = ℕ} n (λ j. cond (eqb c j) 1 0) in omega (arith, e, b)))) (order-pos q)
  ];
}

module _ {q : Gf} {Q : Quiver} (X : Rep q Q) where
  pub no_place : Place
  no_place = record { vertex = zero; column = zero }

  pub place : ℕ → Place
  place j = get_or (free_places X Q.vertices) j no_place

  -- what stands in the term for generator j
  pub term_column : (j : ℕ) → j < length (canonical_vertices X) → get_or (canonical_columns X) j zero ≡ (place j).column
  unfolding place
  term_column j l = get_or-map (λ (p : Place). p.column) (free_places X Q.vertices) j no_place zero (subst (λ n. j < n) (length-map (free_places X Q.vertices) (λ p. p.vertex)) l)

  pub term_vertex : (j : ℕ) → j < length (canonical_vertices X) → get_or (canonical_vertices X) j zero ≡ (place j).vertex
  unfolding place
  term_vertex j l = get_or-map (λ (p : Place). p.vertex) (free_places X Q.vertices) j no_place zero (subst (λ n. j < n) (length-map (free_places X Q.vertices) (λ p. p.vertex)) l)

  pub term_image : (j : ℕ) → j < length (canonical_vertices X) → slice_index_or (canonical_term X).images j [] ≡ unit_at X (place j)
  unfolding place
  term_image j l = get_or-map (unit_at X) (free_places X Q.vertices) j no_place [] (subst (λ n. j < n) (length-map (free_places X Q.vertices) (λ p. p.vertex)) l)

  pub canonical_shape : IsTerm q Q X.dim (canonical_term X)
  canonical_shape = record {
    counted = length-map (free_places X Q.vertices) (unit_at X) ∙ sym (length-map (free_places X Q.vertices) (λ p. p.vertex));
    declared = (canonical_free X).at_vertex;
    each = λ j l.
        subst (IsRow q (X.dim (get_or (canonical_vertices X) j zero))) (sym (term_image j l))
        (subst (λ n. IsRow q (X.dim n) (unit_at X (place j))) (sym (term_vertex j l)) (unit_row q (X.dim (place j).vertex) (place j).column));
  }

  cond_few : (b : Bool) (p : Place) → length (cond b [] (p ∷ [])) ≤ 1
  cond_few true p = omega arith
  cond_few false p = omega arith

  with_free_few : (w n : ℕ) (before : List Place) → length (with_free X w n before) ≤ length before + n
  unfolding with_free
  with_free_few w zero before = omega arith
  with_free_few w (suc n) before =
      let a = length-append (with_free X w n before) (cond (is_pivot X w n) [] (record { vertex = w; column = n } ∷ [])) in
      let b = cond_few (is_pivot X w n) (record { vertex = w; column = n }) in
      let c = with_free_few w n before in
      omega (arith, a, b, c)

  free_places_few : (n : ℕ) → length (free_places X n) ≤ total n X.dim
  unfolding free_places
  free_places_few zero = omega arith
  free_places_few (suc n) = let a = with_free_few n (X.dim n) (free_places X n) in let b = free_places_few n in omega (arith, a, b)

  pub vertices_few : length (canonical_vertices X) ≤ total Q.vertices X.dim
  vertices_few = let a = free_places_few Q.vertices in let b = length-map (free_places X Q.vertices) (λ p. p.vertex) in omega (arith, a, b)

module _ (h : Header) (m : Module) (s : IsModule h.field (algebra_at m.side h).quiver m) where
  pub generators_few : length (canonical_vertices (read h m)) ≤ 256
  generators_few =
      let Q = (algebra_at m.side h).quiver in
      let a = vertices_few (read h m) in
      let b = total-same Q.vertices (dim_at Q m.dims) (slice_index m.dims) (λ v l. dim_at-below Q m.dims v l) in
      let c : dimension m.dims ≡ total Q.vertices (slice_index m.dims) = ap (λ n. total n (slice_index m.dims)) s.counted in
      let d = s.small in
      omega (arith, a, b, c, d)

  pub generators_declared : (vertices : List ℕ) → vertices ≡ canonical_vertices (read h m) → AreVertices h vertices
  generators_declared vertices e =
      subst (AreVertices h) (sym e) (record { declared = λ j l. subst (λ n. get_or (canonical_vertices (read h m)) j zero < n) (vertices_at m.side h) ((canonical_shape (read h m)).declared j l) })

-- A term over the dimensions of a module of a side is one over those that its list gives.
pub term_at_side : (h : Header) (side : Side) (dims : List ℕ) (t : TermRows) → IsTerm h.field (algebra_at side h).quiver (dim_at (algebra_at side h).quiver dims) t → IsTerm h.field (quiver_of h.quiver) (dim_at (quiver_of h.quiver) dims) t
unfolding dim_at
term_at_side h Right dims t s = s
term_at_side h Left dims t s = record { counted = s.counted; declared = s.declared; each = s.each }
