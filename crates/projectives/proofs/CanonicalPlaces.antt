-- The list of the columns without pivot: each such column stands in it once.
use Rattle.std.proofs.Common.{ℕ, zero, suc, ◌<◌, ◌≤◌, ◌≡◌, ◌⊎◌, List, [], ◌∷◌, ◌++◌, length, get_or, Bool, true, false, cond, inl, inr, refl, sym, ap, ap₂, ◌∙◌, arith, subst, not-suc-le-zero}
use Rattle.std.proofs.lemmas.Bool.{cases_eq, cases_lt, false≢true}
use Rattle.std.specs.List.{All, AllPairs, Contains}
use Rattle.std.proofs.lemmas.List.{append-nil, length-map, get_or-map, get_or_default}
use Rattle.std.proofs.lemmas.List.Elements.{All-nil, All-push, All-get_or, All-from_get_or, Contains-append_left, Contains-push}
use Rattle.std.proofs.lemmas.List.Quantifiers.{all_pairs_push}
use Rattle.linear_algebra.specs.Field.{Gf}
use Rattle.representations.specs.Quiver.{Quiver}
use Rattle.representations.specs.Rep.{Rep}
use Rattle.projectives.specs.Canonical.{Place, is_pivot, with_free, free_places, canonical_vertices, canonical_columns}

Place-eq : (w c : ℕ) (p : Place) → p.vertex ≡ w → p.column ≡ c → (let r : Place = record { vertex = w; column = c } in r) ≡ p
Place-eq w c p e d = ap₂ (λ v c. let r : Place = record { vertex = v; column = c } in r) (sym e) (sym d)

-- by the vertex, then by the column
IsBefore : Place → Place → Type 0
IsBefore p r = (p.vertex < r.vertex) ⊎ ((p.vertex ≡ r.vertex) × (p.column < r.column))

record IsEnumerated (P : Place → Type 0) (ps : List Place) : Type 0 where
  each : All P ps
  has : (p : Place) → P p → Contains ps p
  ordered : AllPairs IsBefore ps

enumerated_same : {P R : Place → Type 0} (ps : List Place) → ((p : Place) → P p → R p) → ((p : Place) → R p → P p) → IsEnumerated P ps → IsEnumerated R ps
enumerated_same {P} {R} ps f g e = record {
  each = All-from_get_or R ps none (λ i h. f (get_or ps i none) (All-get_or P ps i none h e.each));
  has = λ p r. e.has p (g p r);
  ordered = e.ordered;
}
  where
    none : Place
    none = record { vertex = zero; column = zero }

enumerated_push : {P : Place → Type 0} (ps : List Place) (x : Place) → ((p : Place) → P p → IsBefore p x) → IsEnumerated P ps → IsEnumerated (λ p. P p ⊎ (x ≡ p)) (ps ++ x ∷ [])
enumerated_push {P} ps x before e =
    record {
      each = All-push (λ p. P p ⊎ (x ≡ p)) ps x (All-from_get_or (λ p. P p ⊎ (x ≡ p)) ps x (λ i h. inl (All-get_or P ps i x h e.each))) (inr refl);
      has = λ p c. elim c [
        | inl h ↦ Contains-append_left ps (x ∷ []) p (e.has p h)
        | inr h ↦ subst (Contains (ps ++ x ∷ [])) h (Contains-push ps x)
      ];
      ordered = all_pairs_push IsBefore ps x e.ordered (λ k d h. before (get_or ps k d) (All-get_or P ps k d h e.each));
    }

module _ {q : Gf} {Q : Quiver} (X : Rep q Q) where
  IsFree : Place → Type 0
  IsFree p = (p.column < X.dim p.vertex) × (is_pivot X p.vertex p.column ≡ false)

  -- free, and at a vertex before w, or at w in a column before n
  IsWithin : ℕ → ℕ → Place → Type 0
  IsWithin w n p = IsFree p × ((p.vertex < w) ⊎ ((p.vertex ≡ w) × (p.column < n)))

  one_more : (w n : ℕ) → n < X.dim w → (b : Bool) → is_pivot X w n ≡ b → (ps : List Place) → IsEnumerated (IsWithin w n) ps → IsEnumerated (IsWithin w (suc n)) (ps ++ cond b [] (record { vertex = w; column = n } ∷ []))
  unfolding IsWithin IsFree IsBefore
  one_more w n h true e ps s = subst (IsEnumerated (IsWithin w (suc n))) (sym (append-nil ps)) (enumerated_same ps (λ p m. (
    m.0,
    elim m.1 [
      | inl l ↦ inl l
      | inr r ↦ inr (r.0, (let b = r.1 in omega arith))
    ],
  )) back s)
    where
      back : (p : Place) → IsWithin w (suc n) p → IsWithin w n p
      back p m = (
        m.0,
        elim m.1 [
          | inl l ↦ inl l
          | inr r ↦ elim (cases_eq p.column n) [
            | inl same ↦ absurd (false≢true (sym m.0.1 ∙ ap₂ (is_pivot X) r.0 same ∙ e))
            | inr other ↦ inr (r.0, (let b = r.1 in omega arith))
          ]
        ],
      )
  one_more w n h false e ps s = enumerated_same (ps ++ record { vertex = w; column = n } ∷ []) forth back (enumerated_push ps (record { vertex = w; column = n }) before s)
    where
      before : (p : Place) → IsWithin w n p → IsBefore p (record { vertex = w; column = n })
      before p m = m.1

      forth : (p : Place) → IsWithin w n p ⊎ ((let r : Place = record { vertex = w; column = n } in r) ≡ p) → IsWithin w (suc n) p
      forth p (inl m) = (
        m.0,
        elim m.1 [
          | inl l ↦ inl l
          | inr r ↦ inr (r.0, (let b = r.1 in omega arith))
        ],
      )
      forth p (inr d) = subst (IsWithin w (suc n)) d ((h, e), inr (refl, omega arith))

      back : (p : Place) → IsWithin w (suc n) p → IsWithin w n p ⊎ ((let r : Place = record { vertex = w; column = n } in r) ≡ p)
      back p m = elim m.1 [
        | inl l ↦ inl (m.0, inl l)
        | inr r ↦ elim (cases_eq p.column n) [
          | inl same ↦ inr (Place-eq w n p r.0 same)
          | inr other ↦ inl (m.0, inr (r.0, (let b = r.1 in omega arith)))
        ]
      ]

  with_free_enumerated : (w n : ℕ) → n ≤ X.dim w → (ps : List Place) → IsEnumerated (IsWithin w 0) ps → IsEnumerated (IsWithin w n) (with_free X w n ps)
  unfolding with_free
  with_free_enumerated w zero h ps s = s
  with_free_enumerated w (suc n) h ps s = one_more w n h (is_pivot X w n) refl (with_free X w n ps) (with_free_enumerated w n (omega arith) ps s)

  free_places_enumerated : (w : ℕ) → IsEnumerated (IsWithin w 0) (free_places X w)
  unfolding free_places IsWithin IsFree
  free_places_enumerated zero = record {
    each = All-nil (IsWithin 0 0);
    has = λ p m. elim m.1 [ inl l ↦ absurd (not-suc-le-zero l) | inr r ↦ absurd (not-suc-le-zero r.1) ];
    ordered = λ i j d h l. absurd (not-suc-le-zero l);
  }
  free_places_enumerated (suc w) = enumerated_same (with_free X w (X.dim w) (free_places X w)) forth back (with_free_enumerated w (X.dim w) (omega arith) (free_places X w) (free_places_enumerated w))
    where
      forth : (p : Place) → IsWithin w (X.dim w) p → IsWithin (suc w) 0 p
      forth p m = (m.0, inl (elim m.1 [ inl l ↦ omega arith | inr r ↦ let e = r.0 in omega arith ]))

      back : (p : Place) → IsWithin (suc w) 0 p → IsWithin w (X.dim w) p
      back p m = (
        m.0,
        elim m.1 [
          | inl l ↦ elim (cases_eq p.vertex w) [
            | inl e ↦ inr (e, subst (λ w. p.column < X.dim w) e m.0.0)
            | inr d ↦ inl (omega arith)
          ]
          | inr r ↦ absurd (not-suc-le-zero r.1)
        ],
      )

-- Places, given by their vertices and columns, among which each free column of X is once.
pub record IsListOfFree {q : Gf} {Q : Quiver} (X : Rep q Q) (k : ℕ) (v column : ℕ → ℕ) : Type 0 where
  pub at_vertex : (j : ℕ) → j < k → v j < Q.vertices
  pub inside : (j : ℕ) → j < k → column j < X.dim (v j)
  pub free : (j : ℕ) → j < k → is_pivot X (v j) (column j) ≡ false
  pub has : (w c : ℕ) → w < Q.vertices → c < X.dim w → is_pivot X w c ≡ false → (j : ℕ) × (j < k) × (v j ≡ w) × (column j ≡ c)
  pub once : (i j : ℕ) → i < k → j < k → v i ≡ v j → column i ≡ column j → i ≡ j

module _ {q : Gf} {Q : Quiver} (X : Rep q Q) where
  no_place : Place
  no_place = record { vertex = zero; column = zero }

  place_number : ℕ → Place
  place_number j = get_or (free_places X Q.vertices) j no_place

  pub canonical_size : length (canonical_vertices X) ≡ length (free_places X Q.vertices)
  canonical_size = length-map (free_places X Q.vertices) (λ p. p.vertex)

  vertex_is : (j : ℕ) → j < length (canonical_vertices X) → get_or (canonical_vertices X) j zero ≡ (place_number j).vertex
  unfolding place_number
  vertex_is j h = get_or-map (λ (p : Place). p.vertex) (free_places X Q.vertices) j no_place zero (subst (λ n. j < n) canonical_size h)

  column_is : (j : ℕ) → j < length (canonical_vertices X) → get_or (canonical_columns X) j zero ≡ (place_number j).column
  unfolding place_number
  column_is j h = get_or-map (λ (p : Place). p.column) (free_places X Q.vertices) j no_place zero (subst (λ n. j < n) canonical_size h)

  within : (j : ℕ) → j < length (canonical_vertices X) → IsWithin X Q.vertices 0 (place_number j)
  unfolding place_number
  within j h = All-get_or (IsWithin X Q.vertices 0) (free_places X Q.vertices) j no_place (subst (λ n. j < n) canonical_size h) (free_places_enumerated X Q.vertices).each

  not_twice : (i j : ℕ) → i < j → j < length (canonical_vertices X) → get_or (canonical_vertices X) i zero ≡ get_or (canonical_vertices X) j zero → get_or (canonical_columns X) i zero ≡ get_or (canonical_columns X) j zero → ⊥
  unfolding place_number IsBefore
  not_twice i j l h e d =
      let u : (place_number i).vertex ≡ (place_number j).vertex = sym (vertex_is i (omega arith)) ∙ e ∙ vertex_is j h in
      let c : (place_number i).column ≡ (place_number j).column = sym (column_is i (omega arith)) ∙ d ∙ column_is j h in
      elim ((free_places_enumerated X Q.vertices).ordered i j no_place l (subst (λ n. j < n) canonical_size h)) [
        | inl b ↦ omega arith
        | inr b ↦ let x = b.1 in omega arith
      ]

  pub canonical_free : IsListOfFree X (length (canonical_vertices X)) (λ j. get_or (canonical_vertices X) j zero) (λ j. get_or (canonical_columns X) j zero)
  unfolding IsWithin IsFree place_number
  canonical_free = record {
    at_vertex = λ j h. subst (λ w. w < Q.vertices) (sym (vertex_is j h)) (elim (within j h).1 [ inl l ↦ l | inr r ↦ absurd (not-suc-le-zero r.1) ]);
    inside = λ j h. subst (λ c. c < X.dim (get_or (canonical_vertices X) j zero)) (sym (column_is j h)) (subst (λ w. (place_number j).column < X.dim w) (sym (vertex_is j h)) (within j h).0.0);
    free = λ j h. ap₂ (is_pivot X) (vertex_is j h) (column_is j h) ∙ (within j h).0.1;
    has = λ w c b l f.
        let p : Place = record { vertex = w; column = c } in
        let s = (free_places_enumerated X Q.vertices).has p ((l, f), inl b) in
        let below : s.0 < length (canonical_vertices X) = subst (λ n. s.0 < n) (sym canonical_size) s.1 in
        let same : place_number s.0 ≡ p = get_or_default (free_places X Q.vertices) s.0 no_place p s.1 ∙ s.2 in
        (s.0, below, vertex_is s.0 below ∙ ap (λ (r : Place). r.vertex) same, column_is s.0 below ∙ ap (λ (r : Place). r.column) same);
    once = λ i j h l e d. elim (cases_lt i j) [
      | inl b ↦ absurd (not_twice i j b l e d)
      | inr b ↦ elim (cases_eq i j) [
        | inl s ↦ s
        | inr s ↦ absurd (not_twice j i (omega arith) h (sym e) (sym d))
      ]
    ];
  }
