-- The matrix of a relation, row by row.
use Rattle.std.proofs.Common.{ℕ, zero, suc, ◌<◌, ◌≤◌, ◌≡◌, ◌-◌, List, [], ◌∷◌, ◌++◌, length, take, drop, get_or, refl, sym, ap, ap₂, ◌∙◌, arith, subst}
use Rattle.std.proofs.lemmas.List.Elements.{All-contains, Contains-get_or}
use Rattle.std.proofs.lemmas.List.{get_or_default}
use Rattle.std.specs.Prelude.{slice_index, slice_index_or}
use Rattle.std.proofs.Math.Seq.{take-suc, drop-cons, take-length, drop-length}
use Rattle.linear_algebra.specs.Field.{Gf, mul}
use Rattle.linear_algebra.specs.Sums.{sum_to, sum-same}
use Rattle.linear_algebra.specs.Matrix.{Mat, Row, Mat-eq_below, delta, zeros}
use Rattle.linear_algebra.specs.Parts.{unit}
use Rattle.linear_algebra.specs.MatrixLaws.{one-at}
use Rattle.linear_algebra.proofs.PartsLaws.{row-at, unit-at, unit_mul}
use Rattle.linear_algebra.proofs.LinearMaps.{combine-at}
use Rattle.quiver_paths.specs.declared.Quiver.{Quiver as PlainQuiver}
use Rattle.quiver_paths.specs.declared.Path.{Path as PlainPath}
use Rattle.quiver_paths.specs.Quiver.{HasEnds, vertex_count, arrow_count, target}
use Rattle.quiver_paths.specs.Path.{Leads, IsPath}
use Rattle.path_algebra.specs.declared.Term.{Term}
use Rattle.path_algebra.specs.declared.Relation.{Relation as PlainRelation}
use Rattle.path_algebra.specs.declared.Header.{Header}
use Rattle.path_algebra.specs.Allowed.{IsAllowed, IsRelation, IsTerm}
use Rattle.representations.specs.Quiver.{Quiver, Path, opposite, reverse}
use Rattle.representations.specs.Rep.{Rep, along, value_of_relation}
use Rattle.bound_algebra.specs.TypedPaths.{arrows_of}
use Rattle.bound_algebra.specs.BoundAlgebra.{term_at, relation_at, relation_of}
use Rattle.bound_algebra.proofs.Relations.{IsSumOf, relation_is, relation_listed}
use Rattle.module_types.specs.declared.Side.{Side}
use Rattle.module_types.specs.declared.Side.TheVariants.{Right, Left}
use Rattle.module_types.specs.declared.Module.{Module}
use Rattle.module_types.specs.Algebras.{algebra_at}
use Rattle.module_types.specs.Readings.{read}
use Rattle.module_types.specs.Shapes.{IsModule}
use Rattle.module_types.specs.Walks.{step, walk, walk_back}
use Rattle.module_types.proofs.WordWalks.{walk_along, walk_reverse}
use Rattle.module_checks.specs.RowWalks.{along_first, along_all, relation_entry, first_vertex, IsZeroInRow, ActsAsZero}
use Rattle.module_checks.proofs.Walks.{along_same, term_is}
use Rattle.module_checks.proofs.HomRank.{dim_at-is}

pub arrows_below : (Q : PlainQuiver) (u : ℕ) (xs : List ℕ) (w : ℕ) → Leads Q u xs w → (k : ℕ) → k < length xs → get_or xs k 0 < arrow_count Q
arrows_below Q u [] w l k h = absurd (omega arith)
arrows_below Q u (a ∷ xs) w l zero h = l.0
arrows_below Q u (a ∷ xs) w l (suc k) h = arrows_below Q (target Q a) xs w l.2 k (omega arith)

module _ {q : Gf} {Q : Quiver} (X : Rep q Q) where
  walk_pushed : (f : ℕ → ℕ) (xs : List ℕ) (a : ℕ) → walk X f (xs ++ a ∷ []) ≡ step X a (walk X f xs)
  walk_pushed f [] a = refl
  walk_pushed f (b ∷ xs) a = walk_pushed (step X b f) xs a

  first_is_walk : (arrows : List ℕ) (f : ℕ → ℕ) (k : ℕ) → k ≤ length arrows → along_first X Right arrows k f ≡ walk X f (take k arrows)
  first_is_walk arrows f zero h = refl
  first_is_walk arrows f (suc k) h =
      ap (step X (get_or arrows k 0)) (first_is_walk arrows f k (omega arith)) ∙ sym (walk_pushed f (take k arrows) (get_or arrows k 0)) ∙ ap (walk X f) (sym (take-suc arrows k 0 (omega arith)))

  all_is_walk : (arrows : List ℕ) (f : ℕ → ℕ) → along_all X Right arrows f ≡ walk X f arrows
  all_is_walk arrows f = first_is_walk arrows f (length arrows) (omega arith) ∙ ap (walk X f) (take-length arrows)

  first_is_back : (arrows : List ℕ) (f : ℕ → ℕ) (k : ℕ) → k ≤ length arrows → along_first X Left arrows k f ≡ walk_back X f (drop (length arrows - k) arrows)
  first_is_back arrows f zero h =
      let e : ◌≡◌ {A = ℕ} (length arrows - 0) (length arrows) = omega arith in
      sym (ap (λ n. walk_back X f (drop n arrows)) e ∙ ap (walk_back X f) (drop-length arrows))
  first_is_back arrows f (suc k) h =
      let at = length arrows - suc k in
      let e : suc at ≡ length arrows - k = omega arith in
      ap (step X (get_or arrows at 0)) (first_is_back arrows f k (omega arith) ∙ ap (λ n. walk_back X f (drop n arrows)) (sym e))
      ∙ sym (ap (walk_back X f) (drop-cons arrows at 0 (omega arith)))

  all_is_back : (arrows : List ℕ) (f : ℕ → ℕ) → along_all X Left arrows f ≡ walk_back X f arrows
  all_is_back arrows f =
      let e : ◌≡◌ {A = ℕ} (length arrows - length arrows) 0 = omega arith in
      first_is_back arrows f (length arrows) (omega arith) ∙ ap (λ n. walk_back X f (drop n arrows)) e

  unit_is : (n i : ℕ) → i < n → (j : ℕ) → (unit q n i).at 0 j ≡ delta i j
  unit_is n i l j = unit-at q n i j ∙ one-at q n i j l

  pub path_row : {v w : ℕ} (p : Path Q v w) (i j : ℕ) → i < X.dim v → (along X p).at i j ≡ along_all X Right (arrows_of p) (delta i) j
  path_row {v} p i j l =
      sym (row-at i (along X p) j) ∙ ap (λ (m : Row q _). m.at 0 j) (sym (unit_mul i (along X p))) ∙ ap (λ f. f j) (walk_along X p (unit q (X.dim v) i))
      ∙ ap (λ f. f j) (sym (all_is_walk (arrows_of p) ((unit q (X.dim v) i).at 0)))
      ∙ along_same X Right (arrows_of p) (length (arrows_of p)) ((unit q (X.dim v) i).at 0) (delta i) (unit_is (X.dim v) i l) j

pub reverse_row : {q : Gf} {Q : Quiver} (X : Rep q (opposite Q)) {v w : ℕ} (p : Path Q v w) (i j : ℕ) → i < X.dim w → (along X (reverse p)).at i j ≡ along_all X Left (arrows_of p) (delta i) j
reverse_row {q} X {v} {w} p i j l =
    sym (row-at i (along X (reverse p)) j) ∙ ap (λ (m : Row q _). m.at 0 j) (sym (unit_mul i (along X (reverse p)))) ∙ ap (λ f. f j) (walk_reverse X p (unit q (X.dim w) i))
    ∙ ap (λ f. f j) (sym (all_is_back X (arrows_of p) ((unit q (X.dim w) i).at 0)))
    ∙ along_same X Left (arrows_of p) (length (arrows_of p)) ((unit q (X.dim w) i).at 0) (delta i) (unit_is X (X.dim w) i l) j

module _ (h : Header) (ok : IsAllowed h) (r : ℕ) (l : r < length h.relations) where
  is_sum : IsSumOf h.quiver (relation_of h r) (relation_at h.relations r).terms
  is_sum = relation_is h ok r l

  some_term : 0 < length (relation_at h.relations r).terms
  some_term = (All-contains (IsRelation h) h.relations (relation_at h.relations r) ok.relations (relation_listed h ok r l)).some

  -- where its rows are
  pub first_vertex_is : (side : Side) → ((algebra_at side h).relation r).from ≡ first_vertex side (term_at (relation_at h.relations r).terms 0).path
  first_vertex_is Right = ap (λ (p : PlainPath). p.start) (is_sum.path 0 some_term)
  first_vertex_is Left = ap (λ (p : PlainPath). p.end) (is_sum.path 0 some_term)

  -- an entry of its matrix
  pub entry_of_relation : (side : Side) (X : Rep h.field (algebra_at side h).quiver) (i j : ℕ) → i < X.dim ((algebra_at side h).relation r).from
      → (value_of_relation X ((algebra_at side h).relation r)).at i j ≡ relation_entry X side (relation_at h.relations r).terms (length (relation_at h.relations r).terms) i j
  unfolding value_of_relation
  entry_of_relation Right X i j b =
      let R = relation_of h r in
      let terms = (relation_at h.relations r).terms in
      combine-at R.terms R.coefficient (λ k. along X (R.path k)) i j
      ∙ ap (λ n. sum_to h.field n (λ k. mul h.field (R.coefficient k) ((along X (R.path k)).at i j))) is_sum.count
      ∙ sum-same h.field (length terms) _ _ (λ k m. ap₂ (mul h.field) (is_sum.coefficient k m)
      (path_row X (R.path k) i j b ∙ ap (λ (p : PlainPath). along_all X Right p.arrows (delta i) j) (is_sum.path k m)))
  entry_of_relation Left X i j b =
      let R = relation_of h r in
      let terms = (relation_at h.relations r).terms in
      combine-at R.terms R.coefficient (λ k. along X (reverse (R.path k))) i j
      ∙ ap (λ n. sum_to h.field n (λ k. mul h.field (R.coefficient k) ((along X (reverse (R.path k))).at i j))) is_sum.count
      ∙ sum-same h.field (length terms) _ _ (λ k m. ap₂ (mul h.field) (is_sum.coefficient k m)
      (reverse_row X (R.path k) i j b ∙ ap (λ (p : PlainPath). along_all X Left p.arrows (delta i) j) (is_sum.path k m)))

  module _ (side : Side) (X : Rep h.field (algebra_at side h).quiver) where
    pub zero_by_rows : ((i : ℕ) → i < X.dim ((algebra_at side h).relation r).from → IsZeroInRow X side (relation_at h.relations r).terms i)
        → value_of_relation X ((algebra_at side h).relation r) ≡ zeros h.field (X.dim ((algebra_at side h).relation r).from) (X.dim ((algebra_at side h).relation r).to)
    unfolding zeros
    zero_by_rows z = Mat-eq_below _ _ (λ i j a b. entry_of_relation side X i j a ∙ (z i a).at j)

    pub rows_of_zero : value_of_relation X ((algebra_at side h).relation r) ≡ zeros h.field (X.dim ((algebra_at side h).relation r).from) (X.dim ((algebra_at side h).relation r).to)
        → (i : ℕ) → i < X.dim ((algebra_at side h).relation r).from → IsZeroInRow X side (relation_at h.relations r).terms i
    unfolding zeros
    rows_of_zero e i a = record { at = λ j. sym (entry_of_relation side X i j a) ∙ ap (λ (m : Mat h.field (X.dim ((algebra_at side h).relation r).from) (X.dim ((algebra_at side h).relation r).to)). m.at i j) e }

leads_inside : (Q : PlainQuiver) → HasEnds Q → (u : ℕ) (xs : List ℕ) (w : ℕ) → u < vertex_count Q → Leads Q u xs w → w < vertex_count Q
leads_inside Q e u [] w h l = subst (λ v. v < vertex_count Q) l h
leads_inside Q e u (a ∷ xs) w h l = leads_inside Q e (target Q a) xs w (e.targets a l.0) l.2

vertex_of_path : (side : Side) (Q : PlainQuiver) (p : PlainPath) → HasEnds Q → IsPath Q p → first_vertex side p < vertex_count Q
vertex_of_path Right Q p e i = i.starts
vertex_of_path Left Q p e i = leads_inside Q e p.start p.arrows p.end i.starts i.leads

vertices_at : (side : Side) (h : Header) → (algebra_at side h).quiver.vertices ≡ vertex_count h.quiver
vertices_at Right h = refl
vertices_at Left h = refl

-- A relation, its first term, and the vertex at whose rows its paths begin.
module _ (h : Header) (ok : IsAllowed h) (r : ℕ) (l : r < length h.relations) (m : Module) (M : IsModule h.field (algebra_at m.side h).quiver m) (rel : PlainRelation) (t : Term)
    (re : rel ≡ slice_index_or h.relations r rel) (te : t ≡ slice_index_or rel.terms 0 t) (v : ℕ) (ve : v ≡ first_vertex m.side t.path) where
  rel_is : rel ≡ relation_at h.relations r
  rel_is = re ∙ get_or_default h.relations r rel _ l

  first_is : t ≡ term_at (relation_at h.relations r).terms 0
  first_is = term_is rel.terms 0 t (subst (λ (x : PlainRelation). 0 < length x.terms) (sym rel_is) (some_term h ok r l)) te ∙ ap (λ (x : PlainRelation). term_at x.terms 0) rel_is

  first_term : IsTerm h (term_at (relation_at h.relations r).terms 0)
  first_term =
      let is = All-contains (IsRelation h) h.relations (relation_at h.relations r) ok.relations (relation_listed h ok r l) in
      All-contains (IsTerm h) (relation_at h.relations r).terms (term_at (relation_at h.relations r).terms 0) is.terms (Contains-get_or (relation_at h.relations r).terms 0 _ is.some)

  vertex_is : v ≡ first_vertex m.side (term_at (relation_at h.relations r).terms 0).path
  vertex_is = ve ∙ ap (λ (x : Term). first_vertex m.side x.path) first_is

  below_vertices : v < (algebra_at m.side h).quiver.vertices
  below_vertices = rw (vertices_at m.side h, vertex_is) (vertex_of_path m.side h.quiver _ ok.quiver.ends first_term.path)

  pub vertex_inside : v < length m.dims
  vertex_inside = let b = below_vertices in omega (arith, b, M.counted)

  dim_is : slice_index m.dims v ≡ (read h m).dim ((algebra_at m.side h).relation r).from
  dim_is = sym (dim_at-is (algebra_at m.side h).quiver m.dims v below_vertices) ∙ ap (read h m).dim (vertex_is ∙ sym (first_vertex_is h ok r l m.side))

  terms_same : rel.terms ≡ (relation_at h.relations r).terms
  terms_same = ap (λ (x : PlainRelation). x.terms) rel_is

  pub relation_fails : (n i : ℕ) → n ≡ slice_index m.dims v → i < n → (IsZeroInRow (read h m) m.side rel.terms i → ⊥) → ActsAsZero h m r → ⊥
  relation_fails n i e b not acts = not (subst (λ ts. IsZeroInRow (read h m) m.side ts i) (sym terms_same) (rows_of_zero h ok r l m.side (read h m) acts i (subst (λ k. i < k) (e ∙ dim_is) b)))

  pub relation_holds : (n k : ℕ) → n ≡ slice_index m.dims v → n ≤ k → ((i : ℕ) → i < k → IsZeroInRow (read h m) m.side rel.terms i) → ActsAsZero h m r
  relation_holds n k e b z = zero_by_rows h ok r l m.side (read h m)
      (λ i a. subst (λ ts. IsZeroInRow (read h m) m.side ts i) terms_same (z i (let a' : i < slice_index m.dims v = subst (λ k. i < k) (sym dim_is) a in omega (arith, e, b, a'))))
