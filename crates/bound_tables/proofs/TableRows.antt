-- What a table's calls answer, as the words and entries of the two sides.
use Rattle.std.proofs.Common.{ℕ, zero, ◌≡◌, ◌<◌, inl, inr, false, List, ◌∷◌, length, get_or, refl, sym, ap, ◌∙◌, subst, arith}
use Rattle.std.specs.Prelude.{Contains}
use Rattle.std.proofs.lemmas.Bool.{cases_lt, cases_Bool, and_parts, eqb-true}
use Rattle.std.proofs.lemmas.List.{append-nil, get_or-map, get_or_past}
use Rattle.std.proofs.lemmas.List.Elements.{Contains-get_or}
use Rattle.linear_algebra.specs.Rows.{zeros}
use Rattle.linear_algebra.specs.Matrix.{Mat}
use Rattle.linear_algebra.specs.Families.{combine}
use Rattle.linear_algebra.proofs.Families.{combine-same}
use Rattle.linear_algebra.proofs.Rows.{get_or-list_of, length-list_of}
use Rattle.quiver_paths.specs.declared.Path.{Path}
use Rattle.quiver_paths.specs.Path.{IsPath, Leads, path_length, concat, trivial_path, arrow_path}
use Rattle.quiver_paths.specs.Quiver.{vertex_count, arrow_count, source, target}
use Rattle.quiver_paths.proofs.PathLemmas.{IsPath-concat, IsPath-arrow}
use Rattle.path_algebra.specs.declared.Header.{Header}
use Rattle.path_algebra.specs.Elements.{combination}
use Rattle.path_algebra.specs.Rows.{path_at}
use Rattle.path_algebra.specs.Words.{IsExpansion}
use Rattle.path_algebra.proofs.Between.{composite, Path-eq}
use Rattle.path_algebra.proofs.Combinations.{AreDistinct, combination-outside, coefficients_from_combination}
use Rattle.path_algebra.proofs.ElementLemmas.{combination-below}
use Rattle.path_algebra.proofs.ListedPaths.{word_listed}
use Rattle.path_algebra.proofs.NormalForms.{normal_form, normal_form_unique, normal_form-long}
use Rattle.alg_table.specs.declared.table.Side.TheVariants.{Right, Left}
use Rattle.alg_table.specs.TableView.{IsTable}
use Rattle.alg_table.specs.WordPlaces.{ArePlacesBetween, AreWordsAt}
use Rattle.alg_table.specs.NormalForm.{IsNormalForm, IsProduct}
use Rattle.representations.specs.Quiver.{reverse, opposite, opposite_algebra}
use Rattle.representations.specs.Rep.{Rep, IsMod}
use Rattle.representations.proofs.Duals.{reverse_reverse}
use Rattle.projectives.specs.Words.{along_word, projective}
use Rattle.projectives.specs.TwoSided.{other}
use Rattle.bound_algebra.specs.TypedPaths.{quiver_of, path_of, listed, arrows_of, Runs}
use Rattle.bound_algebra.specs.BoundAlgebra.{bound_algebra}
use Rattle.bound_algebra.specs.PathMatrices.{path_matrix, left_path_matrix}
use Rattle.bound_algebra.specs.WordLists.{is_between}
use Rattle.bound_algebra.specs.NormalWords.{word_count, normal_word}
use Rattle.bound_algebra.specs.AlgebraWords.{algebra_words, opposite_words}
use Rattle.bound_algebra.proofs.TypedPaths.{arrows_of-path_of}
use Rattle.bound_algebra.proofs.PathMatrices.{path_matrix-typed}
use Rattle.bound_algebra.proofs.ProductMatrices.{path_from_runs, word_path, word_from_to, product_matrix-at, along_right}
use Rattle.bound_algebra.proofs.WordModules.{acts_as_form}
use Rattle.bound_algebra.proofs.WordBasis.{first_word, some_word}
use Rattle.bound_algebra.proofs.FormsBetween.{form-apart}
use Rattle.bound_algebra.proofs.TwoSidedBasis.{two_sided, word_listed_is, acts_on_left, place-first}
use Rattle.bound_tables.specs.PlacedEntries.{entry_at_place, ArePlaced}
use Rattle.bound_tables.specs.TableSides.{table_sides}
use Rattle.bound_tables.proofs.PlacedWords.{word_at_place, places_count}

zeros-length : (n : ℕ) → length (zeros n) ≡ n
unfolding zeros
zeros-length n = length-list_of n _

zeros-get : (n k : ℕ) → k < n → get_or (zeros n) k zero ≡ zero
unfolding zeros
zeros-get n k l = get_or-list_of n _ k zero l

module _ (h : Header) (words : List Path) (t : IsTable h words) where
  abbrev form : Path → Path → ℕ
  form = normal_form h t.allowed words t.normal

  -- the coefficients of an expansion are those of the normal form
  form_of_expansion : (p : Path) → IsPath h.quiver p → (c : List ℕ) → IsExpansion h words p c → (k : ℕ) → k < length words → form p (path_at words k) ≡ get_or c k zero
  unfolding path_at
  form_of_expansion p hp c e k l =
      let distinct : AreDistinct h.bound words = record { ascending = t.normal.ascending; short = λ r m. (t.normal.only r m).short.short } in
      normal_form_unique h t.allowed words t.normal p hp (combination h.field h.bound c words)
      (record { small = combination-below h.field h.bound c words; outside = combination-outside h.field h.bound c words }) e.congruent (path_at words k)
      ∙ sym (get_or-map (combination h.field h.bound c words) words k (trivial_path zero) zero l)
      ∙ ap (λ cs. get_or cs k zero) (coefficients_from_combination h.field h.bound words c distinct e.coefficients.count e.coefficients.small)

  module _ (p : Path) (hp : IsPath h.quiver p) (row : List ℕ) (f : IsNormalForm h words p row) where
    row_length : length row ≡ length words
    row_length = elim (cases_lt (path_length p) h.bound) [
      | inl s ↦ (f.short s).coefficients.count
      | inr s ↦ ap length (f.long s) ∙ zeros-length (length words)
    ]

    form_at_place : (k : ℕ) → k < length words → form p (path_at words k) ≡ get_or row k zero
    form_at_place k l = elim (cases_lt (path_length p) h.bound) [
      | inl s ↦ form_of_expansion p hp row (f.short s) k l
      | inr s ↦ normal_form-long h t.allowed words t.normal p hp s (path_at words k) ∙ sym (ap (λ c. get_or c k zero) (f.long s) ∙ zeros-get (length words) k l)
    ]

    -- the entries at the places of the words with the ends of the path, and zeros elsewhere
    entry_is : (v w : ℕ) (places : List ℕ) → ArePlacesBetween words v w places → (j : ℕ) → j < length places
        → form p (normal_word h t.allowed words t.normal v w j) ≡ entry_at_place places row j
    entry_is v w places a j l =
        ap (form p) (word_at_place words t.normal.ascending v w places a j l)
        ∙ form_at_place (get_or places j zero) (a.only (get_or places j zero) (Contains-get_or places j zero l)).0

    zero_elsewhere : (v w : ℕ) (places : List ℕ) → p.start ≡ v → p.end ≡ w → ArePlacesBetween words v w places → (k : ℕ) → (Contains places k → ⊥) → get_or row k zero ≡ zero
    zero_elsewhere v w places s e a k n = elim (cases_lt k (length words)) [
      | inr past ↦ get_or_past row k zero (omega (arith, past, row_length))
      | inl l ↦ sym (form_at_place k l) ∙ form-apart h t.allowed words t.normal (path_at words k) (word_listed words k l) p hp (other_ends l)
    ]
      where
        other_ends : k < length words → is_between (path_at words k).start (path_at words k).end p ≡ false
        other_ends l = elim (cases_Bool (is_between (path_at words k).start (path_at words k).end p)) [
          | inr d ↦ d
          | inl d ↦ let i = and_parts _ _ d in absurd (n (a.all k l (record { starts = sym (eqb-true _ _ i.0) ∙ s; ends = sym (eqb-true _ _ i.1) ∙ e })))
        ]

    placed : (v w : ℕ) (places : List ℕ) → p.start ≡ v → p.end ≡ w → ArePlacesBetween words v w places → (entries : ℕ → ℕ)
        → ((j : ℕ) → j < word_count h t.allowed words t.normal v w → entries j ≡ form p (normal_word h t.allowed words t.normal v w j)) → ArePlaced places row entries
    placed v w places s e a entries same = record {
      there = λ j l. sym (same j (subst (λ n. j < n) (sym (places_count words t.normal.ascending v w places a)) l) ∙ entry_is v w places a j l);
      elsewhere = zero_elsewhere v w places s e a;
    }

  -- ---- words
  pub count_right : (v w : ℕ) (places : List ℕ) → AreWordsAt words Right v w places → (table_sides h words t).words.count v w ≡ length places
  unfolding two_sided
  count_right v w places a = places_count words t.normal.ascending v w places a

  pub word_right : (v w : ℕ) (places : List ℕ) → AreWordsAt words Right v w places → (i : ℕ) (l : i < (table_sides h words t).words.count v w)
      → listed ((table_sides h words t).words.word v w i l) ≡ path_at words (get_or places i zero)
  unfolding two_sided
  word_right v w places a i l =
      word_listed_is h t.allowed words t.normal v w i l
      ∙ word_at_place words t.normal.ascending v w places a i (subst (λ n. i < n) (places_count words t.normal.ascending v w places a) l)

  pub count_left : (v w : ℕ) (places : List ℕ) → AreWordsAt words Left v w places → (other (table_sides h words t)).count v w ≡ length places
  unfolding two_sided
  count_left v w places a = places_count words t.normal.ascending w v places a

  pub word_left : (v w : ℕ) (places : List ℕ) → AreWordsAt words Left v w places → (i : ℕ) (l : i < (other (table_sides h words t)).count v w)
      → listed (reverse ((other (table_sides h words t)).word v w i l)) ≡ path_at words (get_or places i zero)
  word_left v w places a i l = ap listed (reverse_reverse ((table_sides h words t).words.word w v i l)) ∙ word_right w v places a i l

  -- ---- products
  pub behind_row : (v a i : ℕ) (sources targets row : List ℕ) → a < arrow_count h.quiver → AreWordsAt words Right v (source h.quiver a) sources → AreWordsAt words Right v (target h.quiver a) targets
      → i < length sources → IsProduct h words Right (path_at words (get_or sources i zero)) a row → ArePlaced targets row (((table_sides h words t).words.act v a).at i)
  unfolding two_sided
  behind_row v a i sources targets row la s b m product =
      let x = normal_word h t.allowed words t.normal v (source h.quiver a) i in
      let l : i < word_count h t.allowed words t.normal v (source h.quiver a) = subst (λ n. i < n) (sym (places_count words t.normal.ascending v (source h.quiver a) sources s)) m in
      let is = word_at_place words t.normal.ascending v (source h.quiver a) sources s i m in
      let r = word_from_to h t.allowed words t.normal v (source h.quiver a) i l in
      let hx = word_path h t.allowed words t.normal v (source h.quiver a) i l in
      let p = concat x (arrow_path h.quiver a) in
      let hp = IsPath-concat h.quiver x (arrow_path h.quiver a) hx (IsPath-arrow h.quiver a t.allowed.quiver.ends la) r.ends in
      let f : IsNormalForm h words p row = (subst (λ y. IsProduct h words Right y a row) (sym is) product).meeting r.ends in
      placed p hp row f v (target h.quiver a) targets r.starts refl b _ (λ j k.
      product_matrix-at h t.allowed words t.normal v (source h.quiver a) v (target h.quiver a) (trivial_path v) (arrow_path h.quiver a) i j l k
      ∙ ap (λ y. form y (normal_word h t.allowed words t.normal v (target h.quiver a) j)) (Path-eq (composite (trivial_path v) x (arrow_path h.quiver a)) p (sym r.starts) refl refl))

  pub before_row : (v a i : ℕ) (targets sources row : List ℕ) → a < arrow_count h.quiver → AreWordsAt words Left v (target h.quiver a) targets → AreWordsAt words Left v (source h.quiver a) sources
      → i < length targets → IsProduct h words Left (path_at words (get_or targets i zero)) a row → ArePlaced sources row (((other (table_sides h words t)).act v a).at i)
  unfolding two_sided
  before_row v a i targets sources row la b s m product =
      let x = normal_word h t.allowed words t.normal (target h.quiver a) v i in
      let l : i < word_count h t.allowed words t.normal (target h.quiver a) v = subst (λ n. i < n) (sym (places_count words t.normal.ascending (target h.quiver a) v targets b)) m in
      let is = word_at_place words t.normal.ascending (target h.quiver a) v targets b i m in
      let r = word_from_to h t.allowed words t.normal (target h.quiver a) v i l in
      let hx = word_path h t.allowed words t.normal (target h.quiver a) v i l in
      let p = concat (arrow_path h.quiver a) x in
      let hp = IsPath-concat h.quiver (arrow_path h.quiver a) x (IsPath-arrow h.quiver a t.allowed.quiver.ends la) hx (sym r.starts) in
      let f : IsNormalForm h words p row = (subst (λ y. IsProduct h words Left y a row) (sym is) product).meeting (sym r.starts) in
      placed p hp row f (source h.quiver a) v sources refl r.ends s _ (λ j k.
      product_matrix-at h t.allowed words t.normal (target h.quiver a) v (source h.quiver a) v (arrow_path h.quiver a) (trivial_path v) i j l k
      ∙ ap (λ y. form y (normal_word h t.allowed words t.normal (source h.quiver a) v j))
      (Path-eq (composite (arrow_path h.quiver a) x (trivial_path v)) p refl (sym r.ends) (ap (λ ys. a ∷ ys) (append-nil x.arrows))))

  -- ---- paths
  module _ (v w : ℕ) (p : Path) (places row : List ℕ) (vertex : v < vertex_count h.quiver) (runs : Runs h.quiver v w p) (a : ArePlacesBetween words v w places) (f : IsNormalForm h words p row) where
    path_is : IsPath h.quiver p
    path_is = path_from_runs h.quiver v w p vertex runs

    count_is : word_count h t.allowed words t.normal v w ≡ length places
    count_is = places_count words t.normal.ascending v w places a

    entries : (j : ℕ) → j < word_count h t.allowed words t.normal v w → form p (normal_word h t.allowed words t.normal v w j) ≡ entry_at_place places row j
    entries j l = entry_is p path_is row f v w places a j (subst (λ n. j < n) count_is l)

    pub path_acts : (X : Rep h.field (quiver_of h.quiver)) → IsMod (bound_algebra h) X
        → path_matrix h.quiver X v w p ≡ combine (length places) (entry_at_place places row) (along_word (table_sides h words t).words X v w)
    unfolding two_sided
    path_acts X M =
        acts_as_form h t.allowed words t.normal X M v w p path_is
        ∙ combine-same (word_count h t.allowed words t.normal v w) _ _ _ entries
        ∙ ap (λ n. combine n (entry_at_place places row) (along_word (algebra_words h t.allowed words t.normal) X v w)) count_is

    pub path_acts_left : (X : Rep h.field (opposite (quiver_of h.quiver))) → IsMod (opposite_algebra (bound_algebra h)) X
        → left_path_matrix h.quiver X v w p ≡ combine (length places) (entry_at_place places row) (along_word (other (table_sides h words t)) X w v)
    unfolding two_sided
    path_acts_left X M =
        acts_on_left h t.allowed words t.normal X M v w p path_is
        ∙ combine-same (word_count h t.allowed words t.normal v w) _ _ _ entries
        ∙ ap (λ n. combine n (entry_at_place places row) (along_word (opposite_words h t.allowed words t.normal) X w v)) count_is

    -- what the path makes of the generator, which is the first word
    from_generator : (j : ℕ) → j < word_count h t.allowed words t.normal v w
        → (path_matrix h.quiver (projective (algebra_words h t.allowed words t.normal) v) v w p).at zero j ≡ form p (normal_word h t.allowed words t.normal v w j)
    from_generator j l =
        let y = path_of h.quiver v p.arrows w runs.leads in
        let same : arrows_of y ≡ p.arrows = arrows_of-path_of h.quiver v p.arrows w runs.leads in
        ap (λ (m : Mat h.field (word_count h t.allowed words t.normal v v) (word_count h t.allowed words t.normal v w)). m.at zero j)
        (path_matrix-typed h.quiver (projective (algebra_words h t.allowed words t.normal) v) y p runs same
        ∙ along_right h t.allowed words t.normal v y (subst (λ xs. Leads h.quiver v xs w) (sym same) runs.leads))
        ∙ product_matrix-at h t.allowed words t.normal v v v w (trivial_path v) (listed y) zero j (some_word h t.allowed words t.normal v vertex) l
        ∙ ap (λ z. form (composite (trivial_path v) z (listed y)) (normal_word h t.allowed words t.normal v w j)) (first_word h t.allowed words t.normal v vertex)
        ∙ ap (λ z. form z (normal_word h t.allowed words t.normal v w j)) (Path-eq (composite (trivial_path v) (trivial_path v) (listed y)) p (sym runs.starts) (sym runs.ends) same)

    pub path_coordinates : ArePlaced places row ((path_matrix h.quiver (projective (table_sides h words t).words v) v w p).at ((table_sides h words t).basis.place v))
    unfolding two_sided
    path_coordinates = subst (λ n. ArePlaced places row ((path_matrix h.quiver (projective (algebra_words h t.allowed words t.normal) v) v w p).at n)) (sym (place-first h t.allowed words t.normal v))
        (placed p path_is row f v w places runs.starts runs.ends a _ from_generator)
