-- The row of a generator along a word, by the arrows of the word as the table lists it.
use Rattle.std.proofs.Common.{ℕ, zero, suc, ◌≡◌, ◌<◌, ◌≤◌, ◌+◌, ◌-◌, List, [], ◌∷◌, ◌++◌, length, take, drop, get_or, refl, sym, ap, ◌∙◌, arith, subst}
use Rattle.std.specs.Prelude.{slice_index, slice_index_or}
use Rattle.std.proofs.lemmas.List.{get_or_default}
use Rattle.std.proofs.Math.Seq.{take-suc, drop-cons, take-length, drop-length}
use Rattle.linear_algebra.specs.Field.{Gf}
use Rattle.linear_algebra.specs.Matrix.{Row, ◌·◌}
use Rattle.linear_algebra.specs.Rows.{IsRow}
use Rattle.linear_algebra.specs.Typed.{as_row}
use Rattle.linear_algebra.proofs.Typed.{as_row-entry}
use Rattle.quiver_paths.specs.declared.Path.{Path}
use Rattle.quiver_paths.specs.Quiver.{arrow_count}
use Rattle.quiver_paths.specs.Path.{Leads}
use Rattle.path_algebra.specs.declared.Header.{Header}
use Rattle.path_algebra.specs.Rows.{path_at}
use Rattle.path_algebra.proofs.ListedPaths.{word_listed}
use Rattle.alg_table.specs.TableView.{IsTable}
use Rattle.alg_table.specs.WordPlaces.{AreWordsAt}
use Rattle.representations.specs.Quiver.{Quiver}
use Rattle.representations.specs.Rep.{Rep}
use Rattle.projectives.specs.Words.{Words, along_word}
use Rattle.bound_algebra.proofs.TwoSidedBasis.{two_sided}
use Rattle.bound_tables.specs.TableSides.{table_sides}
use Rattle.bound_tables.proofs.PlacedWords.{word_at_place, places_count}
use Rattle.module_types.specs.declared.Side.{Side}
use Rattle.module_types.specs.declared.Side.TheVariants.{Right, Left}
use Rattle.module_types.specs.declared.Module.{Module}
use Rattle.module_types.specs.declared.TermRows.{TermRows}
use Rattle.module_types.specs.Algebras.{algebra_at, sided_words}
use Rattle.module_types.specs.Readings.{read}
use Rattle.module_types.specs.Walks.{step, walk, walk_back}
use Rattle.module_types.proofs.WordWalks.{along_right_word, along_left_word}
use Rattle.claim_conditions.specs.Terms.{goes_to, vertices_at}
use Rattle.module_checks.specs.RowWalks.{along_first, along_all}
use Rattle.module_checks.proofs.Walks.{along_same}
use Rattle.module_checks.proofs.RelationRows.{arrows_below}
use Rattle.term_rows.specs.SumDims.{side_in_table, covered_dim}
use Rattle.term_rows.proofs.SumSteps.{sum_dim_is}
use Rattle.term_rows.proofs.ModuleSteps.{dim_of_side}

module _ {q : Gf} {Q : Quiver} (X : Rep q Q) where
  walk_pushed : (f : ℕ → ℕ) (xs : List ℕ) (a : ℕ) → walk X f (xs ++ a ∷ []) ≡ step X a (walk X f xs)
  walk_pushed f [] a = refl
  walk_pushed f (b ∷ xs) a = walk_pushed (step X b f) xs a

  first_is_walk : (arrows : List ℕ) (f : ℕ → ℕ) (k : ℕ) → k ≤ length arrows → along_first X Right arrows k f ≡ walk X f (take k arrows)
  first_is_walk arrows f zero h = refl
  first_is_walk arrows f (suc k) h =
      ap (step X (get_or arrows k 0)) (first_is_walk arrows f k (omega arith)) ∙ sym (walk_pushed f (take k arrows) (get_or arrows k 0)) ∙ ap (walk X f) (sym (take-suc arrows k 0 (omega arith)))

  all_is_walk : (arrows : List ℕ) (f : ℕ → ℕ) → along_all X Right arrows f ≡ walk X f arrows
  all_is_walk arrows f = first_is_walk arrows f (length arrows) (omega arith) ∙ ap (walk X f) (take-length arrows)

  first_is_back : (arrows : List ℕ) (f : ℕ → ℕ) (k : ℕ) → k ≤ length arrows → along_first X Left arrows k f ≡ walk_back X f (drop (length arrows - k) arrows)
  first_is_back arrows f zero h =
      let e : ◌≡◌ {A = ℕ} (length arrows - 0) (length arrows) = omega arith in
      sym (ap (λ n. walk_back X f (drop n arrows)) e ∙ ap (walk_back X f) (drop-length arrows))
  first_is_back arrows f (suc k) h =
      let at = length arrows - suc k in
      let e : suc at ≡ length arrows - k = omega arith in
      ap (step X (get_or arrows at 0)) (first_is_back arrows f k (omega arith) ∙ ap (λ n. walk_back X f (drop n arrows)) (sym e))
      ∙ sym (ap (walk_back X f) (drop-cons arrows at 0 (omega arith)))

  all_is_back : (arrows : List ℕ) (f : ℕ → ℕ) → along_all X Left arrows f ≡ walk_back X f arrows
  all_is_back arrows f =
      let e : ◌≡◌ {A = ℕ} (length arrows - length arrows) 0 = omega arith in
      first_is_back arrows f (length arrows) (omega arith) ∙ ap (λ n. walk_back X f (drop n arrows)) e

module _ (h : Header) (words : List Path) (t : IsTable h words) where
  pub word_row : (side : Side) (X : Rep h.field (algebra_at side h).quiver) (v w i c : ℕ) (places image : List ℕ) → AreWordsAt words (side_in_table side) v w places → i < length places → IsRow h.field (X.dim v) image
      → (as_row h.field (X.dim v) image · along_word (sided_words side (table_sides h words t)).words X v w i).at 0 c ≡ along_all X side (path_at words (get_or places i 0)).arrows (slice_index image) c
  unfolding two_sided
  word_row Right X v w i c places image a l r =
      let x = as_row h.field (X.dim v) image in
      let arrows = (path_at words (get_or places i 0)).arrows in
      ap (λ f. f c) (along_right_word h t.allowed words t.normal X v w i (subst (λ n. i < n) (sym (places_count words t.normal.ascending v w places a)) l) x)
      ∙ ap (λ (p : Path). walk X (x.at 0) p.arrows c) (word_at_place words t.normal.ascending v w places a i l)
      ∙ ap (λ f. f c) (sym (all_is_walk X arrows (x.at 0)))
      ∙ along_same X Right arrows (length arrows) (x.at 0) (slice_index image) (as_row-entry h.field (X.dim v) image r) c
  word_row Left X v w i c places image a l r =
      let x = as_row h.field (X.dim v) image in
      let arrows = (path_at words (get_or places i 0)).arrows in
      ap (λ f. f c) (along_left_word h t.allowed words t.normal X v w i (subst (λ n. i < n) (sym (places_count words t.normal.ascending w v places a)) l) x)
      ∙ ap (λ (p : Path). walk_back X (x.at 0) p.arrows c) (word_at_place words t.normal.ascending w v places a i l)
      ∙ ap (λ f. f c) (sym (all_is_back X arrows (x.at 0)))
      ∙ along_same X Left arrows (length arrows) (x.at 0) (slice_index image) (as_row-entry h.field (X.dim v) image r) c

  -- the dimensions of what a term goes to
  pub covered_is : (a : Module) (terms : List TermRows) (k w : ℕ) → (goes_to (sided_words a.side (table_sides h words t)).words (read h a) terms k).dim w ≡ covered_dim words h a terms k w
  covered_is a terms zero w = dim_of_side a.side h a.dims w
  covered_is a terms (suc k) w = sum_dim_is h words t a.side (vertices_at terms k) w

  pub word_is : (k : ℕ) (p : Path) → k < length words → p ≡ slice_index_or words k p → p ≡ path_at words k
  unfolding path_at
  word_is k p l e = e ∙ get_or_default words k p _ l

  -- the arrows of a word
  pub word_arrows_below : (k : ℕ) (p : Path) → k < length words → p ≡ slice_index_or words k p → (n : ℕ) → n < length p.arrows → slice_index p.arrows n < arrow_count h.quiver
  unfolding path_at
  word_arrows_below k p l e n m =
      let same : p ≡ path_at words k = e ∙ get_or_default words k p _ l in
      let r = path_at words k in
      let s = (t.normal.only r (word_listed words k l)).short.path in
      arrows_below h.quiver p.start p.arrows p.end (subst (λ (p : Path). Leads h.quiver p.start p.arrows p.end) (sym same) s.leads) n m
