-- The entries of the matrix of following over the words of a table, by the arrows of the words that it lists.
use Rattle.std.proofs.Common.{ℕ, zero, ◌≡◌, ◌<◌, ◌≤◌, ◌+◌, List, [], length, get_or, inl, inr, sym, ap, ap₂, ◌∙◌, arith, subst}
use Rattle.std.specs.Prelude.{slice_index, ◌⊎◌}
use Rattle.std.proofs.lemmas.Bool.{cases_lt}
use Rattle.linear_algebra.specs.Field.{Gf, mul}
use Rattle.linear_algebra.specs.Sums.{sum_to, sum-same}
use Rattle.linear_algebra.specs.Matrix.{delta}
use Rattle.linear_algebra.specs.BlockFamilies.{total}
use Rattle.linear_algebra.specs.Rows.{IsRow}
use Rattle.linear_algebra.proofs.Typed.{as_row-entry}
use Rattle.quiver_paths.specs.declared.Path.{Path}
use Rattle.path_algebra.specs.declared.Header.{Header}
use Rattle.path_algebra.specs.Rows.{path_at}
use Rattle.alg_table.specs.TableView.{IsTable}
use Rattle.alg_table.specs.WordPlaces.{AreWordsAt}
use Rattle.representations.specs.Rep.{Rep}
use Rattle.projectives.specs.Words.{Words, along_word, word_at}
use Rattle.bound_algebra.specs.NormalWords.{word_count, normal_word, typed_word}
use Rattle.bound_algebra.specs.AlgebraWords.{algebra_words, opposite_words}
use Rattle.bound_algebra.proofs.TypedPaths.{arrows_of-path_of}
use Rattle.bound_algebra.proofs.TwoSidedBasis.{two_sided}
use Rattle.bound_tables.specs.TableSides.{table_sides}
use Rattle.bound_tables.proofs.PlacedWords.{word_at_place, places_count}
use Rattle.module_types.specs.declared.Side.{Side}
use Rattle.module_types.specs.declared.Side.TheVariants.{Right, Left}
use Rattle.module_types.specs.declared.TermRows.{TermRows}
use Rattle.module_types.specs.Algebras.{algebra_at, sided_words}
use Rattle.module_types.specs.TermMatrices.{count, vertex, sum_of_term}
use Rattle.module_types.specs.TermCoordinates.{follow_matrix}
use Rattle.module_checks.specs.RowWalks.{along_all}
use Rattle.module_checks.proofs.RelationRows.{path_row, reverse_row}
use Rattle.term_rows.specs.SumDims.{side_in_table, sum_dim}
use Rattle.term_rows.specs.RowSteps.{part_dim, combined}
use Rattle.term_rows.proofs.SumSteps.{sum_dim_is}
use Rattle.term_rows.proofs.AddedWords.{part_dims, count_places}
use Rattle.resolution_checks.proofs.FollowEntries.{follow_entry}

module _ (h : Header) (words : List Path) (t : IsTable h words) where
  right_word : (X : Rep h.field (algebra_at Right h).quiver) (v w i c z : ℕ) → i < word_count h t.allowed words t.normal v w → c < X.dim v
      → (d : (i < word_count h t.allowed words t.normal v w) ⊎ (word_count h t.allowed words t.normal v w ≤ i))
      → (word_at (algebra_words h t.allowed words t.normal) X v w i d).at c z ≡ along_all X Right (normal_word h t.allowed words t.normal v w i).arrows (delta c) z
  right_word X v w i c z l b (inl k) = path_row X (typed_word h t.allowed words t.normal v w i k) c z b
      ∙ ap (λ xs. along_all X Right xs (delta c) z) (arrows_of-path_of h.quiver v (normal_word h t.allowed words t.normal v w i).arrows w _)
  right_word X v w i c z l b (inr k) = absurd (omega arith)

  left_word : (X : Rep h.field (algebra_at Left h).quiver) (v w i c z : ℕ) → i < word_count h t.allowed words t.normal w v → c < X.dim v
      → (d : (i < word_count h t.allowed words t.normal w v) ⊎ (word_count h t.allowed words t.normal w v ≤ i))
      → (word_at (opposite_words h t.allowed words t.normal) X v w i d).at c z ≡ along_all X Left (normal_word h t.allowed words t.normal w v i).arrows (delta c) z
  left_word X v w i c z l b (inl k) = reverse_row X (typed_word h t.allowed words t.normal w v i k) c z b
      ∙ ap (λ xs. along_all X Left xs (delta c) z) (arrows_of-path_of h.quiver w (normal_word h t.allowed words t.normal w v i).arrows v _)
  left_word X v w i c z l b (inr k) = absurd (omega arith)

  -- what a word makes of a unit row
  pub unit_word : (side : Side) (X : Rep h.field (algebra_at side h).quiver) (v w i c z : ℕ) (places : List ℕ) → AreWordsAt words (side_in_table side) v w places → i < length places → c < X.dim v
      → (along_word (sided_words side (table_sides h words t)).words X v w i).at c z ≡ along_all X side (path_at words (get_or places i 0)).arrows (delta c) z
  unfolding two_sided along_word
  unit_word Right X v w i c z places a l b =
      right_word X v w i c z (subst (λ n. i < n) (sym (places_count words t.normal.ascending v w places a)) l) b (cases_lt i (word_count h t.allowed words t.normal v w))
      ∙ ap (λ (p : Path). along_all X Right p.arrows (delta c) z) (word_at_place words t.normal.ascending v w places a i l)
  unit_word Left X v w i c z places a l b =
      left_word X v w i c z (subst (λ n. i < n) (sym (places_count words t.normal.ascending w v places a)) l) b (cases_lt i (word_count h t.allowed words t.normal w v))
      ∙ ap (λ (p : Path). along_all X Left p.arrows (delta c) z) (word_at_place words t.normal.ascending w v places a i l)

  -- An entry, as what adding the rows of the words gives one after another.
  pub follow_place : (side : Side) (Y : Rep h.field (algebra_at side h).quiver) (first next : TermRows) (j c i z : ℕ) (places : List ℕ) → j < count first → c < Y.dim (vertex first j) → i < count next → z < Y.dim (vertex next i)
      → AreWordsAt words (side_in_table side) (vertex first j) (vertex next i) places → IsRow h.field (sum_dim words side first.vertices (vertex next i)) (get_or next.images i [])
      → (follow_matrix (sided_words side (table_sides h words t)).words Y first next).at (total j (λ g. Y.dim (vertex first g)) + c) (total i (λ g. Y.dim (vertex next g)) + z)
      ≡ combined h.field (get_or next.images i []) (total j (part_dim words side first.vertices (vertex next i))) (λ p z. along_all Y side (path_at words (get_or places p 0)).arrows (delta c) z) (length places) z
  follow_place side Y first next j c i z places l b m k A R =
      let W = (sided_words side (table_sides h words t)).words in
      let u = vertex next i in
      let image = get_or next.images i [] in
      let n = count_places h words t side (vertex first j) u places A in
      follow_entry W Y first next j c l b i z m k
      ∙ sum-same h.field (W.count (vertex first j) u) _ _ (λ p s. ap₂ (mul h.field)
      (as_row-entry h.field ((sum_of_term W first).dim u) image (subst (λ d. IsRow h.field d image) (sym (sum_dim_is h words t side first.vertices u)) R) (total j (λ g. W.count (vertex first g) u) + p)
      ∙ ap (λ d. get_or image (d + p) 0) (sym (part_dims h words t side first.vertices u j)))
      (unit_word side Y (vertex first j) u p c z places A (subst (λ d. p < d) n s) b))
      ∙ ap (λ d. sum_to h.field d (λ p. mul h.field (get_or image (total j (part_dim words side first.vertices u) + p) 0) (along_all Y side (path_at words (get_or places p 0)).arrows (delta c) z))) n
