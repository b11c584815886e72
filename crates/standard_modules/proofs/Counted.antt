-- Words counted by the places that a table has of them.
use Rattle.std.proofs.Common.{ℕ, ◌<◌, ◌≤◌, ◌≡◌, ◌+◌, List, length, refl, sym, ◌∙◌, subst, arith, not}
use Rattle.std.proofs.lemmas.List.Filters.{length-filter_both}
use Rattle.linear_algebra.specs.BlockFamilies.{total}
use Rattle.linear_algebra.proofs.BlockFamilies.{total_grows}
use Rattle.quiver_paths.specs.declared.Path.{Path}
use Rattle.quiver_paths.specs.Quiver.{vertex_count}
use Rattle.path_algebra.specs.declared.Header.{Header}
use Rattle.alg_table.specs.declared.table.Side.{Side as TableSide}
use Rattle.alg_table.specs.TableView.{IsTable}
use Rattle.alg_table.specs.WordPlaces.{AreWordsAt}
use Rattle.bound_algebra.specs.WordLists.{is_between, words_between}
use Rattle.module_types.specs.declared.Side.{Side}
use Rattle.module_types.specs.declared.Side.TheVariants.{Right, Left}
use Rattle.term_rows.specs.SumDims.{side_in_table, count_to}
use Rattle.term_rows.proofs.SumSteps.{count_is}
use Rattle.term_rows.proofs.AddedWords.{count_places}
use Rattle.standard_modules.specs.StandardModules.{projective_dim}
use Rattle.standard_modules.proofs.Lists.{total-at_most}

between_few : (words : List Path) (v w : ℕ) → length (words_between words v w) ≤ length words
between_few words v w = let e = length-filter_both (is_between v w) (λ p. not (is_between v w p)) (λ p. refl) words in omega (arith, e)

module _ (h : Header) (words : List Path) (t : IsTable h words) (side : Side) where
  pub count_few : (v w : ℕ) → count_to words side v w ≤ 4096
  count_few v w = let e = few side in let f = t.few in omega (arith, e, f)
    where
      few : (side : Side) → count_to words side v w ≤ length words
      few Right = between_few words v w
      few Left = between_few words w v

  pub counted : (v w : ℕ) (hand : TableSide) (places : List ℕ) → hand ≡ side_in_table side → AreWordsAt words hand v w places → length places ≡ count_to words side v w
  counted v w hand places e a = sym (count_places h words t side v w places (subst (λ s. AreWordsAt words s v w places) e a)) ∙ count_is h words t side v w

  -- few enough for 64 bits
  pub sum_few : (v k dim n : ℕ) → k < vertex_count h.quiver → dim ≡ total k (count_to words side v) → n ≡ count_to words side v k → dim + n ≤ 131072
  sum_few v k dim n l e c =
      let b = total-at_most k 4096 (count_to words side v) (λ w m. count_few v w) in
      let f = count_few v k in
      let q = t.allowed.quiver.vertices_limit in
      omega (arith, b, f, q, l, e, c)

  pub dim_few : (v : ℕ) → projective_dim h words side v ≤ 131072
  dim_few v =
      let b = total-at_most (vertex_count h.quiver) 4096 (count_to words side v) (λ w m. count_few v w) in
      let q = t.allowed.quiver.vertices_limit in
      omega (arith, b, q)

  -- the words to one vertex
  pub count_in_dim : (v w : ℕ) → w < vertex_count h.quiver → count_to words side v w ≤ projective_dim h words side v
  count_in_dim v w l = let g = total_grows (count_to words side v) (vertex_count h.quiver) w l in omega (arith, g)
