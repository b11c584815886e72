-- A row of a sum of projective modules goes along an arrow part by part.
use Rattle.std.proofs.Common.{ℕ, zero, ◌≡◌, ◌<◌, ◌≤◌, ◌+◌, List, length, get_or, refl, sym, ap, ap₂, ◌∙◌, arith, subst, mod-eq_of_lt}
use Rattle.std.specs.Prelude.{slice_index}
use Rattle.linear_algebra.specs.Field.{Gf, order, mul}
use Rattle.linear_algebra.specs.Sums.{sum_to, sum-same}
use Rattle.linear_algebra.specs.Matrix.{Mat, Row, made, ◌·◌}
use Rattle.linear_algebra.specs.BlockFamilies.{total}
use Rattle.linear_algebra.proofs.PartsLaws.{made-at}
use Rattle.linear_algebra.proofs.BlockFamilies.{total_grows, total-same}
use Rattle.quiver_paths.specs.declared.Path.{Path}
use Rattle.path_algebra.specs.declared.Header.{Header}
use Rattle.alg_table.specs.TableView.{IsTable}
use Rattle.representations.specs.Quiver.{Quiver}
use Rattle.representations.specs.Rep.{Rep}
use Rattle.projectives.specs.Words.{Words, projective}
use Rattle.projectives.specs.Families.{projectives}
use Rattle.projectives.specs.Components.{component}
use Rattle.projectives.specs.CanonicalCover.{projectives_at}
use Rattle.projectives.proofs.Places.{sum_family-dim, component-places}
use Rattle.bound_algebra.proofs.TwoSidedBasis.{two_sided}
use Rattle.bound_tables.specs.TableSides.{table_sides}
use Rattle.module_types.specs.declared.Side.{Side}
use Rattle.module_types.specs.declared.Side.TheVariants.{Right, Left}
use Rattle.module_types.specs.Algebras.{sided_words}
use Rattle.module_types.specs.Walks.{step}
use Rattle.module_types.proofs.TermMatrices.{component-mat}
use Rattle.term_rows.specs.SumDims.{count_to, sum_dim}
use Rattle.term_rows.specs.RowSteps.{part_entry}

module _ {q : Gf} {Q : Quiver} (W : Words q Q) (k : ℕ) (v : ℕ → ℕ) (a : ℕ) (f : List ℕ) (small : (j : ℕ) → get_or f j 0 < order q) where
  abbrev from_dim : ℕ → ℕ
  from_dim j = W.count (v j) (Q.source a)

  abbrev to_dim : ℕ → ℕ
  to_dim j = W.count (v j) (Q.target a)

  held : Row q ((projectives W k v).dim (Q.source a))
  held = made q 1 ((projectives W k v).dim (Q.source a)) (λ i j. get_or f j 0)

  held-at : (j : ℕ) → j < (projectives W k v).dim (Q.source a) → held.at 0 j ≡ get_or f j 0
  unfolding held
  held-at j l = made-at q 1 ((projectives W k v).dim (Q.source a)) (λ i j. get_or f j 0) 0 j (omega arith) l ∙ mod-eq_of_lt (small j)

  step_is_product : (z : ℕ) → step (projectives W k v) a (slice_index f) z ≡ (held · (projectives W k v).mat a).at 0 z
  unfolding step ◌·◌
  step_is_product z = sum-same q ((projectives W k v).dim (Q.source a)) _ _ (λ t l. ap (λ x. mul q x (((projectives W k v).mat a).at t z)) (sym (held-at t l)))

  product_is : {m n : ℕ} (x : Row q m) (b : Mat q m n) (t : ℕ) → (x · b).at 0 t ≡ sum_to q m (λ i. mul q (x.at 0 i) (b.at i t))
  unfolding ◌·◌
  product_is x b t = refl

  place_inside : (j i : ℕ) → j < k → i < from_dim j → total j from_dim + i < (projectives W k v).dim (Q.source a)
  place_inside j i l m =
      let d = sum_family-dim k (λ c. projective W (v c)) (Q.source a) in
      let g = total_grows from_dim k j l in
      omega (arith, d, g, m)

  pub step_by_parts : (j t : ℕ) → j < k → t < to_dim j → step (projectives W k v) a (slice_index f) (total j to_dim + t) ≡ part_entry W (v j) a f (total j from_dim) (from_dim j) t
  step_by_parts j t l m =
      step_is_product (total j to_dim + t)
      ∙ sym (component-places W k v j (Q.target a) l (held · (projectives W k v).mat a) t m)
      ∙ ap (λ (z : Row q (to_dim j)). z.at 0 t) (component-mat W k v j a held)
      ∙ product_is (component W k v j (Q.source a) held) (W.act (v j) a) t
      ∙ sum-same q (from_dim j) _ _ (λ i n. ap (λ x. mul q x ((W.act (v j) a).at i t))
      (component-places W k v j (Q.source a) l held i n ∙ held-at (total j from_dim + i) (place_inside j i l n)))

-- The words of a side are as many as are counted.
module _ (h : Header) (words : List Path) (t : IsTable h words) where
  pub count_is : (side : Side) (v w : ℕ) → (sided_words side (table_sides h words t)).words.count v w ≡ count_to words side v w
  unfolding two_sided
  count_is Right v w = refl
  count_is Left v w = refl

  pub sum_dim_is : (side : Side) (vs : List ℕ) (w : ℕ) → (projectives_at (sided_words side (table_sides h words t)).words vs).dim w ≡ sum_dim words side vs w
  sum_dim_is side vs w =
      sum_family-dim (length vs) (λ c. projective (sided_words side (table_sides h words t)).words (get_or vs c zero)) w
      ∙ total-same (length vs) _ _ (λ j l. count_is side (get_or vs j zero) w)
