-- The matrix of an arrow on a projective module, row by row.
use Rattle.std.proofs.Common.{ℕ, ◌<◌, ◌≡◌, ◌+◌, List, [], ◌++◌, map, length, get_or, inl, inr, sym, ap, ◌∙◌, subst, arith}
use Rattle.std.specs.Prelude.{slice_index}
use Rattle.std.proofs.lemmas.Bool.{cases_lt}
use Rattle.std.proofs.lemmas.List.{get_or-map, length-map, get_or_past}
use Rattle.linear_algebra.specs.Field.{Gf, order}
use Rattle.linear_algebra.specs.FieldLaws.{order-pos}
use Rattle.linear_algebra.specs.Matrix.{Mat}
use Rattle.linear_algebra.specs.Rows.{list_of, rows_of}
use Rattle.linear_algebra.specs.Typed.{grid_of}
use Rattle.linear_algebra.proofs.Rows.{list_of-same}
use Rattle.fp_linear.specs.Matrix.{PlainMatrix, plain}
use Rattle.quiver_paths.specs.declared.Path.{Path}
use Rattle.quiver_paths.specs.Quiver.{arrow_count}
use Rattle.path_algebra.specs.declared.Header.{Header}
use Rattle.path_algebra.specs.Rows.{path_at}
use Rattle.alg_table.specs.TableView.{IsTable}
use Rattle.alg_table.specs.NormalForm.{IsProduct}
use Rattle.alg_table.specs.WordPlaces.{AreWordsAt}
use Rattle.row_spaces.specs.PushedRows.{HasRows}
use Rattle.row_spaces.proofs.PushedRows.{HasRows-none, HasRows-more}
use Rattle.bound_tables.specs.PlacedEntries.{ArePlaced}
use Rattle.module_types.specs.declared.Side.{Side}
use Rattle.module_types.specs.Algebras.{algebra_at}
use Rattle.term_rows.specs.SumDims.{side_in_table}
use Rattle.term_rows.proofs.AddedWords.{act_placed, count_places, product_small}
use Rattle.standard_modules.specs.StandardModules.{projective_rep, matrix_of_arrow}

-- the rows that a matrix is made of
rows_same : {q : Gf} {m n : ℕ} (a : Mat q m n) (k l : ℕ) (s : List ℕ) → m ≡ k → n ≡ l → HasRows q l k a.at s → rows_of k l s ≡ grid_of a
unfolding rows_of grid_of
rows_same {q} {m} {n} a k l s e d h =
    list_of-same k _ _ [] (λ i b. list_of-same l _ _ 0 (λ j c. h.at i j b c))
    ∙ sym (λ z. list_of (e z) (λ i. list_of (d z) (a.at i)))

module _ (h : Header) (words : List Path) (t : IsTable h words) (side : Side) (v a : ℕ) (l : a < arrow_count h.quiver) (sources targets : List ℕ)
    (s : AreWordsAt words (side_in_table side) v ((algebra_at side h).quiver.source a) sources) (g : AreWordsAt words (side_in_table side) v ((algebra_at side h).quiver.target a) targets) where
  pub none : HasRows h.field (length targets) 0 ((projective_rep h words t side v).mat a).at []
  none = HasRows-none h.field (length targets) ((projective_rep h words t side v).mat a).at

  pub more : (i : ℕ) (row entries : List ℕ) → i < length sources → IsProduct h words (side_in_table side) (path_at words (get_or sources i 0)) a row
      → HasRows h.field (length targets) i ((projective_rep h words t side v).mat a).at entries
      → HasRows h.field (length targets) (i + 1) ((projective_rep h words t side v).mat a).at (entries ++ map (slice_index row) targets)
  more i row entries b p r =
      HasRows-more h.field (length targets) i ((projective_rep h words t side v).mat a).at entries (map (slice_index row) targets) (length-map targets (slice_index row))
      (record { small = small }) (λ j m. get_or-map (slice_index row) targets j 0 0 m ∙ placed.there j m) r
    where
      placed : ArePlaced targets row (((projective_rep h words t side v).mat a).at i)
      placed = (act_placed h words t side v a i sources targets l s g b).placed row p

      small : (k : ℕ) → get_or (map (slice_index row) targets) k 0 < order h.field
      small k = elim (cases_lt k (length targets)) [
        | inl m ↦ subst (λ z. z < order h.field) (sym (get_or-map (slice_index row) targets k 0 0 m)) (product_small h words (side_in_table side) (path_at words (get_or sources i 0)) a row p (get_or targets k 0))
        | inr m ↦ subst (λ z. z < order h.field) (sym (get_or_past (map (slice_index row) targets) k 0 (let e = length-map targets (slice_index row) in omega (arith, e, m)))) (order-pos h.field)
      ]

  pub all : (entries : List ℕ) (p : PlainMatrix) → HasRows h.field (length targets) (length sources) ((projective_rep h words t side v).mat a).at entries
      → p ≡ plain h.field (length sources) (length targets) (rows_of (length sources) (length targets) entries) → p ≡ matrix_of_arrow (projective_rep h words t side v) a
  all entries p r e =
      let m = count_places h words t side v ((algebra_at side h).quiver.source a) sources s in
      let n = count_places h words t side v ((algebra_at side h).quiver.target a) targets g in
      e ∙ ap (plain h.field (length sources) (length targets)) (rows_same ((projective_rep h words t side v).mat a) (length sources) (length targets) entries m n r)
      ∙ sym (λ z. plain h.field (m z) (n z) (grid_of ((projective_rep h words t side v).mat a)))
