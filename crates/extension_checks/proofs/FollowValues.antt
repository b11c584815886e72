-- The rows of the matrices of words in lent memory, and what following gives by them.
use Rattle.std.proofs.Common.{ℕ, ◌≡◌, ◌<◌, ◌≤◌, ◌+◌, List, [], length, get_or, set, inl, inr, sym, ap, ap₂, ◌∙◌, arith, subst, add-one}
use Rattle.std.specs.Prelude.{slice_index, slice_index_or}
use Rattle.std.proofs.lemmas.Bool.{cases_lt, cases_eq}
use Rattle.std.proofs.lemmas.List.{get_or_past, get_or-set_same, get_or-set_other}
use Rattle.linear_algebra.specs.Field.{Gf, add, mul}
use Rattle.linear_algebra.specs.FieldLaws.{add_zero, add_zero_zero, mul_zero, zero_mul}
use Rattle.linear_algebra.specs.Sums.{sum-none, sum-suc}
use Rattle.linear_algebra.specs.Matrix.{delta, delta-same, delta-other}
use Rattle.linear_algebra.specs.BlockFamilies.{total}
use Rattle.fp_linear.specs.Slices.{AreElements, plus_multiple}
use Rattle.fp_linear.specs.Meeting.{IsClearFrom}
use Rattle.fp_linear.proofs.Slices.{plus-at, length-plus}
use Rattle.quiver_paths.specs.declared.Path.{Path}
use Rattle.path_algebra.specs.declared.Header.{Header}
use Rattle.path_algebra.specs.Rows.{path_at}
use Rattle.alg_table.specs.TableView.{IsTable}
use Rattle.alg_table.specs.WordPlaces.{AreWordsAt}
use Rattle.bound_algebra.specs.TypedPaths.{quiver_of}
use Rattle.module_types.specs.declared.Module.{Module}
use Rattle.module_types.specs.declared.TermRows.{TermRows}
use Rattle.module_types.specs.declared.Side.{Side}
use Rattle.module_types.specs.Algebras.{algebra_at}
use Rattle.module_types.specs.Readings.{read, dim_at}
use Rattle.module_types.specs.Shapes.{IsModule}
use Rattle.module_types.specs.TermMatrices.{vertex}
use Rattle.module_checks.specs.RowWalks.{along_all, IsArrowsMoved}
use Rattle.module_checks.proofs.HomRank.{dim_at-is}
use Rattle.module_checks.proofs.Sides.{dim_small}
use Rattle.module_checks.proofs.Walks.{along_same}
use Rattle.term_rows.specs.SumDims.{side_in_table, IsRoomFor}
use Rattle.term_rows.specs.RowSteps.{part_dim, combined}
use Rattle.term_rows.proofs.ModuleSteps.{room_of_side}
use Rattle.resolution_checks.proofs.FollowPlaces.{follow_place}
use Rattle.extension_checks.specs.Following.{IsUnitRow, word_entry, IsWordAdded, HoldsWords, HoldsValue, IsTermOver, value_dims}

pub unit_written : (c : ℕ) (s : List ℕ) → IsClearFrom 0 s → c < length s → IsUnitRow c (set s c 1)
unit_written c s z l = record {
  at = λ j. elim (cases_eq j c) [
    | inl e ↦ ap (λ j. get_or (set s c 1) j 0) e ∙ get_or-set_same s c 1 0 l ∙ sym (delta-same c) ∙ ap (delta c) (sym e)
    | inr d ↦ get_or-set_other s c j 1 0 d ∙ z.clear j (omega arith) ∙ sym (delta-other c j (λ e. d (sym e)))
  ];
}

-- the room that a module needs
pub room_of_module : (side : Side) (h : Header) (m : Module) → IsModule h.field (algebra_at side h).quiver m → IsRoomFor h (dim_at (quiver_of h.quiver) m.dims) 256
room_of_module side h m M = record { fits = λ v l. subst (λ z. z ≤ 256) (sym (dim_at-is (quiver_of h.quiver) m.dims v l)) (dim_small m.dims M.small v) }

pub plus_everywhere : (q : Gf) (factor : ℕ) (source old : List ℕ) (z : ℕ) → length source ≡ length old → slice_index (plus_multiple q factor source old) z ≡ add q (slice_index old z) (mul q factor (slice_index source z))
plus_everywhere q factor source old z e = elim (cases_lt z (length old)) [
  | inl l ↦ plus-at q factor source old z l
  | inr b ↦
      get_or_past (plus_multiple q factor source old) z 0 (let p = length-plus q factor source old in omega (arith, p, b))
      ∙ sym (ap₂ (add q) (get_or_past old z 0 b) (ap (mul q factor) (get_or_past source z 0 (omega (arith, e, b))) ∙ mul_zero q factor) ∙ add_zero_zero q)
]

module _ (h : Header) (words : List Path) (b : Module) where
  pub word_added : (word c factor : ℕ) (arrows unit row old new : List ℕ) → arrows ≡ (path_at words word).arrows → IsUnitRow c unit → IsArrowsMoved (read h b) b.side arrows unit row → length row ≡ length old
      → new ≡ plus_multiple h.field factor row old → IsWordAdded h words b word c factor old new
  word_added word c factor arrows unit row old new e u m l n = record {
    at = λ z.
        ap (λ s. slice_index s z) n ∙ plus_everywhere h.field factor row old z l
        ∙ ap (λ v. add h.field (slice_index old z) (mul h.field factor v))
        (m.at z ∙ along_same (read h b) b.side arrows (length arrows) (slice_index unit) (delta c) u.at z ∙ ap (λ xs. along_all (read h b) b.side xs (delta c) z) e);
  }

  pub word_left_out : (word c factor : ℕ) (s : List ℕ) → factor ≡ 0 → AreElements h.field s → IsWordAdded h words b word c factor s s
  word_left_out word c factor s e a = record {
    at = λ z. sym (ap (add h.field (slice_index s z)) (ap (λ f. mul h.field f (word_entry h words b word c z)) e ∙ zero_mul h.field (word_entry h words b word c z)) ∙ add_zero h.field (slice_index s z) (a.small z));
  }

  pub words-none : (image : List ℕ) (from : ℕ) (places : List ℕ) (c : ℕ) (s : List ℕ) → IsClearFrom 0 s → HoldsWords h words b image from places 0 c s
  words-none image from places c s z = record { at = λ j. z.clear j (omega arith) ∙ sym (sum-none h.field _) }

  pub words-more : (image : List ℕ) (from : ℕ) (places : List ℕ) (p c word factor : ℕ) (old new : List ℕ) → word ≡ slice_index places p → factor ≡ slice_index image (from + p)
      → HoldsWords h words b image from places p c old → IsWordAdded h words b word c factor old new → HoldsWords h words b image from places (p + 1) c new
  words-more image from places p c word factor old new e f o a = record {
    at = λ z.
        a.at z ∙ ap₂ (add h.field) (o.at z) (ap₂ (λ f w. mul h.field f (word_entry h words b w c z)) f e)
        ∙ rw add-one (sym (sum-suc h.field p (λ i. mul h.field (slice_index image (from + i)) (word_entry h words b (slice_index places i) c z))));
  }

  -- how large the values are
  pub value_small : IsModule h.field (algebra_at b.side h).quiver b → (t : TermRows) (j : ℕ) → value_dims h words b t j ≤ 256
  value_small M t j = room_of_side b.side h b.dims 256 (room_of_module b.side h b M) (vertex t j)

  pub value_held : (t : IsTable h words) (first next : TermRows) → IsTermOver h words b.side first next → (j c i from : ℕ) (places image s : List ℕ) → j < length first.vertices → c < value_dims h words b first j → i < length next.vertices
      → AreWordsAt words (side_in_table b.side) (vertex first j) (vertex next i) places → from ≡ total j (part_dim words b.side first.vertices (vertex next i)) → image ≡ slice_index_or next.images i []
      → HoldsWords h words b image from places (length places) c s → HoldsValue h words b t first next j c i s
  value_held t first next T j c i from places image s l k m A fe ie w = record {
    at = λ z d.
        w.at z ∙ ap₂ (λ x y. combined h.field x y (λ p. word_entry h words b (slice_index places p) c) (length places) z) ie fe
        ∙ sym (follow_place h words t b.side (read h b) first next j c i z places l k m d A (T.shape.each i m));
  }

-- what is asked where the header is only known to be equal
pub room_for : (side : Side) (h g : Header) (m : Module) (n : ℕ) → g ≡ h → n ≡ 256 → IsModule h.field (algebra_at side h).quiver m → IsRoomFor g (dim_at (quiver_of g.quiver) m.dims) n
room_for side h g m n e l M =
    subst (λ (g : Header). IsRoomFor g (dim_at (quiver_of g.quiver) m.dims) n) (sym e) (subst (IsRoomFor h (dim_at (quiver_of h.quiver) m.dims)) (sym l) (room_of_module side h m M))

pub moved_for : (h g : Header) (b : Module) (arrows unit row : List ℕ) → g ≡ h → IsArrowsMoved (read g b) b.side arrows unit row → IsArrowsMoved (read h b) b.side arrows unit row
moved_for h g b arrows unit row e m = subst (λ (g : Header). IsArrowsMoved (read g b) b.side arrows unit row) e m
