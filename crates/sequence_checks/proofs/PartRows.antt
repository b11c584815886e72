-- Parts of functionals in slices, and rows of the dual of a module, one number after another.
use Rattle.std.proofs.Common.{ℕ, suc, ◌≡◌, ◌<◌, ◌≤◌, ◌+◌, ◌*◌, List, [], length, set, get_or-set_same, get_or-set_other, inl, inr, refl, sym, ap, ◌∙◌, arith, subst, mod-eq_of_lt, add-one}
use Rattle.std.specs.Prelude.{slice_index, slice_index_or}
use Rattle.std.proofs.lemmas.List.{get_or_default}
use Rattle.std.proofs.lemmas.Nat.{mul-le}
use Rattle.std.proofs.lemmas.Bool.{cases_lt, cases_eq}
use Rattle.linear_algebra.specs.Field.{Gf}
use Rattle.linear_algebra.specs.BlockFamilies.{total}
use Rattle.linear_algebra.specs.Rows.{IsRow}
use Rattle.linear_algebra.proofs.BlockFamilies.{total-same, total_grows}
use Rattle.linear_algebra.proofs.MatrixLaws.{transpose-at}
use Rattle.fp_linear.specs.Matrix.{PlainMatrix}
use Rattle.fp_linear.specs.Slices.{IsWritten}
use Rattle.fp_linear.specs.Meeting.{IsClearFrom}
use Rattle.quiver_paths.specs.declared.Path.{Path}
use Rattle.path_algebra.specs.declared.Header.{Header}
use Rattle.alg_table.specs.TableView.{IsTable}
use Rattle.projectives.specs.CanonicalCover.{vertex_in}
use Rattle.module_types.specs.declared.Side.{Side}
use Rattle.module_types.specs.declared.Module.{Module}
use Rattle.module_types.specs.Algebras.{algebra_at, other_side}
use Rattle.module_types.specs.Readings.{dim_at, rep_of}
use Rattle.representations.specs.Dual.{dual}
use Rattle.module_checks.specs.RowWalks.{IsArrowsMoved}
use Rattle.module_types.specs.Presentations.{part}
use Rattle.module_types.proofs.Presentations.{part-at}
use Rattle.module_checks.proofs.HomRank.{dim_at-is}
use Rattle.term_rows.specs.SumDims.{AreVertices}
use Rattle.translate_checks.specs.Across.{sides_of}
use Rattle.translate_checks.specs.Dots.{row_dot}
use Rattle.translate_checks.specs.Steps.{module_in}
use Rattle.translate_checks.proofs.Ends.{vertices_at_side}
use Rattle.sequence_checks.specs.Pullbacks.{part_row, HoldsPart, HoldsPartAlong}

-- the first numbers of a row of the dual, and zeros behind them
pub record HasDots (q : Gf) (p : PlainMatrix) (old new : List ℕ) (n : ℕ) : Type 0 where
  pub done : (j : ℕ) → j < n → slice_index new j ≡ row_dot q p.col_count p j old 0
  pub behind : (j : ℕ) → n ≤ j → slice_index new j ≡ 0

pub dots-none : (q : Gf) (p : PlainMatrix) (old clear : List ℕ) → IsClearFrom 0 clear → HasDots q p old clear 0
dots-none q p old clear z = record { done = λ j l. absurd (omega arith); behind = λ j l. z.clear j (omega arith) }

pub dots-more : (q : Gf) (p : PlainMatrix) (old new : List ℕ) (n v : ℕ) → n < length new → v ≡ row_dot q p.col_count p n old 0 → HasDots q p old new n → HasDots q p old (set new n v) (n + 1)
dots-more q p old new n v l e d = record {
  done = λ j b. elim (cases_eq j n) [
    | inl f ↦ subst (λ j. slice_index (set new n v) j ≡ row_dot q p.col_count p j old 0) (sym f) (get_or-set_same new n v 0 l ∙ e)
    | inr f ↦ get_or-set_other new n j v 0 f ∙ d.done j (omega arith)
  ];
  behind = λ j b. get_or-set_other new n j v 0 (λ f. omega arith) ∙ d.behind j (omega arith);
}

-- one part more
pub start-more : (dims : List ℕ) (v : ℕ → ℕ) (k d u : ℕ) → u ≡ v k → v k < length dims → d ≡ slice_index_or dims u d → (d ≡ slice_index dims (v k)) × ((start : ℕ) → start ≡ total k (λ c. slice_index dims (v c)) → start + d ≡ total (k + 1) (λ c. slice_index dims (v c)))
start-more dims v k d u e l f =
    let n : d ≡ slice_index dims (v k) = f ∙ ap (λ z. slice_index_or dims z d) e ∙ get_or_default dims (v k) d 0 l in
    let s : total (k + 1) (λ c. slice_index dims (v c)) ≡ total k (λ c. slice_index dims (v c)) + slice_index dims (v k) = rw add-one refl in
    (n, λ start g. omega (arith, n, s, g))

-- sizes of the parts, by the printed dimensions
module _ (h : Header) (side : Side) (m : Module) (cover : List ℕ) (V : AreVertices h cover) where
  size_is : (c : ℕ) → c < length cover → slice_index m.dims (vertex_in cover c) ≡ dim_at (algebra_at side h).quiver m.dims (vertex_in cover c)
  size_is c l = sym (dim_at-is (algebra_at side h).quiver m.dims (vertex_in cover c) (let s = vertices_at_side side h in let d = V.declared c l in omega (arith, s, d)))

  pub starts_are : (j : ℕ) → j ≤ length cover → total j (λ c. slice_index m.dims (vertex_in cover c)) ≡ total j (λ c. dim_at (algebra_at side h).quiver m.dims (vertex_in cover c))
  starts_are j l = total-same j _ _ (λ c b. size_is c (omega arith))

  pub part_within : (j start count n : ℕ) → j < length cover → start ≡ total j (λ c. slice_index m.dims (vertex_in cover c)) → count ≡ slice_index m.dims (vertex_in cover j)
      → n ≡ total (length cover) (λ c. dim_at (algebra_at side h).quiver m.dims (vertex_in cover c)) → start + count ≤ n
  part_within j start count n l se ce ne =
      let g = total_grows (λ c. dim_at (algebra_at side h).quiver m.dims (vertex_in cover c)) (length cover) j l in
      let s = starts_are j (omega arith) in
      let e = size_is j l in
      omega (arith, g, s, e, se, ce, ne)

  pub part_held : (words : List Path) (t : IsTable h words) (functional : List ℕ) (F : IsRow h.field (total (length cover) (λ c. dim_at (algebra_at side h).quiver m.dims (vertex_in cover c))) functional)
      (j start count : ℕ) (clear s : List ℕ) → j < length cover → start ≡ total j (λ c. slice_index m.dims (vertex_in cover c)) → count ≡ slice_index m.dims (vertex_in cover j)
      → IsClearFrom 0 clear → IsWritten clear s 0 count (λ c. slice_index functional (start + c)) → HoldsPart h words t side m cover functional j s
  part_held words t functional F j start count clear s l se ce z w = record {
    at = λ k.
        let P = part (sides_of h words t side) (module_in h words t side m) (record { vertices = cover; images = [] }) functional j in
        let d : count ≡ (module_in h words t side m).dim (vertex_in cover j) = ce ∙ size_is j l in
        elim (cases_lt k count) [
          | inl b ↦
              ap (slice_index s) (sym (from_zero k)) ∙ w.within k b ∙ ap (λ n. slice_index functional (n + k)) (se ∙ starts_are j (omega arith))
              ∙ sym (mod-eq_of_lt (F.small (total j (λ c. dim_at (algebra_at side h).quiver m.dims (vertex_in cover c)) + k)))
              ∙ sym (part-at (sides_of h words t side) (module_in h words t side m) (record { vertices = cover; images = [] }) functional j k (omega (arith, b, d)))
              ∙ sym (transpose-at P 0 k)
          | inr g ↦ w.after k (omega arith) ∙ z.clear k (omega arith) ∙ sym ((part_row h words t side m cover functional j).fits.right 0 k (omega (arith, g, d)))
        ];
  }
    where
      from_zero : (i : ℕ) → ◌≡◌ {A = ℕ} (0 + i) i
      from_zero i = omega arith

pub part_along : (h : Header) (words : List Path) (t : IsTable h words) (side : Side) (m : Module) (cover functional : List ℕ) (j : ℕ) (h' : Header) (arrows same first new : List ℕ) → h' ≡ h → arrows ≡ same
    → HoldsPart h words t side m cover functional j first → IsArrowsMoved (dual (rep_of h'.field (algebra_at side h').quiver m)) (other_side side) arrows first new → HoldsPartAlong h words t side m cover functional j same new
part_along h words t side m cover functional j h' arrows same first new e f p w = record {
  first = first;
  holds = p;
  along = (subst (λ xs. IsArrowsMoved (dual (rep_of h.field (algebra_at side h).quiver m)) (other_side side) xs first new) f
      (subst (λ (h : Header). IsArrowsMoved (dual (rep_of h.field (algebra_at side h).quiver m)) (other_side side) arrows first new) e w)).at;
}

pub pulled_inside : (r width len : ℕ) → r < 512 → width ≤ 768 → len ≡ 393216 → r * width + width ≤ len
pulled_inside r width len l b e = let p = mul-le (suc r) width 512 768 (omega (arith, l)) b in omega (arith, p, e)
