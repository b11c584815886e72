-- Rows of transposed maps in slices: along a word, and one behind another.
use Rattle.std.proofs.Common.{ℕ, suc, ◌≡◌, ◌<◌, ◌≤◌, ◌+◌, ◌*◌, List, length, get_or, refl, sym, ap, ◌∙◌, arith, subst}
use Rattle.std.specs.Prelude.{slice_index}
use Rattle.std.proofs.lemmas.Nat.{mul-le}
use Rattle.linear_algebra.specs.BlockFamilies.{total}
use Rattle.quiver_paths.specs.declared.Path.{Path}
use Rattle.quiver_paths.specs.Quiver.{vertex_count}
use Rattle.path_algebra.specs.declared.Header.{Header}
use Rattle.path_algebra.specs.Rows.{path_at}
use Rattle.alg_table.specs.TableView.{IsTable}
use Rattle.alg_table.specs.WordPlaces.{AreWordsAt}
use Rattle.projectives.specs.CanonicalCover.{vertex_in}
use Rattle.module_types.specs.declared.Side.{Side}
use Rattle.module_types.specs.declared.TermRows.{TermRows}
use Rattle.module_types.specs.Algebras.{other_side}
use Rattle.module_checks.specs.RowWalks.{IsArrowsMoved}
use Rattle.term_rows.specs.SumDims.{side_in_table, sum_dim, IsRoomFor}
use Rattle.term_rows.specs.RowSteps.{part_dim}
use Rattle.term_rows.proofs.AddedWords.{part_inside}
use Rattle.translate_checks.specs.Across.{IsPresentation, sum_in, transposed_in, HoldsTransposedRow, HoldsWordRow}
use Rattle.translate_checks.proofs.AcrossRows.{transposed_cell}

pub room_across : (words : List Path) (h : Header) (side other : Side) (vs : List ℕ) (n m : ℕ) → other ≡ other_side side → IsRoomFor h (sum_dim words (other_side side) vs) 512 → n ≡ m → m ≡ 512 → IsRoomFor h (sum_dim words other vs) n
room_across words h side other vs n m e r f g = subst (λ s. IsRoomFor h (sum_dim words s vs) n) (sym e) (subst (IsRoomFor h (sum_dim words (other_side side) vs)) (sym (f ∙ g)) r)

pub small_product : (m n len : ℕ) → m ≤ 512 → n ≤ 512 → len ≡ 262144 → m * n ≤ len
small_product m n len a b e = let p = mul-le m n 512 512 a b in omega (arith, p, e)

module _ (h : Header) (words : List Path) (t : IsTable h words) (side : Side) (cover : List ℕ) (syzygy : TermRows) where
  pub word_held : (j : ℕ) (other : Side) (arrows same first new : List ℕ) → other ≡ other_side side → arrows ≡ same → HoldsTransposedRow h words t side cover syzygy j first
      → IsArrowsMoved (sum_in h words t other syzygy.vertices) other arrows first new → HoldsWordRow h words t side cover syzygy j same new
  word_held j other arrows same first new e f r m = record {
    first = first;
    holds = r;
    along = λ c.
        let moved : IsArrowsMoved (sum_in h words t (other_side side) syzygy.vertices) (other_side side) arrows first new =
        subst (λ s. IsArrowsMoved (sum_in h words t s syzygy.vertices) s arrows first new) e m in
        (subst (λ xs. IsArrowsMoved (sum_in h words t (other_side side) syzygy.vertices) (other_side side) xs first new) f moved).at c;
  }

  module _ (p : IsPresentation words h side cover syzygy) (w : ℕ) where
    pub cell_held : (j i at c : ℕ) (places s : List ℕ) → j < length cover → at ≡ total j (part_dim words (other_side side) cover w) → AreWordsAt words (side_in_table (other_side side)) (vertex_in cover j) w places → i < length places
        → HoldsWordRow h words t side cover syzygy j (path_at words (get_or places i 0)).arrows s → slice_index s c ≡ (transposed_in h words t side cover syzygy w).at (at + i) c
    cell_held j i at c places s l e a b r = r.along c ∙ sym (ap (λ n. (transposed_in h words t side cover syzygy w).at (n + i) c) e ∙ transposed_cell h words t side cover syzygy p.term w j i c places r.first l a b r.holds)

    pub at_inside : (j at : ℕ) (places : List ℕ) → j < length cover → w < vertex_count h.quiver → at ≡ total j (part_dim words (other_side side) cover w) → AreWordsAt words (side_in_table (other_side side)) (vertex_in cover j) w places
        → at + length places ≤ 512
    at_inside j at places l v e a = part_inside h words t (other_side side) cover w j at (length places) 512 places l e a refl (p.cover_small.fits w v)

    pub row_inside : (r columns len : ℕ) → r < 512 → columns ≡ sum_dim words (other_side side) syzygy.vertices w → w < vertex_count h.quiver → len ≡ 262144 → r * columns + columns ≤ len
    row_inside r columns len l e v f =
        let s = p.syzygy_small.fits w v in
        let q = mul-le (suc r) columns 512 512 (omega (arith, l)) (omega (arith, s, e)) in
        omega (arith, q, f)
