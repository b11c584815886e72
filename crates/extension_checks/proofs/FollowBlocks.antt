-- The coordinates of the values of generators, one generator after another.
use Rattle.std.proofs.Common.{ℕ, ◌≡◌, ◌<◌, ◌≤◌, ◌+◌, List, length, get_or, refl, sym, ap, ◌∙◌, arith, subst, add-one}
use Rattle.std.specs.Prelude.{slice_index, slice_index_or}
use Rattle.std.proofs.lemmas.Grind.{get_or_default_zero}
use Rattle.linear_algebra.specs.BlockFamilies.{total}
use Rattle.linear_algebra.proofs.BlockFamilies.{total_grows}
use Rattle.quiver_paths.specs.declared.Path.{Path}
use Rattle.quiver_paths.specs.Quiver.{vertex_count}
use Rattle.path_algebra.specs.declared.Header.{Header}
use Rattle.alg_table.specs.TableView.{IsTable}
use Rattle.bound_algebra.specs.TypedPaths.{quiver_of}
use Rattle.module_types.specs.declared.Module.{Module}
use Rattle.module_types.specs.declared.TermRows.{TermRows}
use Rattle.module_types.specs.declared.Side.{Side}
use Rattle.module_types.specs.declared.Side.TheVariants.{Right, Left}
use Rattle.module_types.specs.Algebras.{algebra_at}
use Rattle.module_types.specs.Readings.{read}
use Rattle.module_types.specs.Shapes.{IsModule}
use Rattle.module_types.specs.TermCoordinates.{coordinates}
use Rattle.module_checks.proofs.HomRank.{dim_at-is}
use Rattle.term_rows.specs.SumDims.{AreVertices}
use Rattle.term_rows.proofs.ModuleSteps.{dim_of_side}
use Rattle.fp_linear.specs.Slices.{IsWritten, copied}
use Rattle.extension_checks.specs.Asking.{HoldsRows, IsColumnWritten}
use Rattle.extension_checks.specs.Following.{HoldsValue, IsTermOver, value_dims, following, row_entries, column_entries}
use Rattle.extension_checks.proofs.Lines.{holds-column, holds-part}

pub next_is_vertex : (h : Header) (words : List Path) (side : Side) (first next : TermRows) → IsTermOver h words side first next → AreVertices h next.vertices
next_is_vertex h words side first next T = record { declared = T.shape.declared }

side_vertices : (side : Side) (h : Header) → (algebra_at side h).quiver.vertices ≡ vertex_count h.quiver
side_vertices Right h = refl
side_vertices Left h = refl

module _ (h : Header) (words : List Path) (b : Module) where
  -- the vertices of a term have dimensions
  pub dims_inside : IsModule h.field (algebra_at b.side h).quiver b → (term : TermRows) (j v : ℕ) → AreVertices h term.vertices → j < length term.vertices → v ≡ slice_index_or term.vertices j v → v < length b.dims
  dims_inside M term j v V l e =
      let c = V.declared j l in
      let s = side_vertices b.side h in
      let d = M.counted in
      let f : v ≡ get_or term.vertices j 0 = e ∙ get_or_default_zero term.vertices j v l in
      omega (arith, c, s, d, f)

  pub dims_read : IsModule h.field (algebra_at b.side h).quiver b → (term : TermRows) (j v d : ℕ) → AreVertices h term.vertices → j < length term.vertices → v ≡ slice_index_or term.vertices j v → d ≡ slice_index_or b.dims v d
      → d ≡ value_dims h words b term j
  dims_read M term j v d V l e f =
      let u = get_or term.vertices j 0 in
      f ∙ get_or_default_zero b.dims v d (dims_inside M term j v V l e) ∙ ap (slice_index b.dims) (e ∙ get_or_default_zero term.vertices j v l)
      ∙ sym (dim_at-is (quiver_of h.quiver) b.dims u (V.declared j l)) ∙ sym (dim_of_side b.side h b.dims u)

  -- coordinates go on from generator to generator
  pub place_next : (term : TermRows) (j at count : ℕ) → at ≡ total j (value_dims h words b term) → count ≡ value_dims h words b term j → at + count ≡ total (j + 1) (value_dims h words b term)
  place_next term j at count e d =
      let s : total (j + 1) (value_dims h words b term) ≡ total j (value_dims h words b term) + value_dims h words b term j = rw add-one refl in
      omega (arith, e, d, s)

  pub place_inside : (term : TermRows) (j at count n : ℕ) → j < length term.vertices → at ≡ total j (value_dims h words b term) → count ≡ value_dims h words b term j → n ≡ coordinates (read h b) term → at + count ≤ n
  place_inside term j at count n l e d f =
      let g = total_grows (value_dims h words b term) (length term.vertices) j l in
      omega (arith, e, d, f, g)

  -- one coordinate more of a block of equations
  pub column_next : (t : IsTable h words) (first next : TermRows) (i j c at height n : ℕ) (sum old new : List ℕ) → at ≡ total j (value_dims h words b first) → height ≡ value_dims h words b next i
      → HoldsRows n (column_entries h words b t first next) (total i (value_dims h words b next)) height (at + c) old → HoldsValue h words b t first next j c i sum → IsColumnWritten n (at + c) height (slice_index sum) old new
      → HoldsRows n (column_entries h words b t first next) (total i (value_dims h words b next)) height (at + (c + 1)) new
  column_next t first next i j c at height n sum old new e d f v w =
      let a : at + c + 1 ≡ at + (c + 1) = omega arith in
      subst (λ p. HoldsRows n (column_entries h words b t first next) (total i (value_dims h words b next)) height p new) a
      (holds-column n (column_entries h words b t first next) (total i (value_dims h words b next)) height (at + c) (slice_index sum) old new f w
      (λ z l. v.at z (omega (arith, l, d)) ∙ ap (λ p. (following h words b t first next).at (p + c) (total i (value_dims h words b next) + z)) (sym e)))

  -- one generator more of a line
  pub part_next : (t : IsTable h words) (first next : TermRows) (i j c at count n : ℕ) (sum old new : List ℕ) → at ≡ total i (value_dims h words b next) → count ≡ value_dims h words b next i
      → HoldsRows n (row_entries h words b t first next) (total j (value_dims h words b first) + c) 1 at old → HoldsValue h words b t first next j c i sum → IsWritten old new at count (copied 0 sum)
      → HoldsRows n (row_entries h words b t first next) (total j (value_dims h words b first) + c) 1 (at + count) new
  part_next t first next i j c at count n sum old new e d f v w =
      holds-part n (row_entries h words b t first next) (total j (value_dims h words b first) + c) at count sum old new f w
      (λ z l. v.at z (omega (arith, l, d)) ∙ ap (λ p. (following h words b t first next).at (total j (value_dims h words b first) + c) (p + z)) (sym e))
