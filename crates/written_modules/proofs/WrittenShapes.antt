-- What is written has the shape of a module, and of a map.
use Rattle.std.proofs.Common.{ℕ, zero, ◌≡◌, ◌<◌, ◌≤◌, ◌*◌, Bool, true, false, List, [], length, get_or, refl, sym, ap, ap₂, ◌∙◌, subst, arith, mul-le-mul_right, ltb, cond}
use Rattle.std.specs.Prelude.{slice_index, slice_index_or, ◌&&◌, Option}
use Rattle.std.proofs.lemmas.List.{get_or_default, length-map}
use Rattle.std.proofs.lemmas.Grind.{get_or_default_zero}
use Rattle.linear_algebra.specs.Field.{Gf}
use Rattle.linear_algebra.proofs.Rows.{length-list_of, get_or-list_of}
use Rattle.fp_linear.specs.Matrix.{PlainMatrix, most_entries}
use Rattle.quiver_paths.specs.Quiver.{vertex_count, arrow_count}
use Rattle.path_algebra.specs.declared.Header.{Header}
use Rattle.representations.specs.Quiver.{Quiver}
use Rattle.bound_algebra.specs.TypedPaths.{quiver_of}
use Rattle.module_types.specs.declared.Side.{Side}
use Rattle.module_types.specs.declared.Side.TheVariants.{Right, Left}
use Rattle.module_types.specs.declared.Module.{Module}
use Rattle.module_types.specs.Algebras.{algebra_at}
use Rattle.module_types.specs.Readings.{dim_at, read, read_beside, family_of}
use Rattle.module_types.specs.Shapes.{HasShape, AreMatrices, IsModule, IsMap, dimension, most_dimension}
use Rattle.module_checks.proofs.Sides.{dim_small}
use Rattle.module_faults.specs.MapFaults.{HasMapShape}
use Rattle.report_types.specs.WordDimensions.{dim_of}
use Rattle.script_types.specs.declared.AtLine.{AtLine}
use Rattle.report_types.specs.declared.reports.Why.{Why}
use Rattle.report_types.specs.declared.reports.Why.TheVariants as why
use Rattle.script_answers.specs.FirstTests.{unless, all_different}
use Rattle.script_answers.specs.Refusals.{map_shape, map_holds, rep_holds}
use Rattle.script_answers.specs.ZeroTests.{commutes}
use Rattle.script_answers.specs.Written.{arrow_names, vertex_names, line_names, rows_at_name, rows_fit, matrix_or_zero, matrices_at, lines_fit, rows_from, columns_to, rep_written, map_written}
use Rattle.written_modules.specs.Lines.{HoldRows, AreSmall}
use Rattle.written_modules.specs.Tests.{StopsFor}
use Rattle.written_modules.specs.declared.stops.Stop.{Stop}
use Rattle.written_modules.proofs.Counts.{dims_are}
use Rattle.written_modules.proofs.Fitting.{rows_fit_at, rows_hold_at}
use Rattle.written_modules.proofs.Rows.{shape_of}

-- two counts of at most 256
pub few_entries : (m n : ℕ) → m ≤ 256 → n ≤ 256 → m * n ≤ most_entries
few_entries m n a b = let c = mul-le-mul_right n a in omega (arith, b, c)

pub matrices_shape : (q : Gf) (names : List (List ℕ)) (m n : ℕ → ℕ) (lines : List AtLine) (count : ℕ) → length names ≡ count → ((i : ℕ) → m i ≤ 256) → ((i : ℕ) → n i ≤ 256) → HoldRows q lines → lines_fit names m n lines ≡ true
    → AreMatrices q count m n (matrices_at q names m n lines)
matrices_shape q names m n lines count counted a b all fit =
    let f = λ (i : ℕ). matrix_or_zero q (m i) (n i) (rows_at_name lines (slice_index_or names i [])) in
    record {
      counted = length-list_of (length names) f ∙ counted;
      each = λ i d l. subst (HasShape q (m i) (n i)) (sym (get_or-list_of (length names) f i d (omega (arith, l, counted))))
          (shape_of q (m i) (n i) (rows_at_name lines (slice_index_or names i [])) (few_entries (m i) (n i) (a i) (b i)) (rows_fit_at names m n lines fit i (omega (arith, l, counted))) (rows_hold_at q lines all (slice_index_or names i [])));
    }

-- counts that are those of functions
pub fit_by : (names : List (List ℕ)) (m n : ℕ → ℕ) (rows cols : List ℕ) (lines : List AtLine) → slice_index rows ≡ m → slice_index cols ≡ n → lines_fit names (slice_index rows) (slice_index cols) lines ≡ lines_fit names m n lines
fit_by names m n rows cols lines a b = ap₂ (λ (m n : ℕ → ℕ). lines_fit names m n lines) a b

pub matrices_by : (q : Gf) (names : List (List ℕ)) (m n : ℕ → ℕ) (rows cols : List ℕ) (lines : List AtLine) → slice_index rows ≡ m → slice_index cols ≡ n → matrices_at q names (slice_index rows) (slice_index cols) lines ≡ matrices_at q names m n lines
matrices_by q names m n rows cols lines a b = ap₂ (λ (m n : ℕ → ℕ). matrices_at q names m n lines) a b

-- dimensions are small
pub dim_at_small : (Q : Quiver) (dims : List ℕ) → dimension dims ≤ most_dimension → (v : ℕ) → dim_at Q dims v ≤ 256
unfolding dim_at
dim_at_small Q dims small v = chosen (ltb v Q.vertices)
  where
    chosen : (b : Bool) → cond b (slice_index dims v) zero ≤ 256
    chosen true = dim_small dims small v
    chosen false = omega arith

pub rep_shape_is : (h : Header) (dims : List ℕ) (lines : List AtLine) → length dims ≡ vertex_count h.quiver → dimension dims ≤ most_dimension → HoldRows h.field lines
    → lines_fit (arrow_names h) (rows_from h dims) (columns_to h dims) lines ≡ true → IsModule h.field (quiver_of h.quiver) (rep_written h dims lines)
rep_shape_is h dims lines counted small all fit = record {
  counted = counted;
  small = small;
  matrices = matrices_shape h.field (arrow_names h) (rows_from h dims) (columns_to h dims) lines (arrow_count h.quiver) (length-map h.quiver.arrows _) (λ a. dim_at_small (quiver_of h.quiver) dims small _) (λ a. dim_at_small (quiver_of h.quiver) dims small _) all fit;
}

map_at_side : (side : Side) (h : Header) (a b : Module) (matrices : List PlainMatrix) → AreMatrices h.field (vertex_count h.quiver) (dim_of h a) (dim_of h b) matrices → IsMap h.field (algebra_at side h).quiver a b matrices
unfolding dim_at
map_at_side Right h a b matrices s = s
map_at_side Left h a b matrices s = s

pub map_shape_is : (h : Header) (a b : Module) (lines : List AtLine) → dimension a.dims ≤ most_dimension → dimension b.dims ≤ most_dimension → HoldRows h.field lines
    → lines_fit (vertex_names h) (dim_of h a) (dim_of h b) lines ≡ true → HasMapShape h a b (map_written h a b lines)
map_shape_is h a b lines small few all fit =
    map_at_side a.side h a b (map_written h a b lines)
    (matrices_shape h.field (vertex_names h) (dim_of h a) (dim_of h b) lines (vertex_count h.quiver) refl (dim_at_small (quiver_of h.quiver) a.dims small) (dim_at_small (quiver_of h.quiver) b.dims few) all fit)

-- so many counts of a quiver of a side
pub vertices_at : (side : Side) (h : Header) → (algebra_at side h).quiver.vertices ≡ vertex_count h.quiver
vertices_at Right h = refl
vertices_at Left h = refl

-- the matrix at name i, by lists of counts
abbrev pub matrix_named : Gf → List (List ℕ) → List ℕ → List ℕ → List AtLine → ℕ → PlainMatrix
matrix_named q names rows cols lines i = matrix_or_zero q (slice_index rows i) (slice_index cols i) (rows_at_name lines (slice_index_or names i []))

pub named_is : (q : Gf) (names : List (List ℕ)) (rows cols : List ℕ) (lines : List AtLine) (i m n : ℕ) (name : List ℕ) (a : PlainMatrix) → i < length names → length rows ≡ length names → length cols ≡ length names
    → m ≡ slice_index_or rows i m → n ≡ slice_index_or cols i n → name ≡ slice_index_or names i name → a ≡ matrix_or_zero q m n (rows_at_name lines name) → a ≡ matrix_named q names rows cols lines i
named_is q names rows cols lines i m n name a l b c e f g is =
    is ∙ ap₂ (λ m n. matrix_or_zero q m n (rows_at_name lines name)) (e ∙ get_or_default_zero rows i m (omega (arith, l, b))) (f ∙ get_or_default_zero cols i n (omega (arith, l, c)))
    ∙ ap (λ (name : List ℕ). matrix_or_zero q (slice_index rows i) (slice_index cols i) (rows_at_name lines name)) (g ∙ get_or_default names i name [] l)

pub fit_here : (names : List (List ℕ)) (rows cols : List ℕ) (lines : List AtLine) (i m n : ℕ) (name : List ℕ) → i < length names → length rows ≡ length names → length cols ≡ length names
    → m ≡ slice_index_or rows i m → n ≡ slice_index_or cols i n → name ≡ slice_index_or names i name → lines_fit names (slice_index rows) (slice_index cols) lines ≡ true
    → (rows_at_name lines name ≡ [] → ⊥) → rows_fit m n (rows_at_name lines name) ≡ true
fit_here names rows cols lines i m n name l b c e f g fit some =
    let at : name ≡ get_or names i [] = g ∙ get_or_default names i name [] l in
    let row : m ≡ slice_index rows i = e ∙ get_or_default_zero rows i m (omega (arith, l, b)) in
    let col : n ≡ slice_index cols i = f ∙ get_or_default_zero cols i n (omega (arith, l, c)) in
    ap (λ (name : List ℕ). rows_fit m n (rows_at_name lines name)) at ∙ ap₂ (λ m n. rows_fit m n (rows_at_name lines (get_or names i []))) row col
    ∙ rows_fit_at names (slice_index rows) (slice_index cols) lines fit i l (subst (λ (name : List ℕ). rows_at_name lines name ≡ [] → ⊥) at some)

pub size_here : (rows cols : List ℕ) (i m n : ℕ) → AreSmall rows → AreSmall cols → i < length rows → i < length cols → m ≡ slice_index_or rows i m → n ≡ slice_index_or cols i n → m * n ≤ most_entries
size_here rows cols i m n a b l k e f =
    few_entries m n (let r = e ∙ get_or_default_zero rows i m l in let s = a.at i in omega (arith, r, s)) (let r = f ∙ get_or_default_zero cols i n k in let s = b.at i in omega (arith, r, s))

-- counts at arrows are small
pub small_rows : (h : Header) (dims counts : List ℕ) → dimension dims ≤ most_dimension → slice_index counts ≡ rows_from h dims → AreSmall counts
small_rows h dims counts small e = record { at = λ i. subst (λ (f : ℕ → ℕ). f i ≤ 256) (sym e) (dim_at_small (quiver_of h.quiver) dims small _) }

pub small_cols : (h : Header) (dims counts : List ℕ) → dimension dims ≤ most_dimension → slice_index counts ≡ columns_to h dims → AreSmall counts
small_cols h dims counts small e = record { at = λ i. subst (λ (f : ℕ → ℕ). f i ≤ 256) (sym e) (dim_at_small (quiver_of h.quiver) dims small _) }

pub small_dims : (dims : List ℕ) → dimension dims ≤ most_dimension → AreSmall dims
small_dims dims small = record { at = dim_small dims small }

-- ---- answers by lists of counts

pub stops_by : (t r : Option Why) (stop : Stop) → t ≡ r → StopsFor t stop → StopsFor r stop
stops_by t r stop e s = subst (λ t. StopsFor t stop) e s

-- a map by the dimensions of its modules
module _ (h : Header) (a b : Module) (lines : List AtLine) (first : length a.dims ≡ vertex_count h.quiver) (second : length b.dims ≡ vertex_count h.quiver) where
  pub map_fit_is : lines_fit (vertex_names h) (slice_index a.dims) (slice_index b.dims) lines ≡ lines_fit (vertex_names h) (dim_of h a) (dim_of h b) lines
  map_fit_is = fit_by (vertex_names h) (dim_of h a) (dim_of h b) a.dims b.dims lines (dims_are h a first) (dims_are h b second)

  pub map_shape_test : unless (all_different (line_names lines) && lines_fit (vertex_names h) (slice_index a.dims) (slice_index b.dims) lines) why.Shape ≡ map_shape h a b lines
  map_shape_test = ap (λ fit. unless (all_different (line_names lines) && fit) why.Shape) map_fit_is

  pub map_is : matrices_at h.field (vertex_names h) (slice_index a.dims) (slice_index b.dims) lines ≡ map_written h a b lines
  map_is = matrices_by h.field (vertex_names h) (dim_of h a) (dim_of h b) a.dims b.dims lines (dims_are h a first) (dims_are h b second)

-- the test of its squares
pub squares_by : (h : Header) (a b : Module) (lines : List AtLine) (matrices : List PlainMatrix) → matrices ≡ map_written h a b lines
    → commutes (read h a) (read_beside h a b) (family_of (read h a) (read_beside h a b) matrices) ≡ map_holds h a b lines
squares_by h a b lines matrices e = ap (λ matrices. commutes (read h a) (read_beside h a b) (family_of (read h a) (read_beside h a b) matrices)) e

pub map_shape_by : (h : Header) (a b : Module) (matrices other : List PlainMatrix) → matrices ≡ other → HasMapShape h a b other → HasMapShape h a b matrices
map_shape_by h a b matrices other e s = subst (HasMapShape h a b) (sym e) s

-- a module by counts at arrows
pub rep_is : (h : Header) (dims copy rows cols : List ℕ) (names : List (List ℕ)) (lines : List AtLine) (matrices : List PlainMatrix) → copy ≡ dims → names ≡ arrow_names h → slice_index rows ≡ rows_from h dims → slice_index cols ≡ columns_to h dims
    → matrices ≡ matrices_at h.field names (slice_index rows) (slice_index cols) lines → record { side = Right; dims = copy; matrices = matrices } ≡ rep_written h dims lines
rep_is h dims copy rows cols names lines matrices e n a b is =
    ap₂ (λ (dims : List ℕ) (matrices : List PlainMatrix). record { side = Right; dims = dims; matrices = matrices }) e
    (is ∙ ap (λ (names : List (List ℕ)). matrices_at h.field names (slice_index rows) (slice_index cols) lines) n ∙ matrices_by h.field (arrow_names h) (rows_from h dims) (columns_to h dims) rows cols lines a b)

pub rep_fit_is : (h : Header) (dims rows cols : List ℕ) (names : List (List ℕ)) (lines : List AtLine) → names ≡ arrow_names h → slice_index rows ≡ rows_from h dims → slice_index cols ≡ columns_to h dims
    → lines_fit (arrow_names h) (rows_from h dims) (columns_to h dims) lines ≡ true → lines_fit names (slice_index rows) (slice_index cols) lines ≡ true
rep_fit_is h dims rows cols names lines n a b fit =
    ap (λ (names : List (List ℕ)). lines_fit names (slice_index rows) (slice_index cols) lines) n ∙ fit_by (arrow_names h) (rows_from h dims) (columns_to h dims) rows cols lines a b ∙ fit

pub module_by : (h : Header) (m other : Module) → m ≡ other → IsModule h.field (quiver_of h.quiver) other → IsModule h.field (quiver_of h.quiver) m
module_by h m other e s = subst (IsModule h.field (quiver_of h.quiver)) (sym e) s

pub holds_by : (h : Header) (m other : Module) → m ≡ other → rep_holds h m ≡ rep_holds h other
holds_by h m other e = ap (rep_holds h) e
