-- What acts as zero on the words, and the images of the trivial words under paths of one length.
use Rattle.std.specs.Prelude.{ℕ, ◌≡◌, ◌<◌, ◌+◌, ◌*◌, List, [], length, Contains, slice_index, slice_index_or}
use Rattle.linear_algebra.specs.Field.{Gf, order}
use Rattle.linear_algebra.specs.Rows.{IsRow, IsInSpan}
use Rattle.quiver_paths.specs.declared.Path.{Path}
use Rattle.quiver_paths.specs.Quiver.{vertex_count, arrow_count}
use Rattle.quiver_paths.specs.Path.{IsPath, Leads, path_length, trivial_path}
use Rattle.path_algebra.specs.declared.Relation.{Relation}
use Rattle.path_algebra.specs.declared.Header.{Header}
use Rattle.path_algebra.specs.declared.rules.Rule.{Rule}
use Rattle.path_algebra.specs.Elements.{path_element}
use Rattle.path_algebra.specs.Rows.{RowsView, path_at, row_of}
use Rattle.path_algebra.specs.Reduction.{IsReduction, act_arrows, act_terms}
use Rattle.word_products.specs.SparseRows.{SparseView, acted_by}
use Rattle.word_products.specs.WordProducts.{KnowsProducts}

-- the sparse rows are those of all products
pub record AreAllProducts (h : Header) (words : List Path) (rules : List Rule) (s : SparseView) : Type 0 where
  pub field_is : s.field ≡ h.field
  pub width_is : s.width ≡ length words
  pub count : length s.rows ≡ length words * arrow_count h.quiver
  pub known : KnowsProducts h words rules s.rows

-- the relation acts as zero on a word
abbrev pub VanishesOn : Header → List Path → (Path → Path → ℕ) → Relation → Path → Type 0
VanishesOn h words becomes relation w = (r : Path) → act_terms h becomes words relation.terms (path_element h.bound w) r ≡ 0

-- on all words
pub record RelationVanishes (h : Header) (words : List Path) (becomes : Path → Path → ℕ) (relation : Relation) : Type 0 where
  pub vanishes : (w : Path) → Contains words w → VanishesOn h words becomes relation w

-- all relations do
pub record RelationsVanish (h : Header) (words : List Path) (becomes : Path → Path → ℕ) : Type 0 where
  pub relations : (relation : Relation) → Contains h.relations relation → RelationVanishes h words becomes relation

-- the paths of the bound's length act as zero on all words
pub record LongVanish (h : Header) (words : List Path) (becomes : Path → Path → ℕ) : Type 0 where
  pub long : (p : Path) → IsPath h.quiver p → path_length p ≡ h.bound → (w : Path) → Contains words w → (r : Path)
      → act_arrows h becomes words p.arrows (path_element h.bound w) r ≡ 0

-- a row of an element that arrows take to zero that are, behind k others, as many as the bound
pub record IsVanishingRow (h : Header) (words : List Path) (becomes : Path → Path → ℕ) (k : ℕ) (x : List ℕ) : Type 0 where
  pub element : Path → ℕ
  pub small : (r : Path) → element r < order h.field
  pub outside : (r : Path) → (Contains words r → ⊥) → element r ≡ 0
  pub row : row_of words element ≡ x
  pub vanishes : (ys : List ℕ) (u w : ℕ) → Leads h.quiver u ys w → k + length ys ≡ h.bound → (r : Path) → act_arrows h becomes words ys element r ≡ 0

-- all combinations of the rows are such
pub record RowsVanish (h : Header) (words : List Path) (becomes : Path → Path → ℕ) (k : ℕ) (rows : List (List ℕ)) : Type 0 where
  pub elements : (x : List ℕ) → IsInSpan h.field (length words) rows x → IsVanishingRow h words becomes k x

-- The rows span the images of the trivial words under the paths of length k: all of these are combinations of the rows, and where paths of the
-- bound's length act as zero, the rows are no more.
pub record AreImages (h : Header) (words : List Path) (becomes : Path → Path → ℕ) (k : ℕ) (rows : List (List ℕ)) : Type 0 where
  pub has : (v w : ℕ) (xs : List ℕ) → v < vertex_count h.quiver → Leads h.quiver v xs w → length xs ≡ k
      → IsInSpan h.field (length words) rows (row_of words (act_arrows h becomes words xs (path_element h.bound (trivial_path v))))
  pub vanish : LongVanish h words becomes → RowsVanish h words becomes k rows

-- the collected rows are such
pub record SpansImages (h : Header) (words : List Path) (rules : List Rule) (k : ℕ) (span : RowsView) : Type 0 where
  pub field_is : span.field ≡ h.field
  pub columns_are : span.columns ≡ length words
  pub images : (becomes : Path → Path → ℕ) → IsReduction h rules becomes → AreImages h words becomes k span.rows

-- the trivial words among the first i span the collected rows
pub record AreTrivialRows (h : Header) (words : List Path) (becomes : Path → Path → ℕ) (i : ℕ) (rows : List (List ℕ)) : Type 0 where
  pub has : (j : ℕ) → j < i → path_length (path_at words j) ≡ 0 → IsInSpan h.field (length words) rows (row_of words (path_element h.bound (path_at words j)))
  pub vanish : LongVanish h words becomes → RowsVanish h words becomes 0 rows

pub record SpansTrivial (h : Header) (words : List Path) (rules : List Rule) (i : ℕ) (span : RowsView) : Type 0 where
  pub field_is : span.field ≡ h.field
  pub columns_are : span.columns ≡ length words
  pub rows : (becomes : Path → Path → ℕ) → IsReduction h rules becomes → AreTrivialRows h words becomes i span.rows

-- The first m images of the rows under the arrows, row by row and arrow by arrow, are in the span, and where the rows vanish behind k arrows,
-- these do behind one more.
pub record HasImages (h : Header) (words : List Path) (rules : List Rule) (products : SparseView) (k : ℕ) (old : List (List ℕ)) (m : ℕ) (span : RowsView) : Type 0 where
  pub field_is : span.field ≡ h.field
  pub columns_are : span.columns ≡ length words
  pub has : (i a : ℕ) → i < length old → a < arrow_count h.quiver → i * arrow_count h.quiver + a < m
      → (length (slice_index_or old i []) ≡ length words) × IsInSpan h.field (length words) span.rows (acted_by h.field products.rows (arrow_count h.quiver) a (slice_index_or old i []))
  pub vanish : (becomes : Path → Path → ℕ) → IsReduction h rules becomes → RowsVanish h words becomes k old → RowsVanish h words becomes (k + 1) span.rows

-- the row at a place among the collected rows
pub record IsRowAt (span : RowsView) (i : ℕ) (x : List ℕ) : Type 0 where
  pub value : x ≡ slice_index_or span.rows i []
  pub row : IsRow span.field span.columns x
  pub in_span : IsInSpan span.field span.columns span.rows x

-- all combinations of the rows are zero
pub record AreZero (q : Gf) (n : ℕ) (rows : List (List ℕ)) : Type 0 where
  pub zero_at : (x : List ℕ) → IsInSpan q n rows x → (j : ℕ) → slice_index x j ≡ 0
