-- Coordinates of the classes of paths over the words, and the products of words with arrows in them.
use Rattle.std.specs.Prelude.{ℕ, ◌≡◌, ◌≢◌, ◌<◌, ◌≤◌, ◌+◌, ◌*◌, List, [], length, slice_index_or}
use Rattle.linear_algebra.specs.Rows.{zeros, unit}
use Rattle.quiver_paths.specs.declared.Path.{Path}
use Rattle.quiver_paths.specs.Quiver.{arrow_count, source}
use Rattle.quiver_paths.specs.Path.{IsPath, Meets, path_length, concat, trivial_path, arrow_path}
use Rattle.path_algebra.specs.declared.Header.{Header}
use Rattle.word_products.specs.declared.sparse.Entry.{Entry}
use Rattle.path_algebra.specs.Rows.{path_at}
use Rattle.path_algebra.specs.Words.{IsExpansion}
use Rattle.word_products.specs.SparseRows.{dense_row, acted_along}
use Rattle.alg_table.specs.declared.table.Side.{Side}
use Rattle.alg_table.specs.declared.table.Side.TheVariants.{Right, Left}

-- the coordinates of a path's class: those of its one expansion, and zeros where its length is the bound or more
pub record IsNormalForm (h : Header) (words : List Path) (p : Path) (c : List ℕ) : Type 0 where
  pub short : path_length p < h.bound → IsExpansion h words p c
  pub long : h.bound ≤ path_length p → c ≡ zeros (length words)

-- the rows are those of the words with the arrows behind them: the normal form of the path, and zeros where they do not meet
pub record AreRightProducts (h : Header) (words : List Path) (rows : List (List Entry)) : Type 0 where
  pub meeting : (i a : ℕ) → i < length words → a < arrow_count h.quiver → (path_at words i).end ≡ source h.quiver a
      → IsNormalForm h words (concat (path_at words i) (arrow_path h.quiver a)) (dense_row h.field (length words) (slice_index_or rows (i * arrow_count h.quiver + a) []))
  pub apart : (i a : ℕ) → i < length words → a < arrow_count h.quiver → (path_at words i).end ≢ source h.quiver a
      → dense_row h.field (length words) (slice_index_or rows (i * arrow_count h.quiver + a) []) ≡ zeros (length words)

-- the row has the coordinates of the product of two paths: the normal form of the one and then the other, and zeros where they do not meet
pub record IsProductOf (h : Header) (words : List Path) (p r : Path) (row : List ℕ) : Type 0 where
  pub meeting : Meets p r → IsNormalForm h words (concat p r) row
  pub apart : (Meets p r → ⊥) → row ≡ zeros (length words)

-- the row of word·arrow for `Right`, and of arrow·word for `Left`
abbrev pub IsProduct : Header → List Path → Side → Path → ℕ → List ℕ → Type 0
IsProduct h words Right word arrow row = IsProductOf h words word (arrow_path h.quiver arrow) row
IsProduct h words Left word arrow row = IsProductOf h words (arrow_path h.quiver arrow) word row

-- the arrows of each path make of the row of the trivial word where it starts the path's normal form
abbrev pub GiveNormalForms : Header → List Path → List (List Entry) → Type 0
GiveNormalForms h words rows = (p : Path) → IsPath h.quiver p → (place : ℕ) → place < length words → path_at words place ≡ trivial_path p.start
    → IsNormalForm h words p (acted_along h.field rows (arrow_count h.quiver) p.arrows (unit (length words) place))
