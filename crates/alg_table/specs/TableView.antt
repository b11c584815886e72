-- What contracts see of a table, and what it keeps.
use Rattle.std.specs.Prelude.{ℕ, ◌≡◌, ◌≤◌, ◌*◌, List, length}
use Rattle.quiver_paths.specs.declared.Path.{Path}
use Rattle.path_algebra.specs.declared.Header.{Header}
use Rattle.path_algebra.specs.Allowed.{IsAllowed}
use Rattle.path_algebra.specs.Words.{AreNormalWords, IsBasis}
use Rattle.quiver_paths.specs.Quiver.{vertex_count}
use Rattle.word_products.specs.SparseRows.{SparseView}
use Rattle.alg_table.specs.NormalForm.{AreRightProducts, GiveNormalForms}
use Rattle.alg_table.specs.WordPlaces.{ArePlaceLists}

-- the header that the table was made for, and its words
pub record TableView : Type 0 where
  pub header : Header
  pub words : List Path

-- the words are the normal words of the header's ideal, in ascending order, and a basis of the quotient
pub record IsTable (h : Header) (words : List Path) : Type 0 where
  pub allowed : IsAllowed h
  pub few : length words ≤ 4096
  pub normal : AreNormalWords h words
  pub basis : IsBasis h words

-- the rows are those of the products of the words with the arrows behind them
pub record AreTableRows (h : Header) (words : List Path) (rows : SparseView) : Type 0 where
  pub field_is : rows.field ≡ h.field
  pub width_is : rows.width ≡ length words
  pub products : AreRightProducts h words rows.rows
  pub forms : GiveNormalForms h words rows.rows

-- what a table keeps of its fields
pub record HoldsTable (h : Header) (words : List Path) (rows : SparseView) (places : List (List ℕ)) : Type 0 where
  pub table : IsTable h words
  pub rows_are : AreTableRows h words rows
  pub places_are : ArePlaceLists words (vertex_count h.quiver) places
  pub places_count : length places ≡ vertex_count h.quiver * vertex_count h.quiver
