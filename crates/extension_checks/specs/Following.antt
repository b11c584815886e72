-- The values of a homomorphism from a term of a resolution to a module behind the map from the next term, over the words of a table: where one coordinate
-- is 1 and the others are zero. (Assem, Simson, Skowroński, volume 1, chapter III, 2, and appendix A, 4.)
use Rattle.std.specs.Prelude.{ℕ, suc, ◌≡◌, ◌<◌, ◌≤◌, ◌+◌, List, length, slice_index}
use Rattle.linear_algebra.specs.Field.{add, mul}
use Rattle.linear_algebra.specs.Matrix.{Mat, delta}
use Rattle.linear_algebra.specs.BlockFamilies.{total}
use Rattle.quiver_paths.specs.declared.Path.{Path}
use Rattle.path_algebra.specs.declared.Header.{Header}
use Rattle.path_algebra.specs.Rows.{path_at}
use Rattle.alg_table.specs.TableView.{IsTable}
use Rattle.bound_tables.specs.TableSides.{table_sides}
use Rattle.module_types.specs.declared.Module.{Module}
use Rattle.module_types.specs.declared.TermRows.{TermRows}
use Rattle.module_types.specs.Algebras.{sided_words}
use Rattle.module_types.specs.Readings.{read}
use Rattle.module_types.specs.TermMatrices.{vertex}
use Rattle.module_types.specs.TermCoordinates.{coordinates, follow_matrix}
use Rattle.module_checks.specs.RowWalks.{along_all}
use Rattle.term_rows.specs.RowSteps.{combined}
use Rattle.bound_algebra.specs.TypedPaths.{quiver_of}
use Rattle.module_types.specs.declared.Side.{Side}
use Rattle.module_types.specs.Shapes.{IsTerm}
use Rattle.claim_conditions.specs.Terms.{term_at}
use Rattle.term_rows.specs.SumDims.{sum_dim, AreVertices, IsRoomFor}
use Rattle.resolution_checks.specs.Room.{most_dimension}

-- `next` is a term over the sum of projective modules of `first`, which has at each vertex at most the largest dimension
pub record IsTermOver (h : Header) (words : List Path) (side : Side) (first next : TermRows) : Type 0 where
  pub declared : AreVertices h first.vertices
  pub shape : IsTerm h.field (quiver_of h.quiver) (sum_dim words side first.vertices) next
  pub small : IsRoomFor h (sum_dim words side first.vertices) most_dimension

-- So are the terms up to n + 1, each over the one before.
pub record AreTermsOver (h : Header) (words : List Path) (side : Side) (terms : List TermRows) (n : ℕ) : Type 0 where
  pub counted : suc n < length terms
  pub each : (k : ℕ) → k ≤ n → IsTermOver h words side (term_at terms k) (term_at terms (suc k))

-- a slice is the unit row c, with zeros behind it
pub record IsUnitRow (c : ℕ) (s : List ℕ) : Type 0 where
  pub at : (j : ℕ) → slice_index s j ≡ delta c j

module _ (h : Header) (words : List Path) (b : Module) where
  -- entry c, z of the matrix of the word at a place
  abbrev pub word_entry : (word c z : ℕ) → ℕ
  word_entry word c z = along_all (read h b) b.side (path_at words word).arrows (delta c) z

  -- a multiple of row c of the matrix of a word has been added
  pub record IsWordAdded (word c factor : ℕ) (old new : List ℕ) : Type 0 where
    pub at : (z : ℕ) → slice_index new z ≡ add h.field (slice_index old z) (mul h.field factor (word_entry word c z))

  -- a slice holds the sum of the rows c of the matrices of the words at the first n of some places, each times the number of `image` at its place from
  -- `from` on
  pub record HoldsWords (image : List ℕ) (from : ℕ) (places : List ℕ) (n c : ℕ) (s : List ℕ) : Type 0 where
    pub at : (z : ℕ) → slice_index s z ≡ combined h.field image from (λ p. word_entry (slice_index places p) c) n z

  -- how many coordinates the value of a generator has
  abbrev pub value_dims : TermRows → ℕ → ℕ
  value_dims term j = (read h b).dim (vertex term j)

  module _ (t : IsTable h words) (first next : TermRows) where
    -- the matrix of following
    abbrev pub following : Mat h.field (coordinates (read h b) first) (coordinates (read h b) next)
    following = follow_matrix (sided_words b.side (table_sides h words t)).words (read h b) first next

    -- its rows, and its columns
    abbrev pub row_entries : ℕ → ℕ → ℕ
    row_entries k l = following.at k l

    abbrev pub column_entries : ℕ → ℕ → ℕ
    column_entries l k = following.at k l

    -- a slice holds what coordinate c of the value of generator j gives to the value of generator i of the next term
    pub record HoldsValue (j c i : ℕ) (s : List ℕ) : Type 0 where
      pub at : (z : ℕ) → z < value_dims next i → slice_index s z ≡ following.at (total j (value_dims first) + c) (total i (value_dims next) + z)
