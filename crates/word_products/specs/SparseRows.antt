-- Rows over the words of which only some entries are written, and what they do to rows of which all are.
use Rattle.std.specs.Prelude.{ℕ, ◌≡◌, ◌≢◌, ◌<◌, ◌≤◌, ◌+◌, ◌*◌, ◌-◌, List, [], ◌∷◌, length, take, drop, All, Contains, slice_index, slice_index_or, slice_set, if◌then◌else◌, ◌==◌, ◌&&◌, nat_lt, Bool}
use Rattle.linear_algebra.specs.Field.{Gf, order, add, mul}
use Rattle.linear_algebra.specs.Sums.{sum_to}
use Rattle.linear_algebra.specs.Rows.{list_of, IsRow}
use Rattle.word_products.specs.declared.sparse.Entry.{Entry}
use Rattle.quiver_paths.specs.declared.Path.{Path}
use Rattle.quiver_paths.specs.Path.{path_length}
use Rattle.path_algebra.specs.declared.Term.{Term}
use Rattle.path_algebra.specs.Elements.{sum_over}

-- an element of the field at one of so many places
pub record IsEntry (q : Gf) (width : ℕ) (e : Entry) : Type 0 where
  pub small : e.coef < order q
  pub inside : e.word < width

-- the sum of the entries that stand at a place
unfoldable pub entry_at : Gf → List Entry → ℕ → ℕ
entry_at q entries j = sum_over q entries (λ e. if e.word == j then e.coef else 0)

-- the row with all entries written
unfoldable pub dense_row : Gf → ℕ → List Entry → List ℕ
dense_row q n entries = list_of n (entry_at q entries)

-- a row, and a multiple of a sparse row added
unfoldable pub with_multiple : Gf → ℕ → List Entry → List ℕ → List ℕ
with_multiple q factor entries row = list_of (length row) (λ j. add q (slice_index row j) (mul q factor (entry_at q entries j)))

-- The sum of sparse rows with the first k coefficients of a row: of those for arrow a, where each word has one for each of `arrows` arrows.
unfoldable pub acted_to : Gf → List (List Entry) → ℕ → ℕ → List ℕ → ℕ → List ℕ
acted_to q rows arrows a row k = list_of (length row) (λ j. sum_to q k (λ i. mul q (slice_index row i) (entry_at q (slice_index_or rows (i * arrows + a) []) j)))

-- with all coefficients: what the arrow makes of the row
abbrev pub acted_by : Gf → List (List Entry) → ℕ → ℕ → List ℕ → List ℕ
acted_by q rows arrows a row = acted_to q rows arrows a row (length row)

-- the same for arrows one behind the other
unfoldable pub acted_along : Gf → List (List Entry) → ℕ → List ℕ → List ℕ → List ℕ
acted_along q rows arrows [] row = row
acted_along q rows arrows (a ∷ path) row = acted_along q rows arrows path (acted_by q rows arrows a row)

-- where the row with this number begins, where rows end at these places
abbrev pub begin_of : List ℕ → ℕ → ℕ
begin_of ends k = slice_index (0 ∷ ends) k

-- the row with this number
unfoldable pub piece : {X : Type 0} → List ℕ → List X → ℕ → List X
piece ends entries k = take (slice_index ends k - begin_of ends k) (drop (begin_of ends k) entries)

-- the rows that end at these places
unfoldable pub pieces : {X : Type 0} → List ℕ → List X → List (List X)
pieces ends entries = list_of (length ends) (piece ends entries)

-- rows end one behind the other
pub record HoldsSparse (q : Gf) (width : ℕ) (ends : List ℕ) (entries : List Entry) : Type 0 where
  pub ascending : (k : ℕ) → k < length ends → begin_of ends k ≤ slice_index ends k
  pub inside : (k : ℕ) → slice_index ends k ≤ length entries
  pub last : begin_of ends (length ends) ≡ length entries
  pub small : All (IsEntry q width) entries

-- what contracts see of sparse rows
pub record SparseView : Type 0 where
  pub field : Gf
  pub width : ℕ
  pub rows : List (List Entry)

-- a row, and a multiple of another row added
unfoldable pub plus_multiple : Gf → ℕ → List ℕ → List ℕ → List ℕ
plus_multiple q factor from row = list_of (length row) (λ j. add q (slice_index row j) (mul q factor (slice_index from j)))

-- the term is shorter than the bound, and starts and ends where the path does
unfoldable pub counts : ℕ → Path → Term → Bool
counts bound like term = nat_lt (path_length term.path) bound && ((term.path.start == like.start) && (term.path.end == like.end))

-- the sum of what the terms make of a row, where arrows act one behind the other; terms that do not count are left out
unfoldable pub acted_terms : Gf → List (List Entry) → ℕ → ℕ → Path → List Term → List ℕ → List ℕ
acted_terms q rows arrows bound like terms row = list_of (length row) (λ j. sum_over q terms (λ term.
    if counts bound like term then mul q term.coef (slice_index (acted_along q rows arrows term.path.arrows row) j) else 0))

-- what contracts see of a row beside a list of places: of the list how long it is
pub record TouchedView : Type 0 where
  pub field : Gf
  pub width : ℕ
  pub row : List ℕ
  pub listed : ℕ

-- each place at which the row is not zero is listed
pub record HoldsTouched (q : Gf) (width : ℕ) (row places : List ℕ) : Type 0 where
  pub row_is : IsRow q width row
  pub inside : All (λ p. p < width) places
  pub listed : (j : ℕ) → slice_index row j ≢ 0 → Contains places j

-- it is a row of this width over this field
pub record IsRowOver (q : Gf) (width : ℕ) (t : TouchedView) : Type 0 where
  pub field_is : t.field ≡ q
  pub width_is : t.width ≡ width
  pub row_is : IsRow q width t.row

-- the coefficient at a place is taken out, and zero left there
pub record IsTakenOut (old new : TouchedView) (e : Entry) : Type 0 where
  pub entry : IsEntry old.field old.width e
  pub coef_is : e.coef ≡ slice_index old.row e.word
  pub left : new.row ≡ slice_set old.row e.word 0
  pub fewer : new.listed < old.listed

-- what contracts see of the rows that sums are made in
pub record SumView : Type 0 where
  pub field : Gf
  pub width : ℕ
  pub sum : List ℕ

-- all are rows of one width
pub record HoldsSum (q : Gf) (width : ℕ) (sum row spare : TouchedView) : Type 0 where
  pub sum_is : IsRowOver q width sum
  pub row_is : IsRowOver q width row
  pub spare_is : IsRowOver q width spare
