-- The generators of a term and the canonical ones, place by place: the places without pivot, in order, each with the generator that comes next.
-- (Assem, Simson, Skowroński, volume 1, chapter I, 5, and III, 2.2.)
use Rattle.std.specs.Prelude.{ℕ, zero, ◌<◌, ◌≡◌, ◌+◌, ◌*◌, List, [], length, get_or, slice_index, slice_index_or}
use Rattle.linear_algebra.specs.Field.{Gf}
use Rattle.linear_algebra.specs.Rows.{IsRow}
use Rattle.representations.specs.Quiver.{Quiver}
use Rattle.representations.specs.Rep.{Rep}
use Rattle.projectives.specs.Words.{Words}
use Rattle.projectives.specs.Canonical.{Place, is_among, is_pivot, with_free, free_places}
use Rattle.module_types.specs.declared.TermRows.{TermRows}
use Rattle.module_types.specs.TermMatrices.{count, vertex}
use Rattle.claim_conditions.specs.Terms.{term_at, goes_to}
use Rattle.cover_checks.specs.Covers.{covered_rows, covered_rep, StaysAt, IsChosenIn}
use Rattle.cover_checks.specs.Folds.{IsBasisAt}

abbrev pub no_place : Place
no_place = record { vertex = zero; column = zero }

-- the places without pivot at the vertices before w, and at w in the columns before c
abbrev pub places_before : {q : Gf} {Q : Quiver} → Rep q Q → ℕ → ℕ → List Place
places_before Z w c = with_free Z w c (free_places Z w)

-- the first n numbers of a row are those of row c of a basis with rows of `width` numbers
pub record IsBasisRow (width c : ℕ) (basis image : List ℕ) (n : ℕ) : Type 0 where
  pub at : (i : ℕ) → i < n → slice_index image i ≡ slice_index basis (c * width + i)

-- generator j is printed at w with row c of the basis
pub record IsPrintedRow (term : TermRows) (j w width c : ℕ) (basis : List ℕ) : Type 0 where
  pub counted : j < length term.vertices
  pub vertex_is : slice_index term.vertices j ≡ w
  pub row_is : IsBasisRow width c basis (slice_index_or term.images j []) width

-- as many rows as generators, those at w with `width` numbers
pub record HasWidthAt (term : TermRows) (w width : ℕ) : Type 0 where
  pub counted : length term.images ≡ length term.vertices
  pub widths : (j : ℕ) → j < length term.vertices → slice_index term.vertices j ≡ w → length (slice_index_or term.images j []) ≡ width

module _ {q : Gf} {Q : Quiver} (W : Words q Q) (X : Rep q Q) (terms : List TermRows) (k : ℕ) where
  -- generator j of the term is row c of what the term covers at w
  pub record IsPlacedAt (j w c : ℕ) : Type 0 where
    pub counted : j < count (term_at terms k)
    pub vertex_is : vertex (term_at terms k) j ≡ w
    pub entries_are : (i : ℕ) → i < (goes_to W X terms k).dim w → slice_index (slice_index_or (term_at terms k).images j []) i ≡ (covered_rows W X terms k w).at c i

  -- the places before column c at w are met by the first j generators, in order
  pub record AreMetBefore (w c j : ℕ) : Type 0 where
    pub count_is : j ≡ length (places_before (covered_rep W X terms k) w c)
    pub each : (i : ℕ) → i < j → IsPlacedAt i (get_or (places_before (covered_rep W X terms k) w c) i no_place).vertex (get_or (places_before (covered_rep W X terms k) w c) i no_place).column

  -- the first numbers are the pivots of the radical at w
  pub record ArePivotsAt (w rank : ℕ) (pivots : List ℕ) : Type 0 where
    pub are : (c : ℕ) → is_pivot (covered_rep W X terms k) w c ≡ is_among rank (slice_index pivots) c

  -- the rows of the generators have the lengths, and numbers of the field
  pub record HaveRows : Type 0 where
    pub each : (j : ℕ) → j < count (term_at terms k) → IsRow q ((goes_to W X terms k).dim (vertex (term_at terms k) j)) (slice_index_or (term_at terms k).images j [])

  -- what is read at a vertex: the term, the basis of what it covers, and the pivots of the radical
  pub record IsReadAt (w size width rank : ℕ) (term : TermRows) (basis places pivots : List ℕ) : Type 0 where
    pub vertex_below : w < Q.vertices
    pub term_is : term ≡ term_at terms k
    pub rows_are : HaveRows
    pub basis_is : IsBasisAt W X terms k w size width basis places
    pub pivots_are : ArePivotsAt w rank pivots

  -- no arrow to a vertex leads out of what the term covers, and the generators are the canonical ones
  pub record StaysChosen : Type 0 where
    pub stays : (w : ℕ) → w < Q.vertices → StaysAt W X terms k w
    pub chosen : IsChosenIn W X terms k

  -- the first n vertices are passed, with j generators
  pub record ArePassed (n j : ℕ) : Type 0 where
    pub stays : (w : ℕ) → w < n → StaysAt W X terms k w
    pub met : AreMetBefore n zero j
