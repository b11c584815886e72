-- The rows of a claim on homomorphisms or on extensions: what was read is the claim, and the claim is read.
use Rattle.std.proofs.Common.{◌≡◌, ℕ, Bool, true, false, suc, ◌*◌, ◌≤◌, List, [], ◌∷◌, ◌++◌, length, map, refl, sym, ap, ◌∙◌, subst, arith}
use Rattle.std.specs.Prelude.{MatchBool}
use Rattle.std.proofs.Math.Nat.{mul-le-mul}
use Rattle.text_lines.proofs.Readings.{Goes}
use Rattle.fp_linear.specs.Matrix.{PlainMatrix, most_entries}
use Rattle.path_algebra.specs.declared.Header.{Header}
use Rattle.report_types.specs.declared.claims.Record.{Record}
use Rattle.report_types.specs.Limits.{unknown_limit}
use Rattle.report_types.specs.Numbers.{modules_of, maps_of}
use Rattle.report_types.specs.ClaimBlocks.{AreRows, IsClaimBlock}
use Rattle.object_lines.specs.Spelling.{row_line}
use Rattle.object_lines.proofs.ClearLines.{StandsOutside}
use Rattle.object_lines.proofs.MatrixReading.{shape_rows}
use Rattle.claim_lines.specs.Items.{AreNumbers}
use Rattle.claim_lines.proofs.Clear.{ClearLine}
use Rattle.claim_blocks.specs.declared.row_block.Space.{Space}
use Rattle.claim_blocks.specs.declared.row_block.Space.TheVariants as space
use Rattle.claim_blocks.specs.declared.row_block.RowBlock.{RowBlock}
use Rattle.claim_blocks.specs.Leading.{Leads}
use Rattle.claim_blocks.specs.PartRows.{PartRows, no_rows, matrix_of, FitsRow, with_row, RowStep}
use Rattle.claim_blocks.specs.RowBlocks.{width_of, FitsRows, row_block, RowBlockStep, IsWholeRows, rows_claim, rows_head, row_claim}
use Rattle.claim_blocks.specs.Spelling.{head_of, claim_block}
use Rattle.claim_blocks.proofs.Leading.{leads_within}
use Rattle.claim_blocks.proofs.ReadRows.{AreRead, read_none, read_more, lines_more, read_shape, read_all, matrix_back, row_goes_within, row_line_clear}
use Rattle.claim_blocks.proofs.TakenLines.{takes_within, takes_not_within, takes_one}

module _ (h : Header) (rs : List Record) (s : Space) (count : ℕ) where
  -- the block behind these lines
  pub record IsRowsSoFar (b : RowBlock) (ls : List (List (List ℕ))) : Type 0 where
    pub fits : FitsRows h rs s count
    pub space : b.space ≡ s
    pub wanted : b.rows.wanted ≡ count
    pub read : AreRead h.field (width_of h rs s) b.rows
    pub lines : ls ≡ map row_line b.rows.rows

  pub rows_start : FitsRows h rs s count → IsRowsSoFar (row_block h rs s count) []
  rows_start fits = record { fits = fits; space = refl; wanted = refl; read = read_none h.field (width_of h rs s) count; lines = refl }

  more : (b next : RowBlock) (row : List ℕ) (ls : List (List (List ℕ))) → next ≡ record b { rows = with_row b.rows row } → IsRowsSoFar b ls → FitsRow b.rows row → IsRowsSoFar next (ls ++ row_line row ∷ [])
  more b next row ls e far fits = subst (λ (x : RowBlock). IsRowsSoFar x (ls ++ row_line row ∷ [])) (sym e) record {
    fits = far.fits;
    space = far.space;
    wanted = far.wanted;
    read = read_more h.field (width_of h rs s) b.rows row far.read fits;
    lines = lines_more ls b.rows.rows row far.lines;
  }

  pub rows_next : (b next : RowBlock) (ts : List (List ℕ)) (ls : List (List (List ℕ))) → IsRowsSoFar b ls → RowBlockStep b ts next → IsRowsSoFar next (ls ++ ts ∷ [])
  rows_next b next ts ls far t = subst (λ l. IsRowsSoFar next (ls ++ l ∷ [])) (sym t.spelled) (more b next t.item ls t.leads far t.fits)

-- the block of a whole claim
square_small : (m n : ℕ) → m ≤ n → n ≤ unknown_limit → m * n ≤ most_entries
square_small m n a b = let l : m * n ≤ 1024 * 1024 = mul-le-mul (let l : m ≤ 1024 = omega (arith, a, b) in l) b in omega (arith, l)

rows_are : (h : Header) (rs : List Record) (s : Space) (count : ℕ) (b : RowBlock) (ls : List (List (List ℕ))) → IsRowsSoFar h rs s count b ls → IsWholeRows b → AreRows h (width_of h rs s) (matrix_of b.rows)
rows_are h rs s count b ls far whole =
    let few : length b.rows.rows ≤ width_of h rs s = let l = far.fits.few in let w = far.wanted in omega (arith, l, w, whole) in
    record { shape = read_shape h.field (width_of h rs s) b.rows far.read (square_small (length b.rows.rows) (width_of h rs s) few far.fits.small); few = few }

claim_head : (s : Space) (rows : PlainMatrix) → head_of (rows_claim s rows) ≡ rows_head s rows.row_count
claim_head (space.Hom a b) rows = refl
claim_head (space.Ext n a b c) rows = refl

claim_lines : (h : Header) (s : Space) (rows : PlainMatrix) → claim_block h (rows_claim s rows) ≡ map row_line rows.rows
claim_lines h (space.Hom a b) rows = refl
claim_lines h (space.Ext n a b c) rows = refl

claim_is : (h : Header) (rs : List Record) (earlier : ℕ) (s : Space) (count : ℕ) (rows : PlainMatrix) → length rs ≡ suc earlier → AreNumbers earlier (length (modules_of rs)) (length (maps_of rs)) (rows_head s count)
    → FitsRows h rs s count → AreRows h (width_of h rs s) rows → IsClaimBlock h rs (rows_claim s rows)
claim_is h rs earlier (space.Hom a b) count rows e are fits r = record { first = are.0; second = are.1; small = fits.small; are_rows = r }
claim_is h rs earlier (space.Ext n a b c) count rows e are fits r = record {
  first = are.1;
  second = are.2;
  resolution = record { named = record { from = are.4.from; earlier = let to = are.4.to in omega (arith, e, to) }; length = fits.kind };
  small = fits.small;
  are_rows = r;
}

module _ (h : Header) (rs : List Record) (earlier : ℕ) (s : Space) (count : ℕ) (b : RowBlock) (ls : List (List (List ℕ))) where
  pub rows_head_is : IsRowsSoFar h rs s count b ls → IsWholeRows b → head_of (row_claim b) ≡ rows_head s count
  rows_head_is far whole = claim_head b.space (matrix_of b.rows) ∙ (λ i. rows_head (far.space i) ((whole ∙ far.wanted) i))

  pub rows_are_claim : length rs ≡ suc earlier → AreNumbers earlier (length (modules_of rs)) (length (maps_of rs)) (rows_head s count) → IsRowsSoFar h rs s count b ls → IsWholeRows b
      → IsClaimBlock h rs (row_claim b)
  rows_are_claim e are far whole =
      subst (λ x. IsClaimBlock h rs (rows_claim x (matrix_of b.rows))) (sym far.space) (claim_is h rs earlier s count (matrix_of b.rows) e are far.fits (rows_are h rs s count b ls far whole))

  pub rows_lines : IsRowsSoFar h rs s count b ls → ls ≡ claim_block h (row_claim b)
  rows_lines far = far.lines ∙ sym (claim_lines h b.space (matrix_of b.rows))

-- ---- a claim is read

-- what its shapes say of its space
pub rows_fit : (h : Header) (rs : List Record) (s : Space) (rows : PlainMatrix) → IsClaimBlock h rs (rows_claim s rows) → FitsRows h rs s rows.row_count × AreRows h (width_of h rs s) rows
rows_fit h rs (space.Hom a b) rows is = (record { kind = tt; small = is.small; few = is.are_rows.few }, is.are_rows)
rows_fit h rs (space.Ext n a b c) rows is = (record { kind = is.resolution.length; small = is.small; few = is.are_rows.few }, is.are_rows)

-- the block of all rows
abbrev pub whole_rows : Header → List Record → Space → PlainMatrix → RowBlock
whole_rows h rs s rows = record { space = s; rows = record { field = h.field; width = width_of h rs s; wanted = length rows.rows; rows = rows.rows } }

module _ (h : Header) (rs : List Record) (s : Space) (rows : PlainMatrix) (is : IsClaimBlock h rs (rows_claim s rows)) where
  counted : length rows.rows ≡ rows.row_count
  counted = (shape_rows h.field rows.row_count (width_of h rs s) rows (rows_fit h rs s rows is).1.shape).0

  pub rows_read : Leads RowBlockStep (row_block h rs s rows.row_count) (claim_block h (rows_claim s rows)) (whole_rows h rs s rows)
  rows_read =
      let within : PartRows → RowBlock = λ r. record { space = s; rows = r } in
      subst (λ ls. Leads RowBlockStep (row_block h rs s rows.row_count) ls (whole_rows h rs s rows)) (sym (claim_lines h s rows))
      (subst (λ n. Leads RowBlockStep (row_block h rs s n) (map row_line rows.rows) (whole_rows h rs s rows)) counted
      (leads_within RowStep RowBlockStep within (λ p q l t. takes_within (FitsRow p) row_line (with_row p) within l q t) (no_rows h.field (width_of h rs s) (length rows.rows))
      (record { field = h.field; width = width_of h rs s; wanted = length rows.rows; rows = rows.rows }) (map row_line rows.rows)
      (read_all h.field (width_of h rs s) rows.rows (shape_rows h.field rows.row_count (width_of h rs s) rows (rows_fit h rs s rows is).1.shape).1)))

  pub rows_back : row_claim (whole_rows h rs s rows) ≡ rows_claim s rows
  rows_back = ap (rows_claim s) (matrix_back h.field rows.row_count (width_of h rs s) rows (rows_fit h rs s rows is).1.shape)

-- ---- one line leads to one block, or to none

pub rows_one : (b q r : RowBlock) (ts : List (List ℕ)) → RowBlockStep b ts q → RowBlockStep b ts r → q ≡ r
rows_one b q r ts t u = takes_one (FitsRow b.rows) row_line (λ row. record b { rows = with_row b.rows row }) ts q r t u

pub rows_go : (b : RowBlock) (ts : List (List ℕ)) → Goes (RowBlockStep b ts)
rows_go b ts = row_goes_within b.rows (λ (r : PartRows). record b { rows = r }) ts

pub rows_clear : (c : ℕ) → StandsOutside c → (b next : RowBlock) (ts : List (List ℕ)) → RowBlockStep b ts next → ClearLine c ts
rows_clear c outside b next ts t = subst (ClearLine c) (sym t.spelled) (row_line_clear c outside b.rows.field b.rows.width t.item t.fits.is_row)

-- what a reader of a row gives
pub rows_taken : (b : RowBlock) (taken : Bool) (next : PartRows) (ts : List (List ℕ)) → MatchBool taken (RowStep b.rows ts next) ((r : PartRows) → RowStep b.rows ts r → ⊥)
    → MatchBool taken (RowBlockStep b ts (record b { rows = next })) ((r : RowBlock) → RowBlockStep b ts r → ⊥)
rows_taken b true next ts t = takes_within (FitsRow b.rows) row_line (with_row b.rows) (λ (r : PartRows). record b { rows = r }) ts next t
rows_taken b false next ts none = takes_not_within (FitsRow b.rows) row_line (with_row b.rows) (λ (r : PartRows). record b { rows = r }) ts none
