-- The rows of a claim on homomorphisms or on extensions. (Assem, Simson, Skowroński, volume 1, chapter III, 1, and appendix A.4.)
use Rattle.std.specs.Prelude.{ℕ, suc, ⊤, ◌≡◌, ◌≤◌, List, length}
use Rattle.fp_linear.specs.Matrix.{PlainMatrix}
use Rattle.path_algebra.specs.declared.Header.{Header}
use Rattle.claim_conditions.specs.Terms.{vertices_at}
use Rattle.report_types.specs.declared.claims.Claim.{Claim}
use Rattle.report_types.specs.declared.claims.Claim.TheVariants as claim
use Rattle.report_types.specs.declared.claims.Record.{Record}
use Rattle.report_types.specs.Limits.{unknown_limit}
use Rattle.report_types.specs.NamedClaims.{HasLength, terms_in}
use Rattle.report_types.specs.Numbers.{module_of, claim_of}
use Rattle.report_types.specs.WordDimensions.{unknown_count, count_at}
use Rattle.object_lines.specs.Spelling.{row_line}
use Rattle.claim_lines.specs.declared.heads.Head.{Head}
use Rattle.claim_lines.specs.declared.heads.Head.TheVariants as head
use Rattle.claim_blocks.specs.declared.row_block.Space.{Space}
use Rattle.claim_blocks.specs.declared.row_block.Space.TheVariants as space
use Rattle.claim_blocks.specs.declared.row_block.RowBlock.{RowBlock}
use Rattle.claim_blocks.specs.PartRows.{no_rows, matrix_of, FitsRow, with_row}
use Rattle.claim_blocks.specs.Taking.{Takes}

-- the coordinates of each row: of maps from a to b, or of maps to b from term n of a resolution
abbrev pub width_of : Header → List Record → Space → ℕ
width_of h rs (space.Hom a b) = unknown_count h (module_of rs a) (module_of rs b)
width_of h rs (space.Ext n a b c) = count_at h (module_of rs b) (vertices_at (terms_in (claim_of rs c)) n)

-- extensions of degree n are read over a resolution that is longer by one
abbrev pub FitsSpace : List Record → Space → Type 0
FitsSpace rs (space.Hom a b) = ⊤
FitsSpace rs (space.Ext n a b c) = HasLength (claim_of rs c) (suc n)

-- at most so many rows as coordinates, of which there are at most 1,024
pub record FitsRows (h : Header) (rs : List Record) (s : Space) (count : ℕ) : Type 0 where
  pub kind : FitsSpace rs s
  pub small : width_of h rs s ≤ unknown_limit
  pub few : count ≤ width_of h rs s

-- before the first row
abbrev pub row_block : Header → List Record → Space → ℕ → RowBlock
row_block h rs s count = record { space = s; rows = no_rows h.field (width_of h rs s) count }

-- a row more
abbrev pub RowBlockStep : RowBlock → List (List ℕ) → RowBlock → Type 0
RowBlockStep b tokens next = Takes (FitsRow b.rows) row_line (λ row. record b { rows = with_row b.rows row }) tokens next

abbrev pub IsWholeRows : RowBlock → Type 0
IsWholeRows b = length b.rows.rows ≡ b.rows.wanted

-- the claim, and its first line
abbrev pub rows_claim : Space → PlainMatrix → Claim
rows_claim (space.Hom a b) rows = claim.Hom a b rows
rows_claim (space.Ext n a b c) rows = claim.Ext n a b rows c

abbrev pub rows_head : Space → ℕ → Head
rows_head (space.Hom a b) count = head.Hom a b count
rows_head (space.Ext n a b c) count = head.Ext n a b count c

abbrev pub row_claim : RowBlock → Claim
row_claim b = rows_claim b.space (matrix_of b.rows)
