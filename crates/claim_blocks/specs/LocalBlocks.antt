-- The lines of a claim that a module is local: its ideal, the power of it that is zero, and the form of the residue ring.
-- (Assem, Simson, Skowroński, volume 1, chapter I, 4.)
use Rattle.std.specs.Prelude.{ℕ, ◌≡◌, ◌≤◌, ◌*◌, ◌⊎◌, List, length}
use Rattle.fp_linear.specs.Matrix.{most_entries}
use Rattle.path_algebra.specs.declared.Header.{Header}
use Rattle.path_algebra.specs.Derivations.{IsNumber}
use Rattle.claim_conditions.specs.declared.Residue.{Residue}
use Rattle.claim_conditions.specs.declared.Residue.TheVariants.{Frobenius}
use Rattle.report_types.specs.declared.claims.Claim.{Claim}
use Rattle.report_types.specs.declared.claims.Claim.TheVariants as claim
use Rattle.report_types.specs.declared.claims.Record.{Record}
use Rattle.report_types.specs.Limits.{power_limit}
use Rattle.report_types.specs.NamedClaims.{IsHomClaim, rows_in}
use Rattle.report_types.specs.Numbers.{claim_of}
use Rattle.object_lines.specs.Spelling.{row_line, ideal_line, power_line, residue_line}
use Rattle.claim_blocks.specs.declared.local_block.LocalPlace.{LocalPlace}
use Rattle.claim_blocks.specs.declared.local_block.LocalPlace.TheVariants as place
use Rattle.claim_blocks.specs.declared.local_block.LocalBlock.{LocalBlock}
use Rattle.claim_blocks.specs.PartRows.{PartRows, no_rows, matrix_of, FitsRow, with_row}
use Rattle.claim_blocks.specs.Taking.{Takes}

-- the claim that it names is one on homomorphisms
abbrev pub FitsLocal : List Record → ℕ → Type 0
FitsLocal rs c = IsHomClaim (claim_of rs c)

-- the coordinates of each row of the ideal: the rows of that claim
abbrev pub ideal_width : Header → List Record → ℕ → ℕ
ideal_width h rs c = (rows_in h.field (claim_of rs c)).row_count

-- before the first line
abbrev pub local_block : Header → List Record → (m c : ℕ) → LocalBlock
local_block h rs m c = record { subject = m; hom = c; place = place.Ideal; ideal = no_rows h.field (ideal_width h rs c) 0; power = 0; residue = Frobenius }

-- so many rows of a length as an ideal may have
pub record FitsIdeal (width n : ℕ) : Type 0 where
  pub few : n ≤ width
  pub small : n * width ≤ most_entries

abbrev pub with_ideal : LocalBlock → ℕ → LocalBlock
with_ideal b n = record b { place = place.Rows; ideal = no_rows b.ideal.field b.ideal.width n }

abbrev pub with_ideal_row : LocalBlock → List ℕ → LocalBlock
with_ideal_row b row = record b { ideal = with_row b.ideal row }

-- a power, behind all rows
pub record FitsPower (r : PartRows) (n : ℕ) : Type 0 where
  pub whole : length r.rows ≡ r.wanted
  pub number : IsNumber power_limit n

abbrev pub with_power : LocalBlock → ℕ → LocalBlock
with_power b n = record b { place = place.Residue; power = n }

abbrev pub with_residue : LocalBlock → Residue → LocalBlock
with_residue b r = record b { place = place.Whole; residue = r }

-- a line more
abbrev pub LocalStepAt : LocalPlace → LocalBlock → List (List ℕ) → LocalBlock → Type 0
LocalStepAt place.Ideal b tokens next = Takes (FitsIdeal b.ideal.width) ideal_line (with_ideal b) tokens next
LocalStepAt place.Rows b tokens next = Takes (FitsRow b.ideal) row_line (with_ideal_row b) tokens next ⊎ Takes (FitsPower b.ideal) power_line (with_power b) tokens next
LocalStepAt place.Residue b tokens next = Takes (λ (r : Residue). Unit {0}) residue_line (with_residue b) tokens next
LocalStepAt place.Whole b tokens next = ⊥

abbrev pub LocalStep : LocalBlock → List (List ℕ) → LocalBlock → Type 0
LocalStep b tokens next = LocalStepAt b.place b tokens next

abbrev pub IsWholeLocal : LocalBlock → Type 0
IsWholeLocal b = b.place ≡ place.Whole

abbrev pub local_claim : LocalBlock → Claim
local_claim b = claim.Local b.subject b.hom (matrix_of b.ideal) b.power b.residue
