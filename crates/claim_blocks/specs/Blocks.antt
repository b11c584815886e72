-- The lines behind the first line of a claim, whatever its kind.
use Rattle.std.specs.Prelude.{ℕ, ⊤, ◌≡◌, ◌<◌, ◌≤◌, ◌&&◌, slice_index, Bool, true, false, List, length, nat_eq}
use Rattle.quiver_paths.specs.Quiver.{vertex_count}
use Rattle.path_algebra.specs.declared.Header.{Header}
use Rattle.module_types.specs.Shapes.{dimension, most_dimension}
use Rattle.report_types.specs.declared.claims.Claim.{Claim}
use Rattle.report_types.specs.declared.claims.Claim.TheVariants as claim
use Rattle.report_types.specs.declared.claims.Record.{Record}
use Rattle.report_types.specs.ClaimBlocks.{vertices_of, IsClaimBlock}
use Rattle.report_types.specs.Numbers.{module_of}
use Rattle.claim_lines.specs.declared.heads.Head.{Head}
use Rattle.claim_lines.specs.declared.heads.Head.TheVariants as head
use Rattle.claim_blocks.specs.declared.block.Block.{Block}
use Rattle.claim_blocks.specs.declared.block.Block.TheVariants as block
use Rattle.claim_blocks.specs.declared.local_block.LocalBlock.{LocalBlock}
use Rattle.claim_blocks.specs.declared.local_block.LocalPlace.{LocalPlace}
use Rattle.claim_blocks.specs.declared.local_block.LocalPlace.TheVariants as place
use Rattle.claim_blocks.specs.declared.row_block.RowBlock.{RowBlock}
use Rattle.claim_blocks.specs.declared.row_block.Space.TheVariants as space
use Rattle.claim_blocks.specs.declared.sequence_block.SequenceBlock.{SequenceBlock}
use Rattle.claim_blocks.specs.declared.sequence_block.SequencePlace.{SequencePlace}
use Rattle.claim_blocks.specs.declared.sequence_block.SequencePlace.TheVariants as sequence_place
use Rattle.claim_blocks.specs.declared.term_block.TermBlock.{TermBlock}
use Rattle.claim_blocks.specs.declared.term_block.TermPlace.{TermPlace}
use Rattle.claim_blocks.specs.declared.term_block.TermPlace.TheVariants as term_place
use Rattle.claim_blocks.specs.declared.vertex_block.VertexBlock.{VertexBlock}
use Rattle.claim_blocks.specs.Leading.{Leads}
use Rattle.claim_blocks.specs.LocalBlocks.{FitsLocal, local_block, LocalStep, local_claim}
use Rattle.claim_blocks.specs.RowBlocks.{FitsRows, row_block, RowBlockStep, row_claim}
use Rattle.claim_blocks.specs.SequenceBlocks.{sequence_of, FitsSequence, sequence_block, SequenceStep, sequence_claim}
use Rattle.claim_blocks.specs.TermBlocks.{FitsResolution, term_block, TermStep, terms_claim}
use Rattle.claim_blocks.specs.VertexBlocks.{FitsPresentation, vertex_block, VertexStep, vertex_claim}
use Rattle.claim_blocks.specs.Spelling.{head_of, claim_block}

-- What is asked of a first line beside the ranges of its numbers: the claims that it names are of the kinds that the form asks, and what is counted is within
-- its limits. No lines are read behind the first line of a claim of another kind.
abbrev pub FitsHead : Header → List Record → Head → Type 0
FitsHead h rs head.Basis = ⊥
FitsHead h rs (head.Module m) = ⊥
FitsHead h rs (head.Map f) = ⊥
FitsHead h rs (head.Hom a b count) = FitsRows h rs (space.Hom a b) count
FitsHead h rs (head.Kernel n f i) = ⊥
FitsHead h rs (head.Cokernel n f p) = ⊥
FitsHead h rs (head.Radical n a i) = ⊥
FitsHead h rs (head.Resolution a n) = FitsResolution n
FitsHead h rs (head.Ext n a b count c) = FitsRows h rs (space.Ext n a b c) count
FitsHead h rs (head.Local m c) = FitsLocal rs c
FitsHead h rs (head.Decomposition a s f g parts) = ⊥
FitsHead h rs (head.Translate which n a c) = FitsPresentation h rs c
FitsHead h rs (head.AlmostSplit n e a f g c l) = FitsSequence h rs (sequence_of n e a f g c l)

-- claims on homomorphisms or extensions; on almost split sequences
abbrev pub IsOnSpace : Head → Type 0
IsOnSpace (head.Hom a b count) = ⊤
IsOnSpace (head.Ext n a b count c) = ⊤
IsOnSpace x = ⊥

abbrev pub IsOnSequence : Head → Type 0
IsOnSequence (head.AlmostSplit n e a f g c l) = ⊤
IsOnSequence x = ⊥

-- the block before its first line; of another kind, one of no rows
abbrev pub other_block : Header → List Record → Block
other_block h rs = block.Rows (row_block h rs (space.Hom 0 0) 0)

abbrev pub begin_block : Header → List Record → Head → Block
begin_block h rs head.Basis = other_block h rs
begin_block h rs (head.Module m) = other_block h rs
begin_block h rs (head.Map f) = other_block h rs
begin_block h rs (head.Hom a b count) = block.Rows (row_block h rs (space.Hom a b) count)
begin_block h rs (head.Kernel n f i) = other_block h rs
begin_block h rs (head.Cokernel n f p) = other_block h rs
begin_block h rs (head.Radical n a i) = other_block h rs
begin_block h rs (head.Resolution a n) = block.Terms (term_block h rs a n)
begin_block h rs (head.Ext n a b count c) = block.Rows (row_block h rs (space.Ext n a b c) count)
begin_block h rs (head.Local m c) = block.Local (local_block h rs m c)
begin_block h rs (head.Decomposition a s f g parts) = other_block h rs
begin_block h rs (head.Translate which n a c) = block.Vertices (vertex_block h rs which n a c)
begin_block h rs (head.AlmostSplit n e a f g c l) = block.Sequence (sequence_block h rs (sequence_of n e a f g c l))

-- a line more
abbrev pub BlockStep : Header → Block → List (List ℕ) → Block → Type 0
BlockStep h (block.Rows b) tokens next = (q : RowBlock) × RowBlockStep b tokens q × (next ≡ block.Rows q)
BlockStep h (block.Local b) tokens next = (q : LocalBlock) × LocalStep b tokens q × (next ≡ block.Local q)
BlockStep h (block.Terms b) tokens next = (q : TermBlock) × TermStep h b tokens q × (next ≡ block.Terms q)
BlockStep h (block.Vertices b) tokens next = (q : VertexBlock) × VertexStep h b tokens q × (next ≡ block.Vertices q)
BlockStep h (block.Sequence b) tokens next = (q : SequenceBlock) × SequenceStep h b tokens q × (next ≡ block.Sequence q)

-- whether no line is left
abbrev pub whole_place : LocalPlace → Bool
whole_place place.Ideal = false
whole_place place.Rows = false
whole_place place.Residue = false
whole_place place.Whole = true

abbrev pub whole_terms_place : TermPlace → Bool
whole_terms_place term_place.Term = false
whole_terms_place term_place.Image = false
whole_terms_place term_place.Whole = true

abbrev pub whole_sequence_place : SequencePlace → Bool
whole_sequence_place sequence_place.Functional = false
whole_sequence_place sequence_place.Left = false
whole_sequence_place sequence_place.LeftMatrices = false
whole_sequence_place sequence_place.MiddleMatrices = true

abbrev pub whole_block : Block → Bool
whole_block (block.Rows b) = nat_eq (length b.rows.rows) b.rows.wanted
whole_block (block.Local b) = whole_place b.place
whole_block (block.Terms b) = whole_terms_place b.place
whole_block (block.Vertices b) = nat_eq (length b.matrices.matrices) (length b.matrices.rows)
whole_block (block.Sequence b) = whole_sequence_place b.place && nat_eq (length b.middle.matrices) (length b.middle.rows)

-- the claim with what has been read
abbrev pub block_claim : Block → Claim
block_claim (block.Rows b) = row_claim b
block_claim (block.Local b) = local_claim b
block_claim (block.Terms b) = terms_claim b
block_claim (block.Vertices b) = vertex_claim b
block_claim (block.Sequence b) = sequence_claim b

-- the claims of which lines are read in this way
abbrev pub HasBlock : Claim → Type 0
HasBlock (claim.Basis words steps rules) = ⊥
HasBlock (claim.Module m) = ⊥
HasBlock (claim.Map f) = ⊥
HasBlock (claim.Hom a b rows) = ⊤
HasBlock (claim.Kernel n f i) = ⊥
HasBlock (claim.Cokernel n f p) = ⊥
HasBlock (claim.Radical n a i) = ⊥
HasBlock (claim.Resolution a n terms) = ⊤
HasBlock (claim.Ext n a b rows c) = ⊤
HasBlock (claim.Local m c ideal power residue) = ⊤
HasBlock (claim.Decomposition a s f g parts) = ⊥
HasBlock (claim.Translate which n a c rows) = ⊤
HasBlock (claim.AlmostSplit n e a f g c l phi left middle) = ⊤

-- the terms of the claims before stand at vertices of the quiver
abbrev pub AreDeclared : Header → List Record → Type 0
AreDeclared h rs = (c k j : ℕ) → j < length (vertices_of h rs c k) → slice_index (vertices_of h rs c k) j < vertex_count h.quiver

-- the modules have at most the largest dimension
abbrev pub AreSmall : List Record → Type 0
AreSmall rs = (a : ℕ) → dimension (module_of rs a).dims ≤ most_dimension

-- A whole block is a claim with this first line, of the numbers and shapes that the format has, and was read of its lines.
pub record IsReadClaim (h : Header) (rs : List Record) (x : Head) (c : Claim) (ls : List (List (List ℕ))) : Type 0 where
  pub first : head_of c ≡ x
  pub shapes : IsClaimBlock h rs c
  pub lines : ls ≡ claim_block h c

-- The lines of a claim lead from the block behind its first line to a whole one, which is the claim.
pub record IsReadWhole (h : Header) (rs : List Record) (c : Claim) : Type 0 where
  pub fits : FitsHead h rs (head_of c)
  pub last : Block
  pub leads : Leads (BlockStep h) (begin_block h rs (head_of c)) (claim_block h c) last
  pub whole : whole_block last ≡ true
  pub back : block_claim last ≡ c
