-- The lines of a claim that a sequence is almost split: a functional on maps from term 0 to the right end, and the embeddings of the left end and of the middle,
-- vertex by vertex. (Assem, Simson, Skowroński, volume 1, chapter IV, 1 to 3.)
use Rattle.std.specs.Prelude.{ℕ, ⊤, ◌+◌, ◌≡◌, ◌<◌, ◌^◌, ◌⊎◌, List, [], length, slice_index}
use Rattle.linear_algebra.specs.BlockFamilies.{total}
use Rattle.linear_algebra.specs.Rows.{IsRow, list_of}
use Rattle.quiver_paths.specs.Quiver.{vertex_count}
use Rattle.path_algebra.specs.declared.Header.{Header}
use Rattle.report_types.specs.declared.claims.Claim.{Claim}
use Rattle.report_types.specs.declared.claims.Claim.TheVariants as claim
use Rattle.report_types.specs.declared.claims.Record.{Record}
use Rattle.report_types.specs.ClaimBlocks.{vertices_of}
use Rattle.report_types.specs.NamedClaims.{IsLocalClaim}
use Rattle.report_types.specs.Numbers.{module_of, claim_of}
use Rattle.report_types.specs.WordDimensions.{dim_of}
use Rattle.object_lines.specs.Spelling.{phi_line, left_line, middle_line}
use Rattle.claim_lines.specs.declared.heads.Head.{Head}
use Rattle.claim_lines.specs.declared.heads.Head.TheVariants as head
use Rattle.claim_blocks.specs.declared.sequence_block.Sequence.{Sequence}
use Rattle.claim_blocks.specs.declared.sequence_block.SequencePlace.{SequencePlace}
use Rattle.claim_blocks.specs.declared.sequence_block.SequencePlace.TheVariants as place
use Rattle.claim_blocks.specs.declared.sequence_block.SequenceBlock.{SequenceBlock}
use Rattle.claim_blocks.specs.PartMatrices.{no_matrices, FitsMatrix, next_line, with_matrix, IsWholeMatrices}
use Rattle.claim_blocks.specs.Taking.{Takes}
use Rattle.claim_blocks.specs.TermBlocks.{module_dims}
use Rattle.claim_blocks.specs.VertexBlocks.{FitsPresentation, dual_dims}

-- the numbers on the first line, and that line
abbrev pub sequence_of : (n e a f g c l : ℕ) → Sequence
sequence_of n e a f g c l = record { left = n; middle = e; right = a; f = f; g = g; resolution = c; local = l }

abbrev pub sequence_head : Sequence → Head
sequence_head s = head.AlmostSplit s.left s.middle s.right s.f s.g s.resolution s.local

-- for each generator of term 0 the dimension of a module at its vertex, and all of these: the entries of a functional
abbrev pub generator_dims : Header → List Record → (a c : ℕ) → List ℕ
generator_dims h rs a c = list_of (length (vertices_of h rs c 0)) (λ j. dim_of h (module_of rs a) (slice_index (vertices_of h rs c 0) j))

abbrev pub functional_width : List ℕ → ℕ
functional_width counts = total (length counts) (slice_index counts)

-- at each vertex some dimensions and those of a module beside them; they are below 2^32
abbrev pub dims_beside : Header → List Record → List ℕ → ℕ → List ℕ
dims_beside h rs dims a = list_of (vertex_count h.quiver) (λ w. slice_index dims w + dim_of h (module_of rs a) w)

abbrev pub AreNarrow : Header → List Record → List ℕ → ℕ → Type 0
AreNarrow h rs dims a = (w : ℕ) → w < vertex_count h.quiver → slice_index dims w + dim_of h (module_of rs a) w < 2 ^ 32

-- the presentation fits, the local claim is one, and the matrices of the middle have fewer than 2^32 columns
pub record FitsSequence (h : Header) (rs : List Record) (s : Sequence) : Type 0 where
  pub presentation : FitsPresentation h rs s.resolution
  pub is_local : IsLocalClaim (claim_of rs s.local)
  pub narrow : AreNarrow h rs (dual_dims h rs s.resolution) s.right

-- before the first line
abbrev pub sequence_block : Header → List Record → Sequence → SequenceBlock
sequence_block h rs s = record {
  of = s;
  place = place.Functional;
  counts = generator_dims h rs s.right s.resolution;
  phi = [];
  left = no_matrices h.field (module_dims h rs s.left) (dual_dims h rs s.resolution);
  middle = no_matrices h.field (module_dims h rs s.middle) (dims_beside h rs (dual_dims h rs s.resolution) s.right);
}

-- the functional; the line before the matrices of the left end, and one of these; the line before those of the middle, behind all of the left end, and one
abbrev pub with_phi : SequenceBlock → List ℕ → SequenceBlock
with_phi b row = record b { place = place.Left; phi = row }

abbrev pub FunctionalStep : Header → SequenceBlock → List (List ℕ) → SequenceBlock → Type 0
FunctionalStep h b tokens next = Takes (IsRow h.field (functional_width b.counts)) phi_line (with_phi b) tokens next

abbrev pub behind_left : SequenceBlock → SequenceBlock
behind_left b = record b { place = place.LeftMatrices }

abbrev pub LeftStep : SequenceBlock → List (List ℕ) → SequenceBlock → Type 0
LeftStep b tokens next = Takes (λ (u : ⊤). ⊤) (λ u. left_line) (λ u. behind_left b) tokens next

abbrev pub LeftMatrixStep : Header → SequenceBlock → List (List ℕ) → SequenceBlock → Type 0
LeftMatrixStep h b tokens next = Takes (FitsMatrix h b.left) (next_line h b.left) (λ m. record b { left = with_matrix b.left m }) tokens next

abbrev pub behind_middle : SequenceBlock → SequenceBlock
behind_middle b = record b { place = place.MiddleMatrices }

abbrev pub MiddleStep : SequenceBlock → List (List ℕ) → SequenceBlock → Type 0
MiddleStep b tokens next = Takes (λ (u : ⊤). IsWholeMatrices b.left) (λ u. middle_line) (λ u. behind_middle b) tokens next

abbrev pub MiddleMatrixStep : Header → SequenceBlock → List (List ℕ) → SequenceBlock → Type 0
MiddleMatrixStep h b tokens next = Takes (FitsMatrix h b.middle) (next_line h b.middle) (λ m. record b { middle = with_matrix b.middle m }) tokens next

-- a line more
abbrev pub SequenceStepAt : SequencePlace → Header → SequenceBlock → List (List ℕ) → SequenceBlock → Type 0
SequenceStepAt place.Functional h b tokens next = FunctionalStep h b tokens next
SequenceStepAt place.Left h b tokens next = LeftStep b tokens next
SequenceStepAt place.LeftMatrices h b tokens next = LeftMatrixStep h b tokens next ⊎ MiddleStep b tokens next
SequenceStepAt place.MiddleMatrices h b tokens next = MiddleMatrixStep h b tokens next

abbrev pub SequenceStep : Header → SequenceBlock → List (List ℕ) → SequenceBlock → Type 0
SequenceStep h b tokens next = SequenceStepAt b.place h b tokens next

-- no line is left
abbrev pub IsWholeSequence : SequenceBlock → Type 0
IsWholeSequence b = (b.place ≡ place.MiddleMatrices) × IsWholeMatrices b.middle

-- the claim with what has been read
abbrev pub sequence_claim : SequenceBlock → Claim
sequence_claim b = claim.AlmostSplit b.of.left b.of.middle b.of.right b.of.f b.of.g b.of.resolution b.of.local b.phi b.left.matrices b.middle.matrices
