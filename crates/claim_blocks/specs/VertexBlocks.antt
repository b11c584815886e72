-- The lines of a claim on a translate, a transpose or an inverse translate: its embedding or projection, vertex by vertex.
-- (Assem, Simson, Skowroński, volume 1, chapter IV, 2.)
use Rattle.std.specs.Prelude.{ℕ, ◌<◌, ◌≤◌, List, length, slice_index}
use Rattle.linear_algebra.specs.BlockFamilies.{total}
use Rattle.quiver_paths.specs.Quiver.{vertex_count}
use Rattle.path_algebra.specs.declared.Header.{Header}
use Rattle.module_types.specs.Algebras.{other_side}
use Rattle.report_types.specs.declared.claims.Claim.{Claim}
use Rattle.report_types.specs.declared.claims.Claim.TheVariants as claim
use Rattle.report_types.specs.declared.claims.Record.{Record}
use Rattle.report_types.specs.declared.claims.Translation.{Translation}
use Rattle.report_types.specs.declared.claims.Translation.TheVariants.{Tau, Transpose, Taui}
use Rattle.report_types.specs.ClaimBlocks.{side_of, vertices_of, dual_dim}
use Rattle.report_types.specs.Limits.{term_limit}
use Rattle.report_types.specs.NamedClaims.{HasLength}
use Rattle.report_types.specs.Numbers.{claim_of}
use Rattle.claim_blocks.specs.declared.part_matrices.PartMatrices.{PartMatrices}
use Rattle.claim_blocks.specs.declared.vertex_block.VertexBlock.{VertexBlock}
use Rattle.claim_blocks.specs.Counts.{table_dims}
use Rattle.claim_blocks.specs.PartMatrices.{no_matrices, FitsMatrix, next_line, with_matrix, IsWholeMatrices}
use Rattle.claim_blocks.specs.Taking.{Takes}
use Rattle.claim_blocks.specs.TermBlocks.{module_dims, printed_table}

-- the claim is a resolution of length 1; the injective modules of both terms have dimension at most 512, and the vertices of their generators are bytes
pub record FitsPresentation (h : Header) (rs : List Record) (c : ℕ) : Type 0 where
  pub of_length : HasLength (claim_of rs c) 1
  pub small : (k : ℕ) → k ≤ 1 → total (vertex_count h.quiver) (dual_dim h rs c k) ≤ term_limit
  pub places : (k : ℕ) → k ≤ 1 → (j : ℕ) → j < length (vertices_of h rs c k) → slice_index (vertices_of h rs c k) j < 256

-- the dimensions of the injective modules of term 1, one for each vertex
abbrev pub dual_dims : Header → List Record → ℕ → List ℕ
dual_dims h rs c = table_dims (printed_table h rs (other_side (side_of h rs c))) (vertices_of h rs c 1)

-- before the first line of an embedding of a translate, or of a projection onto a transpose or a dual
abbrev pub translate_between : Header → Translation → (own dual : List ℕ) → PartMatrices
translate_between h Tau own dual = no_matrices h.field own dual
translate_between h Transpose own dual = no_matrices h.field dual own
translate_between h (Taui b) own dual = no_matrices h.field dual own

abbrev pub vertex_block : Header → List Record → Translation → (n a c : ℕ) → VertexBlock
vertex_block h rs which n a c = record { which = which; subject = n; of = a; resolution = c; matrices = translate_between h which (module_dims h rs n) (dual_dims h rs c) }

-- a line more
abbrev pub VertexStep : Header → VertexBlock → List (List ℕ) → VertexBlock → Type 0
VertexStep h b tokens next = Takes (FitsMatrix h b.matrices) (next_line h b.matrices) (λ m. record b { matrices = with_matrix b.matrices m }) tokens next

abbrev pub IsWholeVertices : VertexBlock → Type 0
IsWholeVertices b = IsWholeMatrices b.matrices

abbrev pub vertex_claim : VertexBlock → Claim
vertex_claim b = claim.Translate b.which b.subject b.of b.resolution b.matrices.matrices
