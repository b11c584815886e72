-- The lines of a claim that terms are a minimal projective resolution: term by term the vertices of its generators, and the row that each of them goes to.
-- (Assem, Simson, Skowroński, volume 1, chapter I, 5, and III, 2.)
use Rattle.std.specs.Prelude.{ℕ, ◌≡◌, ◌+◌, ◌<◌, ◌≤◌, ◌^◌, ◌==◌, List, [], ◌∷◌, ◌++◌, length, slice_index, nat_lt, if◌then◌else◌}
use Rattle.linear_algebra.specs.Rows.{IsRow, list_of}
use Rattle.quiver_paths.specs.Quiver.{vertex_count}
use Rattle.path_algebra.specs.declared.Header.{Header}
use Rattle.module_types.specs.declared.Side.{Side}
use Rattle.report_types.specs.declared.claims.Claim.{Claim}
use Rattle.report_types.specs.declared.claims.Claim.TheVariants as claim
use Rattle.report_types.specs.declared.claims.Record.{Record}
use Rattle.report_types.specs.Limits.{term_limit, resolution_limit}
use Rattle.report_types.specs.Numbers.{module_of}
use Rattle.report_types.specs.WordDimensions.{dim_of, printed_words}
use Rattle.object_lines.specs.Items.{FitsTerm}
use Rattle.object_lines.specs.Spelling.{gen_line, term_line}
use Rattle.claim_blocks.specs.declared.term_block.TermPlace.{TermPlace}
use Rattle.claim_blocks.specs.declared.term_block.TermPlace.TheVariants as place
use Rattle.claim_blocks.specs.declared.term_block.TermBlock.{TermBlock}
use Rattle.claim_blocks.specs.Counts.{WordTable, word_table, table_dims, table_dimension}
use Rattle.claim_blocks.specs.Taking.{Takes}

-- the terms 0 to n, of which there are not too many
abbrev pub FitsResolution : ℕ → Type 0
FitsResolution n = n ≤ resolution_limit

-- the dimensions of a module, one for each vertex of the quiver; the words that claim 1 prints, counted on a side
abbrev pub module_dims : Header → List Record → ℕ → List ℕ
module_dims h rs a = list_of (vertex_count h.quiver) (dim_of h (module_of rs a))

abbrev pub printed_table : Header → List Record → Side → WordTable
printed_table h rs side = word_table (printed_words rs) side (vertex_count h.quiver)

-- before the first line
abbrev pub term_block : Header → List Record → (a n : ℕ) → TermBlock
term_block h rs a n = record {
  subject = a;
  last = n;
  place = place.Term;
  table = printed_table h rs (module_of rs a).side;
  covered = [];
  reached = module_dims h rs a;
  terms = [];
  vertices = [];
  images = [];
}

-- behind k whole terms of those up to n
abbrev pub term_place : ℕ → ℕ → TermPlace
term_place n k = if nat_lt n k then place.Whole else place.Term

-- the term that is read stands behind the whole ones, where each of its generators has a row
abbrev pub closed_term : TermBlock → TermBlock
closed_term b = record b { place = term_place b.last (length b.terms + 1); terms = b.terms ++ record { vertices = b.vertices; images = b.images } ∷ []; vertices = []; images = [] }

abbrev pub settled : TermBlock → TermBlock
settled b = if length b.images == length b.vertices then closed_term b else record b { place = place.Image }

-- the generators of the next term, which has dimension at most 512
pub record FitsVertices (h : Header) (b : TermBlock) (vertices : List ℕ) : Type 0 where
  pub left : length b.terms ≤ b.last
  pub short : length b.terms ≤ resolution_limit
  pub term : FitsTerm h vertices
  pub few : length vertices < 2 ^ 32
  pub small : table_dimension b.table vertices ≤ term_limit

abbrev pub with_vertices : TermBlock → List ℕ → TermBlock
with_vertices b vertices = settled (record b { covered = b.reached; reached = table_dims b.table vertices; vertices = vertices; images = [] })

-- the row that the next generator goes to, in what the term goes to, at the vertex of the generator
abbrev pub image_width : TermBlock → ℕ
image_width b = slice_index b.covered (slice_index b.vertices (length b.images))

pub record FitsImage (h : Header) (b : TermBlock) (row : List ℕ) : Type 0 where
  pub left : length b.images < length b.vertices
  pub is_row : IsRow h.field (image_width b) row

abbrev pub with_image : TermBlock → List ℕ → TermBlock
with_image b row = settled (record b { images = b.images ++ row ∷ [] })

-- a line more
abbrev pub TermStepAt : TermPlace → Header → TermBlock → List (List ℕ) → TermBlock → Type 0
TermStepAt place.Term h b tokens next = Takes (FitsVertices h b) (term_line h.quiver (length b.terms)) (with_vertices b) tokens next
TermStepAt place.Image h b tokens next = Takes (FitsImage h b) gen_line (with_image b) tokens next
TermStepAt place.Whole h b tokens next = ⊥

abbrev pub TermStep : Header → TermBlock → List (List ℕ) → TermBlock → Type 0
TermStep h b tokens next = TermStepAt b.place h b tokens next

abbrev pub IsWholeTerms : TermBlock → Type 0
IsWholeTerms b = b.place ≡ place.Whole

abbrev pub terms_claim : TermBlock → Claim
terms_claim b = claim.Resolution b.subject b.last b.terms
