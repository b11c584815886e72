-- Which lines may follow what has been read of a report, and what is read with them.
use Rattle.std.specs.Prelude.{ℕ, ◌≡◌, ◌≤◌, ◌<◌, ◌^◌, ◌+◌, ◌*◌, ◌≢◌, Bool, ◌||◌, true, false, List, [], ◌∷◌, length, All, codes, nat_eq, decimal, if◌then◌else◌, Some, None}
use Rattle.std.specs.Cmp.Lexicographic.{pointwise}
use Rattle.std.specs.declared.option.Option.{Option}
use Rattle.fp_linear.specs.Matrix.{PlainMatrix}
use Rattle.path_algebra.specs.Derivations.{IsNumber}
use Rattle.text_lines.specs.Strict.{strict_tokens}
use Rattle.header_text.specs.Named.{IsNamed}
use Rattle.header_text.specs.Part.{Part as HeaderPart, Step as HeaderStep, MayEnd as HeaderMayEnd}
use Rattle.quiver_paths.specs.Quiver.{vertex_count}
use Rattle.module_types.specs.declared.Side.{Side}
use Rattle.module_types.specs.Shapes.{HasShape, dimension, most_dimension}
use Rattle.object_lines.specs.Spelling.{module_line, map_line, at_line}
use Rattle.report_types.specs.declared.claims.PartClaim.{PartClaim}
use Rattle.report_types.specs.declared.reports.End.{End}
use Rattle.report_types.specs.Limits.{path_limit}
use Rattle.report_types.specs.Numbers.{claim_of}
use Rattle.report_types.specs.NamedClaims.{IsLocalClaim}
use Rattle.claim_lines.specs.declared.heads.Head.{Head}
use Rattle.claim_lines.specs.declared.heads.Head.TheVariants as head
use Rattle.claim_lines.specs.Spelling.{title_line, claim_line, words_line, word_line, steps_line, step_line, rules_line, rule_line, end_line}
use Rattle.claim_lines.specs.Items.{IsCount, FitsWord, FitsStep, FitsRule, FitsClaim, FitsEnd}
use Rattle.claim_blocks.specs.declared.block.Block.{Block}
use Rattle.claim_blocks.specs.Blocks.{FitsHead as FitsLines, BlockStep}
pub use Rattle.claim_blocks.specs.Taking.{Takes}
use Rattle.claim_text.specs.declared.part.Owner.{Owner}
use Rattle.claim_text.specs.declared.part.Place.{Place}
use Rattle.claim_text.specs.declared.part.Place.TheVariants as place
use Rattle.claim_text.specs.declared.part.Part.{Part}
use Rattle.claim_text.specs.declared.part.Item.{Item}
use Rattle.claim_text.specs.declared.part.Item.TheVariants as item
use Rattle.claim_text.specs.Part.{here, counts_of, at_block, with_title, with_word_count, with_word, with_step_count, with_step, with_rule_count, with_rule, name_of, rows_of, columns_of, with_matrix, with_item}

-- the tokens are those of the title
pub record TakesTitle (p : Part) (tokens : List (List ℕ)) (next : Part) : Type 0 where
  pub title : tokens ≡ title_line
  pub leads : next ≡ with_title p

-- ---- between whole objects and claims

-- a module: behind the basis, and before the maps of its record
pub record FitsModule (p : Part) (side : Side) (dims : List ℕ) : Type 0 where
  pub behind_basis : 0 < length p.records
  pub no_map : p.maps ≡ []
  pub room : (counts_of p).modules + 1 < 2 ^ 32
  pub counted : length dims ≡ vertex_count p.front.header.quiver
  pub small : dimension dims ≤ most_dimension

-- a map between modules that stand before it
pub record FitsMap (p : Part) (source target : ℕ) : Type 0 where
  pub behind_basis : 0 < length p.records
  pub few_modules : (counts_of p).modules < 2 ^ 32
  pub room : (counts_of p).maps + 1 < 2 ^ 32
  pub named_source : IsNumber (counts_of p).modules source
  pub named_target : IsNumber (counts_of p).modules target

-- What is asked of a claim beside the ranges of its numbers: the basis is claim 1 and the only one of its kind, and its record has no objects; claims that are
-- named are of the kind that the form asks.
pub record FitsBasis (p : Part) : Type 0 where
  pub first : p.records ≡ []
  pub no_module : p.modules ≡ []
  pub no_map : p.maps ≡ []

abbrev pub FitsKind : Part → Head → Type 0
FitsKind p head.Basis = FitsBasis p
FitsKind p (head.Module m) = 0 < length p.records
FitsKind p (head.Map f) = 0 < length p.records
FitsKind p (head.Kernel n f i) = 0 < length p.records
FitsKind p (head.Cokernel n f i) = 0 < length p.records
FitsKind p (head.Radical n a i) = 0 < length p.records
FitsKind p (head.Decomposition a s f g parts) = (0 < length p.records) × All (λ (x : PartClaim). IsLocalClaim (claim_of p.records x.local)) parts
FitsKind p (head.Hom a b count) = (0 < length p.records) × FitsLines p.front.header (here p) (head.Hom a b count)
FitsKind p (head.Resolution a n) = (0 < length p.records) × FitsLines p.front.header (here p) (head.Resolution a n)
FitsKind p (head.Ext n a b count c) = (0 < length p.records) × FitsLines p.front.header (here p) (head.Ext n a b count c)
FitsKind p (head.Local m c) = (0 < length p.records) × FitsLines p.front.header (here p) (head.Local m c)
FitsKind p (head.Translate which n a c) = (0 < length p.records) × FitsLines p.front.header (here p) (head.Translate which n a c)
FitsKind p (head.AlmostSplit n e a f g c l) = (0 < length p.records) × FitsLines p.front.header (here p) (head.AlmostSplit n e a f g c l)

pub record FitsHead (p : Part) (line : ℕ) (x : Head) : Type 0 where
  pub few_modules : (counts_of p).modules < 2 ^ 32
  pub few_maps : (counts_of p).maps < 2 ^ 32
  pub claim : FitsClaim (length p.records) (counts_of p) (line, x)
  pub kind : FitsKind p x

-- the last line: directly behind a whole record, or behind the header
pub record FitsLast (p : Part) (e : End) : Type 0 where
  pub few : length p.records < 2 ^ 32
  pub no_module : p.modules ≡ []
  pub no_map : p.maps ≡ []
  pub ends : FitsEnd p.front.header (length p.records) e

abbrev pub FitsItem : Part → Item → Type 0
FitsItem p (item.Module side dims) = FitsModule p side dims
FitsItem p (item.Map s t) = FitsMap p s t
FitsItem p (item.Claim line x) = FitsHead p line x
FitsItem p (item.End e) = FitsLast p e

abbrev pub item_line : Part → Item → List (List ℕ)
item_line p (item.Module side dims) = module_line ((counts_of p).modules + 1) side dims
item_line p (item.Map s t) = map_line ((counts_of p).maps + 1) s t
item_line p (item.Claim line x) = claim_line (length p.records + 1) line x
item_line p (item.End e) = end_line p.front.header (length p.records) e

-- a matrix with an entry, of the rows and columns that are next
pub record FitsMatrix (p : Part) (o : Owner) (m : PlainMatrix) : Type 0 where
  pub shape : HasShape p.front.header.field (rows_of p.front.header p.dims (here p) o (length p.matrices)) (columns_of p.front.header p.dims (here p) o (length p.matrices)) m
  pub entries : m.row_count * m.col_count ≢ 0

-- ---- the lines of a claim

-- one of the lines behind the first of a claim (names are always so, and of modules and maps there are always so few)
pub record TakesLine (p : Part) (b : Block) (tokens : List (List ℕ)) (next : Part) : Type 0 where
  pub few_modules : (counts_of p).modules < 2 ^ 32
  pub few_maps : (counts_of p).maps < 2 ^ 32
  pub named : IsNamed p.front.header.quiver
  pub now : Block
  pub step : BlockStep p.front.header b tokens now
  pub leads : next ≡ at_block p now

abbrev pub TakesBlock : Part → Option Block → List (List ℕ) → Part → Type 0
TakesBlock p None tokens next = ⊥
TakesBlock p (Some b) tokens next = TakesLine p b tokens next

-- ---- all places

-- the header may end, and the tokens are those of the first line behind it
pub record TakesFirst (p : Part) (tokens : List (List ℕ)) (next : Part) : Type 0 where
  pub ends : HeaderMayEnd p.front
  pub first : Takes (FitsItem p) (item_line p) (with_item p) tokens next

-- the tokens may follow at the place
abbrev pub TokenStep : Place → Part → List (List ℕ) → Part → Type 0
TokenStep place.Title p tokens next = TakesTitle p tokens next
TokenStep place.Header p tokens next = TakesFirst p tokens next
TokenStep place.WordCount p tokens next = Takes (λ n. n ≤ path_limit) (λ n. words_line (decimal n)) (with_word_count p) tokens next
TokenStep (place.Words n) p tokens next = Takes (FitsWord p.front.header p.words) (word_line p.front.header.quiver) (with_word p n) tokens next
TokenStep place.StepCount p tokens next = Takes IsCount steps_line (with_step_count p) tokens next
TokenStep (place.Steps n) p tokens next =
    Takes (FitsStep p.front.header (length p.steps)) (step_line p.front.header.quiver (length p.steps + 1)) (with_step p n) tokens next
TokenStep place.RuleCount p tokens next = Takes IsCount rules_line (with_rule_count p) tokens next
TokenStep (place.Rules n) p tokens next =
    Takes (FitsRule p.front.header (length p.steps) (length p.rules)) (rule_line p.front.header.quiver) (with_rule p n) tokens next
TokenStep place.Between p tokens next = Takes (FitsItem p) (item_line p) (with_item p) tokens next
TokenStep (place.Matrices o) p tokens next = Takes (FitsMatrix p o) (at_line (name_of p.front.header.quiver o (length p.matrices))) (with_matrix p o) tokens next
TokenStep place.Block p tokens next = TakesBlock p p.block tokens next
TokenStep place.Ended p tokens next = ⊥

-- the line has tokens, which may follow
pub record LexedStep (p : Part) (line : List ℕ) (next : Part) : Type 0 where
  pub tokens : List (List ℕ)
  pub lexed : strict_tokens line ≡ Some tokens
  pub step : TokenStep p.place p tokens next

-- a line of the header, which may follow those before it
pub record FrontStep (p : Part) (line : List ℕ) (next : Part) : Type 0 where
  pub front : HeaderPart
  pub step : HeaderStep p.front line front
  pub leads : next ≡ record p { front = front }

-- the tokens begin with `claim` or `refused`
abbrev pub begins_body : List (List ℕ) → Bool
begins_body [] = false
begins_body (word ∷ rest) = pointwise nat_eq word (codes "claim") || pointwise nat_eq word (codes "refused")

abbrev pub lexed_begins : Option (List (List ℕ)) → Bool
lexed_begins None = false
lexed_begins (Some tokens) = begins_body tokens

-- at this place the line is one of the header's
abbrev pub is_header_line : Place → List ℕ → Bool
is_header_line place.Header line = if lexed_begins (strict_tokens line) then false else true
is_header_line place line = false

abbrev pub StepBy : Bool → Part → List ℕ → Part → Type 0
StepBy true p line next = FrontStep p line next
StepBy false p line next = LexedStep p line next

-- the line leads from what was read to what is read with it
abbrev pub Step : Part → List ℕ → Part → Type 0
Step p line next = StepBy (is_header_line p.place line) p line next

-- a report may end behind its last line
abbrev pub MayEnd : Part → Type 0
MayEnd p = p.place ≡ place.Ended
