-- What has been read of a report, and what is read with one line more.
use Rattle.std.specs.Prelude.{ℕ, ⊤, ◌+◌, ◌==◌, List, [], ◌∷◌, ◌++◌, length, if◌then◌else◌, None, Some}
use Rattle.fp_linear.specs.Matrix.{PlainMatrix}
use Rattle.quiver_paths.specs.declared.Path.{Path}
use Rattle.quiver_paths.specs.declared.Quiver.{Quiver}
use Rattle.quiver_paths.specs.Quiver.{vertex_count, arrow_count}
use Rattle.path_algebra.specs.declared.Header.{Header}
use Rattle.path_algebra.specs.declared.rules.Rule.{Rule}
use Rattle.path_algebra.specs.declared.rules.Step.{Step}
use Rattle.header_text.specs.Part.{start as header_start}
use Rattle.header_text.specs.Spelling.{arrow_name, vertex_name}
use Rattle.module_types.specs.Algebras.{algebra_at}
use Rattle.module_types.specs.Readings.{dim_at}
use Rattle.report_types.specs.declared.claims.Claim.{Claim}
use Rattle.report_types.specs.declared.claims.Claim.TheVariants as claim
use Rattle.report_types.specs.declared.claims.Record.{Record}
use Rattle.report_types.specs.declared.reports.End.TheVariants.{Done}
use Rattle.report_types.specs.declared.reports.Report.{Report}
use Rattle.report_types.specs.Numbers.{modules_of, maps_of, module_of}
use Rattle.report_types.specs.WordDimensions.{dim_of}
use Rattle.claim_lines.specs.declared.heads.Counts.{Counts}
use Rattle.claim_lines.specs.declared.heads.Head.{Head}
use Rattle.claim_lines.specs.declared.heads.Head.TheVariants as head
use Rattle.claim_lines.specs.Items.{counted}
use Rattle.claim_blocks.specs.declared.block.Block.{Block}
use Rattle.claim_blocks.specs.Setting.{Setting}
use Rattle.claim_blocks.specs.Blocks.{begin_block, whole_block, block_claim}
use Rattle.claim_text.specs.declared.part.Owner.{Owner}
use Rattle.claim_text.specs.declared.part.Owner.TheVariants as owner
use Rattle.claim_text.specs.declared.part.Place.{Place}
use Rattle.claim_text.specs.declared.part.Place.TheVariants as place
use Rattle.claim_text.specs.declared.part.Part.{Part}
use Rattle.claim_text.specs.declared.part.Item.{Item}
use Rattle.claim_text.specs.declared.part.Item.TheVariants as item
use Rattle.claim_text.specs.Matrices.{filled}

-- before the first line
abbrev pub start : Part
start = record { front = header_start; place = place.Title; line = 0; words = []; steps = []; rules = []; records = []; modules = []; maps = []; dims = []; matrices = []; block = None; end = Done }

abbrev pub report_of : Part → Report
report_of p = record { header = p.front.header; records = p.records; end = p.end }

-- The record that is being read, with its objects so far and a claim of which nothing is known; and the records up to it.
abbrev pub unclaimed : Part → Record
unclaimed p = record { line = 0; modules = p.modules; maps = p.maps; claim = claim.Module 0 }

abbrev pub here : Part → List Record
here p = p.records ++ unclaimed p ∷ []

abbrev pub counts_of : Part → Counts
counts_of p = record { modules = length (modules_of (here p)); maps = length (maps_of (here p)) }

-- what has been read with the title
abbrev pub with_title : Part → Part
with_title p = record p { place = place.Header }

-- ---- the basis

-- where a report stands behind k of n words, and of n steps
abbrev pub words_place : ℕ → ℕ → Place
words_place n k = if k == n then place.StepCount else place.Words n

abbrev pub steps_place : ℕ → ℕ → Place
steps_place n k = if k == n then place.RuleCount else place.Steps n

abbrev pub with_word_count : Part → ℕ → Part
with_word_count p n = record p { place = words_place n (length p.words) }

abbrev pub with_word : Part → ℕ → Path → Part
with_word p n word = record p { place = words_place n (length p.words + 1); words = p.words ++ word ∷ [] }

abbrev pub with_step_count : Part → List ℕ → Part
with_step_count p numeral = record p { place = steps_place (counted numeral) (length p.steps) }

abbrev pub with_step : Part → ℕ → Step → Part
with_step p n s = record p { place = steps_place n (length p.steps + 1); steps = p.steps ++ s ∷ [] }

-- a whole claim
abbrev pub claimed : Part → ℕ → Claim → Part
claimed p line c = record p {
  place = place.Between;
  line = 0;
  words = [];
  steps = [];
  rules = [];
  records = p.records ++ record { line = line; modules = p.modules; maps = p.maps; claim = c } ∷ [];
  modules = [];
  maps = [];
  block = None;
}

-- among n rules, or behind them
abbrev pub at_rules : Part → ℕ → Part
at_rules p n = if length p.rules == n then claimed (record p { modules = []; maps = [] }) p.line (claim.Basis p.words p.steps p.rules) else record p { place = place.Rules n }

abbrev pub with_rule_count : Part → List ℕ → Part
with_rule_count p numeral = at_rules p (counted numeral)

abbrev pub with_rule : Part → ℕ → Rule → Part
with_rule p n rule = at_rules (record p { rules = p.rules ++ rule ∷ [] }) n

-- ---- objects

-- how many matrices an object has, under which names, and with how many rows and columns
abbrev pub count_of : Header → Owner → ℕ
count_of h (owner.Module side) = arrow_count h.quiver
count_of h (owner.Map s t) = vertex_count h.quiver

abbrev pub name_of : Quiver → Owner → ℕ → List ℕ
name_of Q (owner.Module side) i = arrow_name Q i
name_of Q (owner.Map s t) i = vertex_name Q i

abbrev pub rows_of : Header → List ℕ → List Record → Owner → ℕ → ℕ
rows_of h dims records (owner.Module side) i = let Q = (algebra_at side h).quiver in dim_at Q dims (Q.source i)
rows_of h dims records (owner.Map s t) i = dim_of h (module_of records s) i

abbrev pub columns_of : Header → List ℕ → List Record → Owner → ℕ → ℕ
columns_of h dims records (owner.Module side) i = let Q = (algebra_at side h).quiver in dim_at Q dims (Q.target i)
columns_of h dims records (owner.Map s t) i = dim_of h (module_of records t) i

-- a whole object
abbrev pub closed : Part → Owner → Part
closed p (owner.Module side) = record p { place = place.Between; modules = p.modules ++ record { side = side; dims = p.dims; matrices = p.matrices } ∷ []; dims = []; matrices = [] }
closed p (owner.Map s t) = record p { place = place.Between; maps = p.maps ++ record { source = s; target = t; matrices = p.matrices } ∷ []; matrices = [] }

-- among the matrices of an object, or behind them
abbrev pub at_matrices : Part → Owner → Part
at_matrices p o = if length p.matrices == count_of p.front.header o then closed (record p { place = place.Between }) o else record p { place = place.Matrices o }

-- with the matrices without entries that come next
abbrev pub fill : Part → Owner → Part
fill p o =
    let h = p.front.header in
    at_matrices (record p { matrices = filled h.field (rows_of h p.dims (here p) o) (columns_of h p.dims (here p) o) (count_of h o) p.matrices }) o

abbrev pub with_matrix : Part → Owner → PlainMatrix → Part
with_matrix p o m = fill (record p { matrices = p.matrices ++ m ∷ [] }) o

-- ---- the lines of a claim

-- what the lines behind the first of a claim are read over
abbrev pub setting_of : Part → Setting
setting_of p = record { header = p.front.header; records = here p }

-- among the lines of a claim, or behind them
abbrev pub at_block : Part → Block → Part
at_block p b = if whole_block b then claimed p p.line (block_claim b) else record p { place = place.Block; block = Some b }

-- before the lines behind the first one
abbrev pub with_block : Part → ℕ → Head → Part
with_block p line x = at_block (record p { line = line }) (begin_block p.front.header (here p) x)

-- ---- between whole objects and claims

-- the claim that its first line says whole; of another kind, that of module 0
abbrev pub line_claim : Head → Claim
line_claim (head.Module m) = claim.Module m
line_claim (head.Map f) = claim.Map f
line_claim (head.Kernel n f i) = claim.Kernel n f i
line_claim (head.Cokernel n f i) = claim.Cokernel n f i
line_claim (head.Radical n a i) = claim.Radical n a i
line_claim (head.Decomposition a s f g parts) = claim.Decomposition a s f g parts
line_claim x = claim.Module 0

-- claims of kernels, cokernels and radicals
abbrev pub IsOnSubmodule : Head → Type 0
IsOnSubmodule (head.Kernel n f i) = ⊤
IsOnSubmodule (head.Cokernel n f i) = ⊤
IsOnSubmodule (head.Radical n a i) = ⊤
IsOnSubmodule x = ⊥

-- with the first line of a claim
abbrev pub with_head : Part → ℕ → Head → Part
with_head p line head.Basis = record p { place = place.WordCount; line = line }
with_head p line (head.Hom a b count) = with_block p line (head.Hom a b count)
with_head p line (head.Resolution a n) = with_block p line (head.Resolution a n)
with_head p line (head.Ext n a b count c) = with_block p line (head.Ext n a b count c)
with_head p line (head.Local m c) = with_block p line (head.Local m c)
with_head p line (head.Translate which n a c) = with_block p line (head.Translate which n a c)
with_head p line (head.AlmostSplit n e a f g c l) = with_block p line (head.AlmostSplit n e a f g c l)
with_head p line x = claimed p line (line_claim x)

abbrev pub with_item : Part → Item → Part
with_item p (item.Module side dims) = fill (record p { dims = dims; matrices = [] }) (owner.Module side)
with_item p (item.Map s t) = fill (record p { matrices = [] }) (owner.Map s t)
with_item p (item.Claim line x) = with_head p line x
with_item p (item.End e) = record p { place = place.Ended; end = e }
