-- How a report is spelled: its lines one behind the other. Each report has one spelling.
use Rattle.std.specs.Prelude.{ℕ, ◌+◌, List, [], ◌∷◌, ◌++◌, length}
use Rattle.path_algebra.specs.declared.Header.{Header}
use Rattle.header_text.specs.Spelling.{header_lines, text_of}
use Rattle.module_types.specs.declared.Map.{Map}
use Rattle.module_types.specs.declared.Module.{Module}
use Rattle.report_types.specs.declared.claims.Record.{Record}
use Rattle.report_types.specs.declared.reports.Report.{Report}
use Rattle.report_types.specs.Numbers.{modules_of, maps_of}
use Rattle.object_lines.specs.Spelling.{module_line, map_line}
use Rattle.claim_lines.specs.Spelling.{title_line, claim_line, end_line}
pub use Rattle.claim_blocks.specs.Spelling.{step_lines, block_lines, at_arrows, at_vertices, in_order, head_of, term_block, term_lines, claim_block}

-- ---- modules and maps

-- a module and a map behind so many
abbrev pub module_block : Header → ℕ → Module → List (List (List ℕ))
module_block h before m = module_line (before + 1) m.side m.dims ∷ at_arrows h m.matrices

abbrev pub map_block : Header → ℕ → Map → List (List (List ℕ))
map_block h before f = map_line (before + 1) f.source f.target ∷ at_vertices h f.matrices

-- the lines of modules behind so many, and of maps
abbrev pub module_lines : Header → ℕ → List Module → List (List (List ℕ))
module_lines h before modules = in_order (module_block h) before modules

abbrev pub map_lines : Header → ℕ → List Map → List (List (List ℕ))
map_lines h before maps = in_order (map_block h) before maps

-- ---- records

-- the lines of a record, behind so many modules, maps and claims
abbrev pub record_lines : Header → (modules maps claims : ℕ) → Record → List (List (List ℕ))
record_lines h modules maps claims r =
    module_lines h modules r.modules ++ (map_lines h maps r.maps ++ (claim_line (claims + 1) r.line (head_of r.claim) ∷ claim_block h r.claim))

-- the lines of records, behind so many modules, maps and claims
abbrev pub records_lines : Header → (modules maps claims : ℕ) → List Record → List (List (List ℕ))
records_lines h modules maps claims [] = []
records_lines h modules maps claims (r ∷ records) = record_lines h modules maps claims r ++ records_lines h (modules + length r.modules) (maps + length r.maps) (claims + 1) records

-- ---- the whole

abbrev pub report_lines : Report → List (List (List ℕ))
report_lines r = title_line ∷ (header_lines r.header ++ (records_lines r.header 0 0 0 r.records ++ end_line r.header (length r.records) r.end ∷ []))

-- the report as bytes
abbrev pub report_text : Report → List ℕ
report_text r = text_of (report_lines r)

-- what is written before the first record, of one record behind some records, and behind the last
abbrev pub front_text : Report → List ℕ
front_text r = text_of (title_line ∷ header_lines r.header)

abbrev pub record_text : Header → (modules maps claims : ℕ) → Record → List ℕ
record_text h modules maps claims r = text_of (record_lines h modules maps claims r)

abbrev pub text_behind : Header → List Record → Record → List ℕ
text_behind h before r = record_text h (length (modules_of before)) (length (maps_of before)) (length before) r

-- the texts of records, behind so many modules, maps and claims
abbrev pub records_text : Header → (modules maps claims : ℕ) → List Record → List ℕ
records_text h modules maps claims [] = []
records_text h modules maps claims (r ∷ records) = record_text h modules maps claims r ++ records_text h (modules + length r.modules) (maps + length r.maps) (claims + 1) records

abbrev pub end_text : Report → List ℕ
end_text r = text_of (end_line r.header (length r.records) r.end ∷ [])
