use Rattle.std.proofs.Common.{ℕ, ◌≡◌, List, [], ◌∷◌, refl, ap, ◌∙◌, arith, slice_index, slice_index_or}
use Rattle.linear_algebra.specs.Rows.{list_of}
use Rattle.quiver_paths.specs.Quiver.{source, target}
use Rattle.module_types.specs.declared.Module.{Module}
use Rattle.module_types.specs.Readings.{dim_at, rows_at}
use Rattle.script_answers.specs.Written.{rep_written}
use Rattle.script_answers.specs.SmallSettings.{small_header, arrow_a, along_arrow, line_at}
use Rattle.script_answers.proofs.examples.records_name.Goals as goal

as_written : rep_written small_header (1 ∷ 1 ∷ []) (line_at arrow_a 1 ∷ []) ≡ along_arrow 1
unfolding dim_at source target list_of
as_written = refl

-- the first entry at the first arrow
abbrev first_entry : List Module → ℕ
first_entry [] = 0
first_entry (m ∷ rest) = slice_index (slice_index_or (rows_at m.matrices 0) 0 []) 0

other : along_arrow 0 ∷ [] ≡ along_arrow 1 ∷ [] → ⊥
other e = let entries : 0 ≡ 1 = ap first_entry e in omega (arith, entries)

pub returns-clause-modules : goal.returns-clause-modules
unfolding dim_at source target list_of
returns-clause-modules c = (record { prints = record { modules = refl; maps = refl }; claims = refl }, λ t. other (t.prints.modules ∙ ap (λ (m : Module). m ∷ []) as_written))
