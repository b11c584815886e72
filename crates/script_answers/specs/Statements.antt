-- The records that each kind of statement takes, and the names that it binds.
use Rattle.std.specs.Prelude.{suc, ◌+◌, ◌-◌, List, [], ◌∷◌, length}
use Rattle.path_algebra.specs.declared.Header.{Header}
use Rattle.module_types.specs.declared.Module.{Module}
use Rattle.module_types.specs.Algebras.{algebra_at}
use Rattle.module_types.specs.Written.{block_sum}
use Rattle.script_types.specs.declared.StatementKind.{StatementKind}
use Rattle.script_types.specs.declared.StatementKind.TheVariants.{Rep, Std, Sum, Map, Kernel, Cokernel, Radical, Dual, Hom, Resolve, Ext, Decompose, Transpose, Tau, Taui, Ars}
use Rattle.report_types.specs.declared.claims.Claim.TheVariants as claim
use Rattle.report_types.specs.declared.claims.Translation.TheVariants as translation
use Rattle.report_types.specs.declared.claims.Record.{Record}
use Rattle.report_types.specs.Numbers.{modules_of}
use Rattle.script_answers.specs.declared.bound.Bound.TheVariants.{Whole, Arrow, WithMap, Parts}
use Rattle.script_answers.specs.Names.{Names}
use Rattle.script_answers.specs.Settings.{Setting, number_of, module_of, map_number_of, map_of}
use Rattle.script_answers.specs.Written.{vertex_names, rep_written, map_written}
use Rattle.script_answers.specs.Refusals.{place_of, dual_written}
use Rattle.script_answers.specs.Records.{next_module, next_map, next_claim, IsModuleRecord, IsStandardRecord, IsMapRecord, IsPartRecord, IsHomRecord, AreLocalRecords, IsResolutionRecord, IsExtensionRecord, IsDualResolution, IsTranslateRecord, IsSequenceRecord, IsDecomposition}

-- the block sum of two modules of one side
abbrev pub sum_written : Header → Module → Module → Module
sum_written h a b = block_sum h.field (algebra_at a.side h).quiver a b

-- these are all records of a statement of this kind
abbrev pub Takes : Setting → StatementKind → List Record → Type 0
Takes at (Rep name dims lines) (r ∷ []) = IsModuleRecord at (rep_written at.header dims lines) r
Takes at (Std name which vertex) (r ∷ []) = IsStandardRecord at which (place_of (vertex_names at.header) vertex) r
Takes at (Sum name a b) (r ∷ []) = IsModuleRecord at (sum_written at.header (module_of at a) (module_of at b)) r
Takes at (Map name a b lines) (r ∷ []) = IsMapRecord at (number_of at a) (number_of at b) (map_written at.header (module_of at a) (module_of at b) lines) r
Takes at (Kernel name f) (r ∷ []) = IsPartRecord (next_module at) (map_of at f).source (claim.Kernel (next_module at) (map_number_of at f) (next_map at)) r
Takes at (Cokernel name f) (r ∷ []) = IsPartRecord (map_of at f).target (next_module at) (claim.Cokernel (next_module at) (map_number_of at f) (next_map at)) r
Takes at (Radical name a) (r ∷ []) = IsPartRecord (next_module at) (number_of at a) (claim.Radical (next_module at) (number_of at a) (next_map at)) r
Takes at (Dual name a) (r ∷ []) = IsModuleRecord at (dual_written at.header (module_of at a)) r
Takes at (Hom a b) (r ∷ []) = IsHomRecord (number_of at a) (number_of at b) r
Takes at (Resolve a n) (r ∷ []) = IsResolutionRecord (number_of at a) n r
Takes at (Ext n a b) (res ∷ (ext ∷ [])) =
    IsResolutionRecord (number_of at a) (suc n) res × IsExtensionRecord n (number_of at a) (number_of at b) (next_claim at) ext
Takes at (Decompose a name) records = IsDecomposition at (number_of at a) (module_of at a) records
Takes at (Transpose name a) (res ∷ (r ∷ [])) =
    IsResolutionRecord (number_of at a) 1 res × IsTranslateRecord translation.Transpose (next_module at) (number_of at a) (next_claim at) r
Takes at (Tau name a) (res ∷ (r ∷ [])) =
    IsResolutionRecord (number_of at a) 1 res × IsTranslateRecord translation.Tau (next_module at) (number_of at a) (next_claim at) r
Takes at (Taui name a) (res ∷ (r ∷ [])) =
    IsDualResolution at (dual_written at.header (module_of at a)) 1 res
    × IsTranslateRecord (translation.Taui (next_module at)) (next_module at + 1) (number_of at a) (next_claim at) r
Takes at (Ars a left middle) (hom ∷ (loc ∷ (res ∷ (r ∷ [])))) =
    AreLocalRecords at (number_of at a) (module_of at a) hom loc × IsResolutionRecord (number_of at a) 1 res
    × IsSequenceRecord at (number_of at a) (next_claim at + 2) (next_claim at + 1) r
Takes at _ _ = ⊥

-- the names that it binds behind its records
abbrev pub binds : Setting → StatementKind → List Record → Names
binds at (Rep name dims lines) records = (name, Whole (next_module at)) ∷ []
binds at (Std name which vertex) records = (name, Whole (next_module at)) ∷ []
binds at (Sum name a b) records = (name, Whole (next_module at)) ∷ []
binds at (Map name a b lines) records = (name, Arrow (next_map at)) ∷ []
binds at (Kernel name f) records = (name, WithMap (next_module at) (next_map at)) ∷ []
binds at (Cokernel name f) records = (name, WithMap (next_module at) (next_map at)) ∷ []
binds at (Radical name a) records = (name, WithMap (next_module at) (next_map at)) ∷ []
binds at (Dual name a) records = (name, Whole (next_module at)) ∷ []
binds at (Hom a b) records = []
binds at (Resolve a n) records = []
binds at (Ext n a b) records = []
binds at (Decompose a name) records =
    let parts = length (modules_of records) - 1 in (name, Parts (next_module at) parts (next_module at + parts) (next_map at)) ∷ []
binds at (Transpose name a) records = (name, Whole (next_module at)) ∷ []
binds at (Tau name a) records = (name, Whole (next_module at)) ∷ []
binds at (Taui name a) records = (name, Whole (next_module at + 1)) ∷ []
binds at (Ars a left middle) records = (left, WithMap (next_module at) (next_map at)) ∷ ((middle, WithMap (next_module at + 1) (next_map at + 1)) ∷ [])
