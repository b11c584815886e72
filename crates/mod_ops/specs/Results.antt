-- What the operations leave in an arena: its entries as they were, and behind them what was found. (Assem, Simson, Skowroński, volume 1, chapter I, 3, and
-- III, 1 and 2.)
use Rattle.std.specs.Prelude.{ℕ, suc, ◌≡◌, ◌<◌, ◌≤◌, ◌-◌, ◌+◌, ◌^◌, List, length}
use Rattle.fp_linear.specs.Matrix.{PlainMatrix}
use Rattle.module_types.specs.declared.Module.{Module}
use Rattle.module_types.specs.declared.Map.{Map}
use Rattle.module_types.specs.Algebras.{algebra_at}
use Rattle.module_types.specs.Shapes.{dimension, most_dimension}
use Rattle.module_types.specs.Written.{block_sum, dual_of}
use Rattle.rep_arena.specs.Entries.{Entries, module_at, map_at, with_module, with_map}
use Rattle.module_operations.specs.Computed.{IsKernelBy, IsCokernelBy, IsImageBy, IsRadicalBy, IsTopBy}
use Rattle.mod_ops.specs.declared.DimError.{DimError}
use Rattle.mod_ops.specs.declared.DimError.TheVariants.{DimLimit, NoMemory}

-- There are numbers for a module and a map more.
pub record HasRoom (e : Entries) : Type 0 where
  pub modules : length e.modules < 2 ^ 32 - 2
  pub maps : length e.maps < 2 ^ 32 - 2

-- the map from the module that comes next to one that stands, and the map to it
abbrev pub inclusion_of : Entries → ℕ → List PlainMatrix → Map
inclusion_of e target matrices = record { source = suc (length e.modules); target = target; matrices = matrices }

abbrev pub projection_of : Entries → ℕ → List PlainMatrix → Map
projection_of e source matrices = record { source = source; target = suc (length e.modules); matrices = matrices }

-- A module and a map were put behind the others, and have these numbers.
pub record Adds (before after : Entries) (m : Module) (f : Map) (id map_id : ℕ) : Type 0 where
  pub entries : after ≡ with_map (with_module before m) f
  pub number : id ≡ suc (length before.modules)
  pub map_number : map_id ≡ suc (length before.maps)

-- the modules that a map goes from and to
abbrev pub source_of : Entries → ℕ → Module
source_of e f = module_at e (map_at e f).source

abbrev pub target_of : Entries → ℕ → Module
target_of e f = module_at e (map_at e f).target

-- The kernel of the map f was added with its inclusion; its cokernel with its projection; its image with its inclusion.
pub record AddsKernel (before after : Entries) (f id map_id : ℕ) : Type 0 where
  pub found : Module
  pub matrices : List PlainMatrix
  pub is : IsKernelBy before.header (source_of before f) (target_of before f) found (map_at before f).matrices matrices
  pub added : Adds before after found (inclusion_of before (map_at before f).source matrices) id map_id

pub record AddsCokernel (before after : Entries) (f id map_id : ℕ) : Type 0 where
  pub found : Module
  pub matrices : List PlainMatrix
  pub is : IsCokernelBy before.header (source_of before f) (target_of before f) found (map_at before f).matrices matrices
  pub added : Adds before after found (projection_of before (map_at before f).target matrices) id map_id

pub record AddsImage (before after : Entries) (f id map_id : ℕ) : Type 0 where
  pub found : Module
  pub matrices : List PlainMatrix
  pub is : IsImageBy before.header (source_of before f) (target_of before f) found (map_at before f).matrices matrices
  pub added : Adds before after found (inclusion_of before (map_at before f).target matrices) id map_id

-- The radical of the module a was added with its inclusion; its top with its projection.
pub record AddsRadical (before after : Entries) (a id map_id : ℕ) : Type 0 where
  pub found : Module
  pub matrices : List PlainMatrix
  pub is : IsRadicalBy before.header (module_at before a) found matrices
  pub added : Adds before after found (inclusion_of before a matrices) id map_id

pub record AddsTop (before after : Entries) (a id map_id : ℕ) : Type 0 where
  pub found : Module
  pub matrices : List PlainMatrix
  pub is : IsTopBy before.header (module_at before a) found matrices
  pub added : Adds before after found (projection_of before a matrices) id map_id

-- the block sum of two modules of one side, and the dual of one
abbrev pub sum_at : Entries → ℕ → ℕ → Module
sum_at e a b = block_sum e.header.field (algebra_at (module_at e a).side e.header).quiver (module_at e a) (module_at e b)

abbrev pub dual_at : Entries → ℕ → Module
dual_at e a = dual_of e.header.field (algebra_at (module_at e a).side e.header).quiver (module_at e a)

abbrev pub sum_dimension : Entries → ℕ → ℕ → ℕ
sum_dimension e a b = dimension (module_at e a).dims + dimension (module_at e b).dims

-- The dimensions add to more than the largest.
pub record ExceedsLimit (e : Entries) (a b dim : ℕ) : Type 0 where
  pub counted : dim ≡ sum_dimension e a b
  pub large : most_dimension < dim

-- Why there is no sum: the limit, and want of memory where the limit is kept.
abbrev pub IsSumRefused : Entries → ℕ → ℕ → DimError → Type 0
IsSumRefused e a b (DimLimit dim) = ExceedsLimit e a b dim
IsSumRefused e a b NoMemory = sum_dimension e a b ≤ most_dimension
