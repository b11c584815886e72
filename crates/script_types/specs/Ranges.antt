-- What the grammar allows in a statement: the forms of its names, and the ranges of its numbers. Whether a name is bound and
-- whether a matrix has the right shape is not asked here.
use Rattle.std.specs.Prelude.{ℕ, ◌<◌, ◌≤◌, List, length, All, ⊤}
use Rattle.linear_algebra.specs.Field.{Gf, order}
use Rattle.quiver_paths.specs.Name.{IsName}
use Rattle.quiver_paths.specs.declared.names.Suffix.{Suffix}
use Rattle.quiver_paths.specs.declared.names.Suffix.TheVariants.{Part}
use Rattle.quiver_paths.specs.declared.names.Reference.{Reference}
use Rattle.path_algebra.specs.Allowed.{IsArrowName}
use Rattle.script_types.specs.declared.AtLine.{AtLine}
use Rattle.script_types.specs.declared.StatementKind.{StatementKind}
use Rattle.script_types.specs.declared.StatementKind.TheVariants.{Rep, Std, Sum, Map, Kernel, Cokernel, Radical, Dual, Hom, Resolve, Ext, Decompose, Transpose, Tau, Taui, Ars}

-- the name of a module or a map has the form of an arrow's
abbrev pub IsScriptName : List ℕ → Type 0
IsScriptName name = IsArrowName name

-- a part has a number from 1 to 256
abbrev pub IsSuffix : Suffix → Type 0
IsSuffix (Part k) = (0 < k) × (k ≤ 256)
IsSuffix other = ⊤

pub record IsReference (r : Reference) : Type 0 where
  pub name : IsScriptName r.name
  pub suffix : IsSuffix r.suffix

-- a row as written: at least one entry, each an element of the field
pub record IsRow (f : Gf) (row : List ℕ) : Type 0 where
  pub some : 0 < length row
  pub entries : All (λ e. e < order f) row

-- a line `at`: the name of a vertex or an arrow, and rows
pub record IsAtLine (f : Gf) (l : AtLine) : Type 0 where
  pub name : IsName l.name
  pub rows : All (IsRow f) l.rows

-- a `rep`: at least one dimension, and lines `at` at arrows
pub record IsRep (f : Gf) (name dims : List ℕ) (lines : List AtLine) : Type 0 where
  pub name_is : IsScriptName name
  pub some : 0 < length dims
  pub dims_are : All (λ d. d ≤ 65535) dims
  pub lines_are : All (IsAtLine f) lines
  pub at_arrows : All (λ (l : AtLine). IsArrowName l.name) lines

-- a new name and a reference
pub record IsNewFrom (name : List ℕ) (a : Reference) : Type 0 where
  pub name_is : IsScriptName name
  pub reference_is : IsReference a

-- the grammar allows the statement over the field
abbrev pub IsStatement : Gf → StatementKind → Type 0
IsStatement f (Rep name dims lines) = IsRep f name dims lines
IsStatement f (Std name which vertex) = IsScriptName name × IsName vertex
IsStatement f (Sum name a b) = IsNewFrom name a × IsReference b
IsStatement f (Map name a b lines) = IsNewFrom name a × IsReference b × All (IsAtLine f) lines
IsStatement f (Kernel name a) = IsNewFrom name a
IsStatement f (Cokernel name a) = IsNewFrom name a
IsStatement f (Radical name a) = IsNewFrom name a
IsStatement f (Dual name a) = IsNewFrom name a
IsStatement f (Hom a b) = IsReference a × IsReference b
IsStatement f (Resolve a n) = IsReference a × (n ≤ 16)
IsStatement f (Ext n a b) = (n ≤ 15) × IsReference a × IsReference b
IsStatement f (Decompose a name) = IsNewFrom name a
IsStatement f (Transpose name a) = IsNewFrom name a
IsStatement f (Tau name a) = IsNewFrom name a
IsStatement f (Taui name a) = IsNewFrom name a
IsStatement f (Ars a left middle) = IsNewFrom left a × IsScriptName middle
