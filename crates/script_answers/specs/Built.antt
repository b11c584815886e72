-- Which statements are built. A statement that is not is refused before all else.
use Rattle.std.specs.Prelude.{Bool, false}
use Rattle.script_types.specs.declared.StatementKind.{StatementKind}
use Rattle.script_types.specs.declared.StatementKind.TheVariants.{Rep, Std, Sum, Map, Kernel, Cokernel, Radical, Dual, Hom, Resolve, Ext, Decompose, Transpose, Tau, Taui, Ars}

abbrev pub is_built : StatementKind → Bool
is_built (Rep name dims lines) = false
is_built (Std name which vertex) = false
is_built (Sum name a b) = false
is_built (Map name a b lines) = false
is_built (Kernel name f) = false
is_built (Cokernel name f) = false
is_built (Radical name a) = false
is_built (Dual name a) = false
is_built (Hom a b) = false
is_built (Resolve a n) = false
is_built (Ext n a b) = false
is_built (Decompose a name) = false
is_built (Transpose name a) = false
is_built (Tau name a) = false
is_built (Taui name a) = false
is_built (Ars a left middle) = false
