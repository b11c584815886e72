-- Refusals of a statement that no record shows: tests in their order, of which the first that fails refuses.
use Rattle.std.specs.Prelude.{ℕ, zero, ◌+◌, nat_eq, ◌&&◌, not, List, [], ◌∷◌, length, position, Option}
use Rattle.std.specs.Cmp.Lexicographic.{pointwise}
use Rattle.linear_algebra.specs.BlockFamilies.{total}
use Rattle.quiver_paths.specs.declared.names.Reference.{Reference}
use Rattle.quiver_paths.specs.Quiver.{vertex_count}
use Rattle.path_algebra.specs.declared.Header.{Header}
use Rattle.projectives.specs.Canonical.{canonical_vertices}
use Rattle.bound_algebra.specs.TypedPaths.{quiver_of}
use Rattle.module_types.specs.declared.Side.{Side}
use Rattle.module_types.specs.declared.Side.TheVariants.{Right}
use Rattle.module_types.specs.declared.Module.{Module}
use Rattle.module_types.specs.Algebras.{algebra_at}
use Rattle.module_types.specs.Readings.{rep_of, read, read_beside, family_of}
use Rattle.module_types.specs.Shapes.{dimension}
use Rattle.module_types.specs.Written.{dual_of}
use Rattle.script_types.specs.declared.AtLine.{AtLine}
use Rattle.script_types.specs.declared.Standard.{Standard}
use Rattle.script_types.specs.declared.Standard.TheVariants.{Simple, Projective, Injective}
use Rattle.script_types.specs.declared.StatementKind.{StatementKind}
use Rattle.script_types.specs.declared.StatementKind.TheVariants.{Rep, Std, Sum, Map, Kernel, Cokernel, Radical, Dual, Hom, Resolve, Ext, Decompose, Transpose, Tau, Taui, Ars}
use Rattle.report_types.specs.declared.reports.Why.{Why}
use Rattle.report_types.specs.declared.reports.Why.TheVariants as why
use Rattle.report_types.specs.WordDimensions.{dim_of, projective_dim, injective_dim, unknown_count}
use Rattle.script_answers.specs.FirstTests.{first_of, unless, is_new, is_second, is_module, is_map, are_among, same_side, all_different, dim_limit, hom_limit, term_limit_at}
use Rattle.script_answers.specs.Settings.{Setting, number, module_of}
use Rattle.script_answers.specs.Written.{arrow_names, vertex_names, line_names, lines_fit, rows_from, columns_to, rep_written, map_written}
use Rattle.script_answers.specs.ZeroTests.{relations_hold, bound_holds, commutes}
use Rattle.script_answers.specs.Built.{is_built}

-- the place of a name among names, zero where it is not there
abbrev pub place_of : List (List ℕ) → List ℕ → ℕ
place_of names name = number (position (pointwise nat_eq name) names)

-- the dimensions of the sum of the projective modules at some vertices of a side, as the printed words count them, and of the injective ones
abbrev pub projectives_dim : Setting → Side → List ℕ → ℕ
projectives_dim at side vertices = total (vertex_count at.header.quiver) (projective_dim at.words side vertices)

abbrev pub injectives_dim : Setting → Side → List ℕ → ℕ
injectives_dim at side vertices = total (vertex_count at.header.quiver) (injective_dim at.words side vertices)

-- the dimension of the module of a vertex
abbrev pub standard_dim : Setting → Standard → ℕ → ℕ
standard_dim at Simple v = 1
standard_dim at Projective v = projectives_dim at Right (v ∷ [])
standard_dim at Injective v = injectives_dim at Right (v ∷ [])

-- term 0 of the minimal resolution of a module: its projective cover
abbrev pub cover_dim : Setting → Module → ℕ
cover_dim at m = projectives_dim at m.side (canonical_vertices (read at.header m))

-- the unknowns of the homomorphisms between two modules
abbrev pub unknowns_of : Setting → Module → Module → ℕ
unknowns_of at a b = unknown_count at.header a b

-- the dual of a module
abbrev pub dual_written : Header → Module → Module
dual_written h m = dual_of h.field (algebra_at m.side h).quiver m

-- ---- shapes, relations and squares

abbrev pub rep_shape : Header → List ℕ → List AtLine → Option Why
rep_shape h dims lines =
    unless (nat_eq (length dims) (vertex_count h.quiver) && all_different (line_names lines)
    && lines_fit (arrow_names h) (rows_from h dims) (columns_to h dims) lines) why.Shape

abbrev pub map_shape : Header → Module → Module → List AtLine → Option Why
map_shape h a b lines = unless (all_different (line_names lines) && lines_fit (vertex_names h) (dim_of h a) (dim_of h b) lines) why.Shape

abbrev pub rep_holds : Header → Module → Option Why
rep_holds h m = first_of (relations_hold h (rep_of h.field (quiver_of h.quiver) m) ∷ bound_holds h (rep_of h.field (quiver_of h.quiver) m) ∷ [])

abbrev pub map_holds : Header → Module → Module → List AtLine → Option Why
map_holds h a b lines = commutes (read h a) (read_beside h a b) (family_of (read h a) (read_beside h a b) (map_written h a b lines))

-- ---- the table

-- a new name and a module, or a map
abbrev pub new_from_module : Setting → List ℕ → Reference → Option Why
new_from_module at name a = first_of (is_new at.names name ∷ is_module at.names a ∷ [])

abbrev pub new_from_map : Setting → List ℕ → Reference → Option Why
new_from_map at name f = first_of (is_new at.names name ∷ is_map at.names f ∷ [])

abbrev pub early : Setting → StatementKind → Option Why
early at (Rep name dims lines) = first_of (is_new at.names name ∷ are_among (arrow_names at.header) (line_names lines) ∷ rep_shape at.header dims lines
    ∷ dim_limit (dimension dims) ∷ rep_holds at.header (rep_written at.header dims lines) ∷ [])
early at (Std name which vertex) = first_of (is_new at.names name ∷ are_among (vertex_names at.header) (vertex ∷ [])
    ∷ dim_limit (standard_dim at which (place_of (vertex_names at.header) vertex)) ∷ [])
early at (Sum name a b) = first_of (is_new at.names name ∷ is_module at.names a ∷ is_module at.names b
    ∷ unless (same_side (module_of at a).side (module_of at b).side) why.Side ∷ dim_limit (dimension (module_of at a).dims + dimension (module_of at b).dims) ∷ [])
early at (Map name a b lines) = first_of (is_new at.names name ∷ is_module at.names a ∷ is_module at.names b ∷ are_among (vertex_names at.header) (line_names lines)
    ∷ unless (same_side (module_of at a).side (module_of at b).side) why.Side ∷ map_shape at.header (module_of at a) (module_of at b) lines
    ∷ map_holds at.header (module_of at a) (module_of at b) lines ∷ [])
early at (Kernel name f) = new_from_map at name f
early at (Cokernel name f) = new_from_map at name f
early at (Radical name a) = new_from_module at name a
early at (Dual name a) = new_from_module at name a
early at (Hom a b) = first_of (is_module at.names a ∷ is_module at.names b ∷ unless (same_side (module_of at a).side (module_of at b).side) why.Side
    ∷ hom_limit (unknowns_of at (module_of at a) (module_of at b)) ∷ [])
early at (Resolve a n) = first_of (is_module at.names a ∷ term_limit_at zero (cover_dim at (module_of at a)) ∷ [])
early at (Ext n a b) = first_of (is_module at.names a ∷ is_module at.names b ∷ unless (same_side (module_of at a).side (module_of at b).side) why.Side
    ∷ term_limit_at zero (cover_dim at (module_of at a)) ∷ [])
early at (Decompose a name) = first_of (is_module at.names a ∷ is_new at.names name ∷ hom_limit (unknowns_of at (module_of at a) (module_of at a)) ∷ [])
early at (Transpose name a) = first_of (new_from_module at name a ∷ term_limit_at zero (cover_dim at (module_of at a)) ∷ [])
early at (Tau name a) = first_of (new_from_module at name a ∷ term_limit_at zero (cover_dim at (module_of at a)) ∷ [])
early at (Taui name a) = first_of (new_from_module at name a ∷ term_limit_at zero (cover_dim at (dual_written at.header (module_of at a))) ∷ [])
early at (Ars a left middle) = first_of (is_module at.names a ∷ is_new at.names left ∷ is_second at.names left middle
    ∷ unless (not (nat_eq (dimension (module_of at a).dims) zero)) why.Zero ∷ hom_limit (unknowns_of at (module_of at a) (module_of at a)) ∷ [])

-- the refusal that the statement meets before its first record
abbrev pub refusal : Setting → StatementKind → Option Why
refusal at s = first_of (unless (is_built s) why.NotBuilt ∷ early at s ∷ [])
