-- The conditions on a radical, and what is decided.
use Rattle.std.proofs.Common.{◌≤◌, List, arith}
use Rattle.std.specs.Prelude.{length}
use Rattle.fp_linear.specs.Matrix.{PlainMatrix}
use Rattle.path_algebra.specs.declared.Header.{Header}
use Rattle.path_algebra.specs.Allowed.{IsAllowed}
use Rattle.bound_algebra.specs.TypedPaths.{quiver_of}
use Rattle.module_types.specs.declared.Module.{Module}
use Rattle.module_types.specs.Readings.{read, read_beside, family_of}
use Rattle.module_types.specs.Shapes.{IsMap, dimension}
use Rattle.claim_conditions.specs.RadicalConditions.{SpanArrows}
use Rattle.map_checks.specs.ArrowRows.{SpanUpTo, FitVertices}
use Rattle.map_checks.proofs.ArrowRows.{fit_vertices, spans_family, family_spans}
use Rattle.map_checks.proofs.KernelTests.{beside, small_dim}

module _ (h : Header) (n a : Module) (i : List PlainMatrix) (I : IsMap h.field (quiver_of h.quiver) n a i) where
  pub fit_there : dimension n.dims ≤ 256 → dimension a.dims ≤ 256 → FitVertices (read h a) i
  fit_there x y = fit_vertices (read_beside h a n) (read h a) i (beside h a n a i I) (small_dim h a n x) (small_dim h a a y)

  pub spans_yes : SpanUpTo (read h a) (length i) i → SpanArrows (read_beside h a n) (read h a) (family_of (read_beside h a n) (read h a) i)
  spans_yes = spans_family (read_beside h a n) (read h a) i (beside h a n a i I)

  pub spans_no : SpanArrows (read_beside h a n) (read h a) (family_of (read_beside h a n) (read h a) i) → SpanUpTo (read h a) (length i) i
  spans_no = family_spans (read_beside h a n) (read h a) i (beside h a n a i I)

pub few_there : (h : Header) → IsAllowed h → (n a : Module) (i : List PlainMatrix) → IsMap h.field (quiver_of h.quiver) n a i → length i ≤ 32
few_there h ok n a i I = let l = ok.quiver.vertices_limit in omega (arith, l, I.counted)
