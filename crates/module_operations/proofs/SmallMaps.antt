-- Maps between modules of at most the largest dimension have small matrices.
use Rattle.std.proofs.Common.{ℕ, ◌≤◌, List, arith, subst}
use Rattle.linear_algebra.specs.Field.{Gf}
use Rattle.fp_linear.specs.Matrix.{PlainMatrix}
use Rattle.path_algebra.specs.declared.Header.{Header}
use Rattle.representations.specs.Quiver.{Quiver}
use Rattle.module_types.specs.declared.Module.{Module}
use Rattle.module_types.specs.declared.Side.{Side}
use Rattle.module_types.specs.Algebras.{algebra_at}
use Rattle.module_types.specs.Readings.{dim_at}
use Rattle.module_types.specs.Shapes.{IsModule, IsMap}
use Rattle.module_types.proofs.Written.{dim_at-dimension}
use Rattle.module_faults.specs.ModuleFaults.{IsSmallModule}
use Rattle.module_faults.specs.MapFaults.{IsSmallMap}
use Rattle.module_operations.specs.VertexSpaces.{AreLow, AreNarrow}

pub dim_few : (q : Gf) (Q : Quiver) (m : Module) → IsModule q Q m → (v : ℕ) → dim_at Q m.dims v ≤ 256
dim_few q Q m s v = let d = dim_at-dimension Q m.dims v s.counted in let b = s.small in omega arith

pub low_map : (h : Header) (a b : Module) (f : List PlainMatrix) → IsSmallModule h a → IsSmallMap h a b f → AreLow f
low_map h a b f s m = record {
  each = λ v x l.
      let c = m.shape.counted in
      let e = (m.shape.each v x (omega arith)).row_count in
      let d = dim_few h.field (algebra_at a.side h).quiver a s.shape v in
      omega (arith, e);
}

pub narrow_map : (h : Header) (a b : Module) (f : List PlainMatrix) → IsSmallModule h b → IsSmallMap h a b f → AreNarrow f
narrow_map h a b f s m =
    let there = subst (λ (s : Side). IsMap h.field (algebra_at s h).quiver a b f) m.holds.side m.shape in
    record {
      each = λ v x l.
          let c = there.counted in
          let e = (there.each v x (omega arith)).col_count in
          let d = dim_few h.field (algebra_at b.side h).quiver b s.shape v in
          omega (arith, e);
    }
