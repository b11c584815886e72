-- The simple module at a vertex, list by list.
use Rattle.std.proofs.Common.{ℕ, ◌<◌, ◌≡◌, ◌≢◌, refl, sym, ap, ◌∙◌, subst}
use Rattle.linear_algebra.specs.Field.{Gf}
use Rattle.linear_algebra.specs.Matrix.{zeros}
use Rattle.linear_algebra.specs.Rows as lists
use Rattle.linear_algebra.specs.Typed.{grid_of}
use Rattle.fp_linear.specs.Matrix.{PlainMatrix, plain, zero_rows}
use Rattle.quiver_paths.specs.Quiver.{vertex_count}
use Rattle.path_algebra.specs.declared.Header.{Header}
use Rattle.representations.specs.Quiver.{Quiver}
use Rattle.module_types.specs.declared.Side.{Side}
use Rattle.module_types.specs.declared.Side.TheVariants.{Right, Left}
use Rattle.module_types.specs.declared.Module.{Module}
use Rattle.module_types.specs.Algebras.{algebra_at}
use Rattle.module_types.specs.SimpleModules.{simple, dim_of_simple}
use Rattle.module_types.specs.Written.{written, simple_at}
use Rattle.module_types.specs.Shapes.{IsModule}
use Rattle.module_types.proofs.SimpleModules.{simple-there, simple-elsewhere, simple_at-shape}
use Rattle.standard_modules.specs.StandardModules.{matrix_of_arrow}

pub simple_there : (side : Side) (h : Header) (v w : ℕ) → v ≡ w → w < vertex_count h.quiver → 1 ≡ dim_of_simple (algebra_at side h).quiver v w
simple_there Right h v w e l = sym (ap (λ v. dim_of_simple (algebra_at Right h).quiver v w) e ∙ simple-there (algebra_at Right h).quiver w l)
simple_there Left h v w e l = sym (ap (λ v. dim_of_simple (algebra_at Left h).quiver v w) e ∙ simple-there (algebra_at Left h).quiver w l)

pub simple_elsewhere : (side : Side) (h : Header) (v w : ℕ) → v ≢ w → 0 ≡ dim_of_simple (algebra_at side h).quiver v w
simple_elsewhere side h v w d = sym (simple-elsewhere (algebra_at side h).quiver v w d)

zero_grid : (q : Gf) (m n : ℕ) → zero_rows m n ≡ grid_of (zeros q m n)
unfolding zero_rows lists.zeros grid_of zeros
zero_grid q m n = refl

pub zero_matrix_is : (q : Gf) (Q : Quiver) (v a m n : ℕ) (p : PlainMatrix) → m ≡ dim_of_simple Q v (Q.source a) → n ≡ dim_of_simple Q v (Q.target a) → p ≡ plain q m n (zero_rows m n)
    → p ≡ matrix_of_arrow (simple q Q v) a
zero_matrix_is q Q v a m n p e d is =
    is ∙ (λ i. plain q (e i) (d i) (zero_rows (e i) (d i))) ∙ ap (plain q (dim_of_simple Q v (Q.source a)) (dim_of_simple Q v (Q.target a))) (zero_grid q (dim_of_simple Q v (Q.source a)) (dim_of_simple Q v (Q.target a)))

pub simple_written : (q : Gf) (Q : Quiver) (side : Side) (v : ℕ) (m : Module) → m ≡ written side (simple q Q v) → m ≡ simple_at q Q side v
unfolding simple_at
simple_written q Q side v m e = e

-- The simple module has its shape, over the quiver of its side.
pub simple_shape : (h : Header) (side : Side) (v : ℕ) (m : Module) → m ≡ simple_at h.field (algebra_at side h).quiver side v → IsModule h.field (algebra_at m.side h).quiver m
unfolding simple_at
simple_shape h side v m e =
    subst (λ (m : Module). IsModule h.field (algebra_at m.side h).quiver m) (sym e) (simple_at-shape h.field (algebra_at side h).quiver side v)
