-- Printed modules and maps read as representations and homomorphisms. Each list of numbers is read, whatever it is: places that it does not have
-- are zero, and entries are taken modulo the order of the field. (Assem, Simson, Skowroński, volume 1, chapter III, 1.)
use Rattle.std.specs.Prelude.{ℕ, zero, ◌≡◌, ◌≤◌, List, [], map, slice_index, slice_index_or}
use Rattle.std.proofs.Common.{cond, ltb, le-ltb}
use Rattle.std.proofs.lemmas.Bool.{cond-false}
use Rattle.linear_algebra.specs.Field.{Gf}
use Rattle.linear_algebra.specs.Matrix.{Mat, ◌·◌}
use Rattle.linear_algebra.specs.Typed.{as_mat}
use Rattle.fp_linear.specs.Matrix.{PlainMatrix}
use Rattle.path_algebra.specs.declared.Header.{Header}
use Rattle.representations.specs.Quiver.{Quiver}
use Rattle.representations.specs.Rep.{Rep, IsMod}
use Rattle.representations.specs.Hom.{Hom}
use Rattle.module_types.specs.declared.Module.{Module}
use Rattle.module_types.specs.Algebras.{algebra_at}

-- the dimension at a vertex; none past the last vertex
unfoldable pub dim_at : Quiver → List ℕ → ℕ → ℕ
dim_at Q dims v = cond (ltb v Q.vertices) (slice_index dims v) zero

pub dim_past : (Q : Quiver) (dims : List ℕ) (v : ℕ) → Q.vertices ≤ v → dim_at Q dims v ≡ zero
unfolding dim_at
dim_past Q dims v h = cond-false (ltb v Q.vertices) (slice_index dims v) zero (le-ltb v Q.vertices h)

-- the rows of a matrix of a list
abbrev pub rows_at : List PlainMatrix → ℕ → List (List ℕ)
rows_at matrices i = slice_index_or (map (λ (m : PlainMatrix). m.rows) matrices) i []

-- the representation of a quiver that a module is read as
abbrev pub rep_of : (q : Gf) (Q : Quiver) → Module → Rep q Q
rep_of q Q m = record {
  dim = dim_at Q m.dims;
  mat = λ a. as_mat q (dim_at Q m.dims (Q.source a)) (dim_at Q m.dims (Q.target a)) (rows_at m.matrices a);
  past = dim_past Q m.dims;
}

-- A module is read over the quiver of its own side, or of the side of another, whatever its own is: the caller compares the sides.
abbrev pub read_beside : (h : Header) (a m : Module) → Rep h.field (algebra_at a.side h).quiver
read_beside h a m = rep_of h.field (algebra_at a.side h).quiver m

abbrev pub read : (h : Header) (m : Module) → Rep h.field (algebra_at m.side h).quiver
read h m = read_beside h m m

-- What it is read as is a module over the algebra of the header, on its side. This speaks of the reading alone, and not of the lengths of the lists nor
-- of the shapes of the matrices.
abbrev pub IsModuleOver : Header → Module → Type 0
IsModuleOver h m = IsMod (algebra_at m.side h) (read h m)

-- the matrices at the vertices that a map between two representations is read as
abbrev pub family_of : {q : Gf} {Q : Quiver} (X Y : Rep q Q) → List PlainMatrix → (v : ℕ) → Mat q (X.dim v) (Y.dim v)
family_of {q} X Y matrices v = as_mat q (X.dim v) (Y.dim v) (rows_at matrices v)

-- Matrices at the vertices are a homomorphism. Both are representations of one quiver; the caller compares the sides of the modules.
abbrev pub IsHom : {q : Gf} {Q : Quiver} (X Y : Rep q Q) → ((v : ℕ) → Mat q (X.dim v) (Y.dim v)) → Type 0
IsHom {Q = Q} X Y f = (a : ℕ) → X.mat a · f (Q.target a) ≡ f (Q.source a) · Y.mat a

abbrev pub hom_by : {q : Gf} {Q : Quiver} (X Y : Rep q Q) (f : (v : ℕ) → Mat q (X.dim v) (Y.dim v)) → IsHom X Y f → Hom X Y
hom_by X Y f h = record { at = f; square = h }
