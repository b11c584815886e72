-- A representation written as a module: its dimensions at the vertices and its matrices at the arrows, in their order; and the modules that are made so
-- from others. (Assem, Simson, Skowroński, volume 1, chapter III, 1.)
use Rattle.std.specs.Prelude.{ℕ, List, length, slice_index_or}
use Rattle.linear_algebra.specs.Field.{Gf}
use Rattle.linear_algebra.specs.Rows.{list_of}
use Rattle.linear_algebra.specs.Typed.{grid_of}
use Rattle.fp_linear.specs.Matrix.{plain}
use Rattle.representations.specs.Quiver.{Quiver}
use Rattle.representations.specs.Rep.{Rep}
use Rattle.representations.specs.Sum.{zero_rep, sum_rep, sum_family}
use Rattle.representations.specs.Dual.{dual}
use Rattle.module_types.specs.declared.Side.{Side}
use Rattle.module_types.specs.declared.Module.{Module}
use Rattle.module_types.specs.Algebras.{other_side}
use Rattle.module_types.specs.Readings.{rep_of}
use Rattle.module_types.specs.SimpleModules.{simple}

abbrev pub written : {q : Gf} {Q : Quiver} → Side → Rep q Q → Module
written {q} {Q} side X = record {
  side = side;
  dims = list_of Q.vertices X.dim;
  matrices = list_of Q.arrows (λ a. plain q (X.dim (Q.source a)) (X.dim (Q.target a)) (grid_of (X.mat a)));
}

-- Modules over the quiver Q, of whatever side.
module _ (q : Gf) (Q : Quiver) where
  -- the block sum of two modules: at each vertex the coordinates of a before those of b, at each arrow the two matrices as blocks on the diagonal
  unfoldable pub block_sum : Module → Module → Module
  block_sum a b = written a.side (sum_rep (rep_of q Q a) (rep_of q Q b))

  -- module i of a list
  abbrev pub part_at : Side → List Module → ℕ → Rep q Q
  part_at side parts i = rep_of q Q (slice_index_or parts i (written side (zero_rep q Q)))

  -- The block sum of a list, in its order. It has the side that is given; that the members have it, the caller compares.
  unfoldable pub block_sum_of : Side → List Module → Module
  block_sum_of side parts = written side (sum_family (length parts) (part_at side parts))

  -- the dual: the same dimensions, transposed matrices, and the other side
  unfoldable pub dual_of : Module → Module
  dual_of m = written (other_side m.side) (dual (rep_of q Q m))

  -- the simple module at a vertex
  unfoldable pub simple_at : Side → ℕ → Module
  simple_at side v = written side (simple q Q v)
