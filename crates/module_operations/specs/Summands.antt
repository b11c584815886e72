-- Modules whose sum is taken. (Assem, Simson, Skowroński, volume 1, chapter III, 1.)
use Rattle.std.specs.Prelude.{◌≡◌, ◌≤◌, ◌+◌}
use Rattle.linear_algebra.specs.Field.{Gf}
use Rattle.fp_linear.specs.Matrix.{PlainMatrix}
use Rattle.representations.specs.Quiver.{Quiver}
use Rattle.module_types.specs.declared.Module.{Module}
use Rattle.module_types.specs.Shapes.{IsModule, dimension, most_dimension}

-- Two modules of one side, over its quiver, whose dimensions add to at most the largest.
pub record AreSummands (q : Gf) (Q : Quiver) (a b : Module) : Type 0 where
  pub side : a.side ≡ b.side
  pub first : IsModule q Q a
  pub second : IsModule q Q b
  pub small : dimension a.dims + dimension b.dims ≤ most_dimension

-- Matrices that are no larger than those of modules.
pub record AreSmallBlocks (a b : PlainMatrix) : Type 0 where
  pub rows : a.row_count + b.row_count ≤ most_dimension
  pub columns : a.col_count + b.col_count ≤ most_dimension
