-- Two answers that are the same.
use Rattle.std.specs.Prelude.{◌≡◌, List}
use Rattle.fp_linear.specs.Matrix.{PlainMatrix}
use Rattle.module_types.specs.declared.Module.{Module}

-- The modules are equal, and so are the matrices of their maps.
pub record AreEqual (n m : Module) (i j : List PlainMatrix) : Type 0 where
  pub modules : n ≡ m
  pub matrices : i ≡ j
