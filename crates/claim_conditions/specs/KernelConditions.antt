-- The conditions on a kernel and on a cokernel. All modules are read on the side of a, from which the map f goes to b.
use Rattle.std.specs.Prelude.{List, [], ◌∷◌}
use Rattle.fp_linear.specs.Matrix.{PlainMatrix}
use Rattle.path_algebra.specs.declared.Header.{Header}
use Rattle.module_types.specs.declared.Module.{Module}
use Rattle.module_types.specs.Readings.{read, read_beside, family_of}
use Rattle.claim_conditions.specs.declared.Clause.TheVariants as clause
use Rattle.claim_conditions.specs.Conditions.{Condition, ◌asks◌}
use Rattle.claim_conditions.specs.Families.{AreReduced, AreCoReduced, ComposeToZero, HasKernelSize, HasCokernelSize}

-- `objects`: the numbers say that i goes from n to the source of f; `reduced`; `zero`: i and then f is zero; `all`: at each vertex the dimension of n is
-- that of a less the rank of f
abbrev pub kernel_conditions : (named : Type 0) → Header → (n a b : Module) (f i : List PlainMatrix) → List Condition
kernel_conditions named h n a b f i =
    let N = read_beside h a n in
    let X = read h a in
    let Y = read_beside h a b in
    (clause.Objects asks named)
    ∷ (clause.Reduced asks AreReduced N X (family_of N X i))
    ∷ (clause.Zero asks ComposeToZero N X Y (family_of N X i) (family_of X Y f))
    ∷ (clause.All asks HasKernelSize N X Y (family_of X Y f))
    ∷ []

-- `objects`: the numbers say that p goes from the target of f to n; `reduced`; `zero`: f and then p is zero; `all`: at each vertex the dimension of n is
-- that of b less the rank of f
abbrev pub cokernel_conditions : (named : Type 0) → Header → (n a b : Module) (f p : List PlainMatrix) → List Condition
cokernel_conditions named h n a b f p =
    let N = read_beside h a n in
    let X = read h a in
    let Y = read_beside h a b in
    (clause.Objects asks named)
    ∷ (clause.Reduced asks AreCoReduced Y N (family_of Y N p))
    ∷ (clause.Zero asks ComposeToZero X Y N (family_of X Y f) (family_of Y N p))
    ∷ (clause.All asks HasCokernelSize X Y N (family_of X Y f))
    ∷ []
