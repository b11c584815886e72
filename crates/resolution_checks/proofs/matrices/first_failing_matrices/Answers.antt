use Rattle.std.proofs.Common.{refl}
use Rattle.resolution_checks.proofs.matrices.first_failing_matrices.Goals as goal

pub returns-then-not-is_complex : goal.returns-then-not-is_complex
returns-then-not-is_complex c = λ t. (0, (refl, c.if-not-is_complex.ensures t))

pub returns-then-not-is_onto : goal.returns-then-not-is_onto
returns-then-not-is_onto c = λ t. (1, (c.if-not-is_complex.ensures t, (refl, λ e. c.if-not-is_onto.ensures t e.0)))

pub returns-then-not-is_exact : goal.returns-then-not-is_exact
returns-then-not-is_exact c = λ t. (1, (c.if-not-is_complex.ensures t, (refl, λ e. c.if-not-is_exact.ensures t e.1)))

pub returns : goal.returns
returns c = λ t. (c.if-not-is_complex.ensures t, ((c.if-not-is_onto.ensures t, c.if-not-is_exact.ensures t), tt))
