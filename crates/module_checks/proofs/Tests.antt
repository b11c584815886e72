-- Tests that answer one thing, and decide another.
use Rattle.std.specs.Prelude.{Bool, true, false, MatchBool}

pub test_means : (b : Bool) {A B : Type 0} → (A → B) → (B → A) → MatchBool b A (¬ A) → MatchBool b B (¬ B)
test_means true f g h = f h
test_means false f g h = λ y. h (g y)
