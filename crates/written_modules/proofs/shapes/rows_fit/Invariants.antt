use Rattle.std.proofs.Common.{◌≡◌, take, true, length}
use Rattle.std.specs.Prelude.{nat_eq, List, ℕ}
use Rattle.std.specs.List.{list_all}
use Rattle.written_modules.proofs.shapes.rows_fit.Given as goal

abbrev pub invariant-loop-i : goal.invariant-loop-i
invariant-loop-i l = list_all (λ (r : List ℕ). nat_eq (length r) l.cols) (take l.i l.written) ≡ true
