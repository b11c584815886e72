use Rattle.std.proofs.Common.{ℕ, ◌≡◌, ◌<◌, ◌≤◌, get_or}
use Rattle.term_rows.proofs.term_matrices.hold.Given as goal

abbrev pub invariant-loop-c : goal.invariant-loop-c
invariant-loop-c l = record {
  held : (j : ℕ) → j < l.c → get_or l.row j 0 ≡ get_or l.image j 0;
  clear : (j : ℕ) → l.c ≤ j → get_or l.row j 0 ≡ 0;
}
