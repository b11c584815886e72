use Rattle.std.proofs.Common.{ℕ, zero, List}
use Rattle.linear_algebra.specs.Field.{Gf}
use Rattle.representations.specs.Quiver.{Quiver}
use Rattle.representations.specs.Rep.{Rep}
use Rattle.projectives.specs.Words.{Words}
use Rattle.module_types.specs.declared.TermRows.{TermRows}
use Rattle.cover_checks.specs.Choosing.{AreMetBefore, IsReadAt}
use Rattle.cover_checks.proofs.choosing.meet_columns.Given as goal

abbrev pub invariant-loop-c : goal.invariant-loop-c
invariant-loop-c l = (q : Gf) (Q : Quiver) (W : Words q Q) (X : Rep q Q) (terms : List TermRows) (k : ℕ) (places : List ℕ)
    → IsReadAt W X terms k l.w l.size l.width l.rank l.term l.basis places l.pivots → AreMetBefore W X terms k l.w zero l.fn.met → AreMetBefore W X terms k l.w l.c l.met
