use Rattle.std.proofs.Common.{sym, ◌∙◌}
use Rattle.std.specs.Cmp.{unsigned_Decides}
use Rattle.linear_algebra.specs.Field.{order}
use Rattle.fp_linear.proofs.Matrices.{same_held}
use Rattle.fp_linear.proofs.matrix.MatrixPartialEq.eq.Goals.{then-eq, else-eq, then-self-other, else-self-other}
use Rattle.fp_linear.proofs.matrix.MatrixPartialEq.eq.Goals as goal

pub returns-then-self-other-2 : goal.returns-then-self-other-2
returns-then-self-other-2 c =
    rw (← c.self.view_is, ← c.other.view_is)
    elim c.if-self-other.branch [
      | then-self-other w ↦ elim c.if-eq.branch [
        | then-eq v ↦
            c.eq-then-self-other-2.ensures
            ∙ same_held _ _ _ _ _ _ _ _ c.self.invariant c.other.invariant ((unsigned_Decides (order c.self.inside.field) (order c.other.inside.field)).0 (sym c.eq.ensures ∙ v.if-eq.true))
            ((unsigned_Decides c.self.inside.rows c.other.inside.rows).0 (sym v.value-is ∙ w.if-self-other.true)) ((unsigned_Decides c.self.inside.cols c.other.inside.cols).0 (sym w.value-is ∙ c.if-self-other-2.true))
        | else-eq v ↦ cc (v.value-is, v.if-eq.false, w.if-self-other.true)
      ]
      | else-self-other w ↦ cc (w.value-is, w.if-self-other.false, c.if-self-other-2.true)
    ]
