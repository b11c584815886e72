use Rattle.linear_algebra.specs.Matrix.{◌·◌}
use Rattle.alg_table.specs.TableView.{IsTable}
use Rattle.module_types.specs.Algebras.{algebra_at}
use Rattle.module_types.specs.Readings.{family_of}
use Rattle.translate_checks.specs.Across.{across}
use Rattle.translate_checks.specs.Squares.{AgreeOnRows}
use Rattle.translate_checks.specs.Steps.{module_across}
use Rattle.translate_checks.proofs.homs.comes_from_at.Given as goal

abbrev pub invariant-loop-j : goal.invariant-loop-j
invariant-loop-j l = (t : IsTable l.table.header l.table.words) →
    let X = across l.table.header l.table.words t l.fn.side l.vertices in
    let Y = module_across l.table.header l.table.words t l.fn.side l.m in
    let Q = (algebra_at l.fn.side l.table.header).quiver in
    AgreeOnRows (X.mat l.fn.k · family_of X Y l.matrices (Q.source l.fn.k)) (family_of X Y l.matrices (Q.target l.fn.k) · Y.mat l.fn.k) l.j
