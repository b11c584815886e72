use Rattle.std.proofs.Common.{sym, ap, ◌∙◌}
use Rattle.linear_algebra.specs.Matrix.{delta, delta-same, delta-other}
use Rattle.module_checks.proofs.column_reduced.unit_entry.Goals as goal

pub returns-then-k-j : goal.returns-then-k-j
returns-then-k-j c = sym (ap (delta c.args.k) (sym c.if-k-j.true) ∙ delta-same c.args.k)

pub returns : goal.returns
returns c = sym (delta-other c.args.k c.args.j c.if-k-j.false)
