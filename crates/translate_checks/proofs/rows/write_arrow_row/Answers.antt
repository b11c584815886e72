use Rattle.std.proofs.Common.{◌<◌, subst, sym}
use Rattle.term_rows.proofs.SumSteps.{sum_dim_is}
use Rattle.module_types.specs.Algebras.{algebra_at}
use Rattle.translate_checks.specs.Across.{sum_in}
use Rattle.translate_checks.proofs.AcrossRows.{unit_elements, row_of_step}
use Rattle.translate_checks.proofs.rows.write_arrow_row.Goals as goal

pub step_in_sum-requires-clause-row_elements : goal.step_in_sum-requires-clause-row_elements
step_in_sum-requires-clause-row_elements c = unit_elements c.args.table.now.header.field c.args.j c.clear.new.entries c.clear.ensures.clear (subst (λ n. c.args.j < n) (sym c.clear.auto.entries) c.requires.inside)

pub returns-clause-row : goal.returns-clause-row
returns-clause-row c = λ t.
    let h = c.args.table.now.header in
    let ws = c.args.table.now.words in
    row_of_step (sum_in h ws t c.args.side c.args.vertices.now) c.args.arrow c.args.j c.clear.new.entries c.step_in_sum.new.next c.clear.ensures.clear (subst (λ n. c.args.j < n) (sym c.clear.auto.entries) c.requires.inside)
    (subst (λ n. c.args.j < n) (sym (sum_dim_is h ws t c.args.side c.args.vertices.now ((algebra_at c.args.side h).quiver.source c.args.arrow))) c.requires.place) (c.step_in_sum.ensures.step t)
