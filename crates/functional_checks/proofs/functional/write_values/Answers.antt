use Rattle.std.proofs.Common.{ℕ, ◌<◌, ◌+◌, ◌-◌, ◌≡◌, ◌∙◌, arith}
use Rattle.local_checks.proofs.Places.{lent_length}
use Rattle.functional_checks.proofs.Columns.{family_of_row, values_more}
use Rattle.functional_checks.proofs.functional.write_values.Goals as goal

pub write_value-requires-clause-element : goal.write_value-requires-clause-element
write_value-requires-clause-element c =
    family_of_row c.args.header.now c.args.m.now c.args.basis.now c.loop-i.i c.row.result.now c.row.ensures.matrix c.requires.field c.requires.unknowns (omega (arith, c.loop-i-test.true, c.rows-i-end.ensures.count)) c.row.ensures.row

pub loop-i-preserved : goal.loop-i-preserved
loop-i-preserved c =
    let one : ◌≡◌ {A = ℕ} (c.loop-i.i + 1 - c.loop-i.i) 1 = omega arith in
    let inside : c.loop-i.i < c.args.basis.now.row_count = omega (arith, c.loop-i-test.true, c.rows-i-end.ensures.count) in
    let count_old = c.loop-i.auto.values ∙ c.requires.values in
    values_more c.args.header.now c.args.m.now c.args.cover.now c.args.functional.now c.args.basis.now c.loop-i.i (c.loop-i.i + 1 - c.loop-i.i) c.loop-i.values c.write_value.new.value c.row.result.now
    inside one count_old (c.write_value.auto.value ∙ lent_length c.loop-i.values c.loop-i.i (c.loop-i.i + 1 - c.loop-i.i) (omega (arith, inside, count_old)) ∙ one) c.write_value.ensures.elements c.row.ensures.row c.write_value.ensures.value c.loop-i.invariant
