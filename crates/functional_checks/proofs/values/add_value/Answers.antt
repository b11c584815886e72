use Rattle.std.proofs.Common.{ℕ, length, ◌∙◌, ap}
use Rattle.linear_algebra.specs.Rows.{rows_of, times}
use Rattle.functional_checks.proofs.GeneratorValues.{value_added}
use Rattle.functional_checks.proofs.values.add_value.Goals as goal

pub returns-clause-sum : goal.returns-clause-sum
returns-clause-sum c =
    let q = c.args.field in
    value_added q (length c.args.row.now) c.args.row.now c.args.block.now c.args.column.now c.multiply_row.new.out c.multiply_row-2.new.out c.args.value.now c.add_multiple.new.target
    c.requires.block c.requires.column c.multiply_row-2.ensures.elements c.requires.value c.add_multiple.ensures.elements (c.multiply_row-2.auto.out ∙ c.requires.product_count) c.requires.value_count
    (c.multiply_row.ensures.product ∙ ap (λ (n : ℕ). times q n c.args.row.now (rows_of (length c.args.row.now) n c.args.block.now)) c.requires.image_count)
    (c.multiply_row-2.ensures.product ∙ ap (λ (n : ℕ). times q n c.multiply_row.new.out (rows_of (length c.multiply_row.new.out) n c.args.column.now)) c.requires.product_count
    ∙ ap (λ (n : ℕ). times q 1 c.multiply_row.new.out (rows_of n 1 c.args.column.now)) (c.multiply_row.auto.out ∙ c.requires.image_count)) c.add_multiple.ensures.sum
