-- The laws of rows, columns and parts, under their place among the lemmas: they stand in specs, since the rank is defined by them.
pub use Rattle.linear_algebra.specs.PartsLaws.{made-at, made_of_entries, made-same, reshape-at, row-at, column-at, unit-row, unit-at, rows_equal, Row-eq, row_self, Mat_1-eq, row-mul, unit_mul, row_zeros, column-mul, transpose_row, equal_on_rows, equal_on_columns, mul_unit_column, scalar-at, product_1, scalar_mul, commute_1, one_1-at, mul-inv_1, invertible_1, scalar_of, stack_parts, beside_parts, upper_stack, lower_stack, stack_first, stack_second, left_beside, right_beside, beside_first, beside_second, unit_unit, left_part-at, right_part-at}
