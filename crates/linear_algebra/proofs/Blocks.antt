-- The laws of blocks, under their place among the lemmas: they stand in specs, since the rank is defined by them.
pub use Rattle.linear_algebra.specs.Blocks.{IsFirst, IsSecond, join_cases, join-first, join-second, join-shifted, join_assoc, join_map, sum-join, stack_mul, stack_add, stack_negative, stack_scale, transpose_stack, mul_beside, beside_add, beside_negative, beside_scale, transpose_beside, beside_stack, stack_zeros, beside_zeros, stack_of_besides, one_blocks, no_rows, no_columns, no_rows_zeros}
