-- The laws of matrices, under their place among the lemmas: they stand in specs, since the rank is defined by them.
pub use Rattle.linear_algebra.specs.MatrixLaws.{add_comm_mat, add_assoc_mat, add_left_comm_mat, add_swap_mat, add_zeros, zeros_add, add_negative, negative_add, difference, sub-at, negative_sum, negative_negative, negative_zeros, sub_self_mat, add_cancel_mat, sub_eq_zeros, sub_add_mat, add_sub_mat, sub_zeros, scale_add, add_scale, scale_scale, scale-mod, one_scale, zero_scale, scale_zeros, scale_negative, neg_scale, negative_scale, mul_one_mat, one_mul_mat, transpose_transpose, transpose_sum, transpose_negative, transpose_scale, transpose-at, transpose_zeros, one-at, delta_comm, transpose_one, mul_zeros, zeros_mul, mul_add_mat, add_mul_mat, mul_negative, negative_mul, mul_scale, scale_mul, mul_sub_mat, sub_mul_mat, transpose_mul, mul_assoc_mat}
