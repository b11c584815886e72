-- The laws that make a field, as one list.
use Rattle.linear_algebra.specs.FieldLaws.{one-lt-order, add_assoc, add_comm, add_zero, add_neg, mul_assoc, mul_comm, mul_one, mul_inv, mul_add, add_below, mul_below, neg_below, inv_below}

pub ruleset axioms = (one-lt-order, add_assoc, add_comm, add_zero, add_neg, mul_assoc, mul_comm, mul_one, mul_inv, mul_add, add_below, mul_below, neg_below, inv_below)
