-- The sets of laws for products and sums, under their place among the lemmas: they stand in specs, since the rank is defined by them.
pub use Rattle.linear_algebra.specs.Products.{pull, add_negative-add, negative_add-add, add_add-negative, negative_add-add_last, products, sums, blocks}
