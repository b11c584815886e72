-- The searches for an entry that is not zero, under their place among the lemmas: they stand in specs, since the rank is defined by them.
pub use Rattle.linear_algebra.specs.Search.{search_or_all, first_or_all, zero_or_not, first_nonzero, HasEntry, entry_or_zeros}
