-- The rank factorisation, under their place among the lemmas: they stand in specs, since the rank is defined by them.
pub use Rattle.linear_algebra.specs.RankExists.{rank_factorisation}
