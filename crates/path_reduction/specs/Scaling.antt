-- Multiples of elements that are kept as descending terms.
use Rattle.std.specs.Prelude.{ℕ, List, map, slice_index_or}
use Rattle.linear_algebra.specs.Field.{Gf, mul, inv}
use Rattle.path_algebra.specs.declared.Term.{Term}
use Rattle.path_algebra.specs.declared.Header.{Header}

abbrev pub scaled : Gf → ℕ → Term → Term
scaled q c term = record { coef = mul q c term.coef; path = term.path }

-- divided by the coefficient of the greatest path
abbrev pub monic_terms : Header → List Term → Term → List Term
monic_terms h terms d = map (scaled h.field (inv h.field (slice_index_or terms 0 d).coef)) terms
