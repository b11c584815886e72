use Rattle.std.proofs.Common.{ℕ, ◌≡◌, ◌<◌, [], slice_index_or}
use Rattle.std.specs.Prelude.{slice_index}
use Rattle.word_products.proofs.action.all_zero.Given as goal

abbrev pub invariant-loop-i : goal.invariant-loop-i
invariant-loop-i l = (k j : ℕ) → k < l.i → slice_index (slice_index_or l.span.rows k []) j ≡ 0
