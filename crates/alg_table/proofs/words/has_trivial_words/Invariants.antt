use Rattle.std.proofs.Common.{ℕ, ◌<◌, []}
use Rattle.alg_table.specs.WordChecks.{IsWordAt}
use Rattle.alg_table.proofs.words.has_trivial_words.Given as goal

abbrev pub invariant-loop-vertex : goal.invariant-loop-vertex
invariant-loop-vertex l = (v : ℕ) → v < l.vertex → IsWordAt l.words v []
