use Rattle.std.proofs.Common.{ℕ, ◌<◌, get_or}
use Rattle.quiver_paths.specs.declared.Path.{Path}
use Rattle.alg_table.specs.WordChecks.{IsWellPlaced}
use Rattle.alg_table.proofs.words.words_hold.Given as goal

abbrev pub invariant-loop-word : goal.invariant-loop-word
invariant-loop-word l = (j : ℕ) (w : Path) → j < l.word-index → IsWellPlaced l.header l.words l.rules (get_or l.words j w)
