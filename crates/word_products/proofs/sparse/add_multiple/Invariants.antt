use Rattle.std.proofs.Common.{◌≡◌, take}
use Rattle.word_products.specs.SparseRows.{with_multiple}
use Rattle.word_products.proofs.sparse.add_multiple.Given as goal

abbrev pub invariant-loop-entry : goal.invariant-loop-entry
invariant-loop-entry l = l.into ≡ with_multiple l.field l.factor (take l.entry-index l.row) l.initial.into
