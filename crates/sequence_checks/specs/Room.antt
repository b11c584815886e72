-- The memory that is lent for deciding a sequence.
use Rattle.std.specs.Prelude.{ℕ, ◌+◌, ◌*◌}

-- a pullback, two rows with its columns, two rows of a term, a place for each word; and the values of a functional, or else these
abbrev pub sequence_room : ℕ → ℕ → ℕ
sequence_room words members = 393216 + 2 * 768 + 2 * 512 + words + members
