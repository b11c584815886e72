use Rattle.std.proofs.Common.{refl}
use Rattle.linear_algebra.specs.Field.{f2}
use Rattle.header_text.proofs.reader.HeaderReader.new.Goals as goal

pub unreachable-requires : goal.unreachable-requires
unreachable-requires c = c.in-None.ensures f2 refl
