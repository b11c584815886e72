use Rattle.std.proofs.Common.{refl}
use Rattle.linear_algebra.specs.Field.{f2}
use Rattle.script_lang.proofs.reader.start.Goals as goal

pub unreachable-requires : goal.unreachable-requires
unreachable-requires c = c.in_default.ensures f2 refl
