use Rattle.std.proofs.Common.{◌∙◌, arith}
use Rattle.std.proofs.lemmas.List.{length-take-le}
use Rattle.quiv_io.proofs.Joined.{gives_next}
use Rattle.quiv_io.proofs.memory.MemorySourceSource.read.Goals as goal

pub returns-clause-given : goal.returns-clause-given
returns-clause-given c =
    rw (← c.self.view_is)
    (gives_next c.self.inside.bytes.items c.deref-2.result.now c.args.into.now c.copy_from_slice.new.self c.self.inside.at c.min-n.result c.deref-2.ensures.value c.copy_from_slice.ensures.after (c.copy_from_slice.ensures.len ∙ length-take-le c.min-n.result c.args.into.now (omega arith)))
