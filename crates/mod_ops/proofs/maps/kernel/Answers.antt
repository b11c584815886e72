use Rattle.std.proofs.Common.{◌∙◌}
use Rattle.mod_ops.proofs.Added.{kernel_added}
use Rattle.mod_ops.proofs.maps.kernel.Goals as goal

pub returns-clause-kernel : goal.returns-clause-kernel
returns-clause-kernel c =
    kernel_added c.args.arena.now c.add_inclusion.new.arena c.args.f.number c.in_ok-ids.ids.0.number c.in_ok-ids.ids.1.number c.header.result.now c.in_ok-map.map c.in_ok-found.found.module c.in_ok-found.found.matrices c.header.ensures.header
    (c.in_ok-map.ensures ∙ c.map.ensures.entry) c.header.ensures.lawful c.ends.ensures.lawful c.in_ok-a.a c.ends.result.0.number c.ends.ensures.source (c.in_ok-a.ensures ∙ c.module.ensures.entry) c.in_ok-found.ensures c.in_ok-ids.ensures.added
