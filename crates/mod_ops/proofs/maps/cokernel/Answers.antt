use Rattle.std.proofs.Common.{◌∙◌}
use Rattle.mod_ops.proofs.Added.{cokernel_added}
use Rattle.mod_ops.proofs.maps.cokernel.Goals as goal

pub returns-clause-cokernel : goal.returns-clause-cokernel
returns-clause-cokernel c =
    cokernel_added c.args.arena.now c.add_projection.new.arena c.args.f.number c.in_ok-ids.ids.0.number c.in_ok-ids.ids.1.number c.header.result.now c.in_ok-map.map c.in_ok-found.found.module c.in_ok-found.found.matrices c.header.ensures.header
    (c.in_ok-map.ensures ∙ c.map.ensures.entry) c.header.ensures.lawful c.ends.ensures.lawful c.in_ok-b.b c.ends.result.1.number c.ends.ensures.target (c.in_ok-b.ensures ∙ c.module.ensures.entry) c.in_ok-found.ensures c.in_ok-ids.ensures.added
