use Rattle.std.proofs.Common.{◌∙◌}
use Rattle.mod_ops.proofs.Added.{radical_added}
use Rattle.mod_ops.proofs.modules.radical.Goals as goal

pub returns-clause-radical : goal.returns-clause-radical
returns-clause-radical c =
    radical_added c.args.arena.now c.add_inclusion.new.arena c.args.a.number c.in_ok-ids.ids.0.number c.in_ok-ids.ids.1.number c.header.result.now c.in_ok-whole.whole c.in_ok-found.found.module c.in_ok-found.found.matrices c.header.ensures.header
    (c.in_ok-whole.ensures ∙ c.module.ensures.entry) c.in_ok-found.ensures c.in_ok-ids.ensures.added
