use Rattle.std.proofs.Common.{◌∙◌, ap, refl}
use Rattle.rep_arena.specs.Entries.{Entries}
use Rattle.rep_arena.proofs.Lawful.{among_checked}
use Rattle.rep_arena.proofs.arenas.Arena.add_map.Goals as goal

pub put_map-requires-clause-lawful : goal.put_map-requires-clause-lawful
put_map-requires-clause-lawful c =
    among_checked c.args.self.now c.args.self.now c.args.f c.in_ok-source.source c.in_ok-target.target c.self.inside.header refl c.requires.source c.requires.target (c.in_ok-source.ensures ∙ c.module.ensures.entry) (c.in_ok-target.ensures ∙ c.module-2.ensures.entry)
    (ap (λ (e : Entries). e.header) c.self.view_is) c.in_ok-check_map.ensures.answer
