use Rattle.std.proofs.Common.{length, ap, arith}
use Rattle.module_faults.specs.ModuleFaults.{IsSmallModule}
use Rattle.rep_arena.specs.Entries.{Entries}
use Rattle.rep_arena.proofs.Numbered.{number_in, behind}
use Rattle.rep_arena.proofs.arenas.Arena.module.Goals as goal

pub returns-else-at-old-clause-lawful : goal.returns-else-at-old-clause-lawful
returns-else-at-old-clause-lawful c =
    rw (← c.self.view_is)
    (behind (IsSmallModule c.self.inside.header) c.self.inside.old_modules.items c.self.inside.modules.items c.args.id.number c.len-old.result c.index-else-at-old.result.now c.shorter-else-at-old.result c.self.invariant.modules
    (omega (arith, c.len-old.ensures, c.self.inside.old_modules.ok.0)) c.if-at-old.false (number_in c.args.id.number _ c.requires (ap (λ (e : Entries). length e.modules) c.self.view_is)) c.index-else-at-old.ensures c.shorter-else-at-old.ensures)
