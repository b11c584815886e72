use Rattle.std.proofs.Common.{◌<◌, ◌-◌, length, ap, arith}
use Rattle.rep_arena.specs.Entries.{Entries, IsMapAmong}
use Rattle.rep_arena.proofs.Numbered.{number_in, listed_front, behind}
use Rattle.rep_arena.proofs.arenas.Arena.map.Goals as goal

pub returns-then-at-old-clause-lawful : goal.returns-then-at-old-clause-lawful
returns-then-at-old-clause-lawful c =
    let in_old : c.args.id.number - 1 < length c.self.inside.old_maps.items = omega (arith, c.if-at-old.true, c.len-old.ensures, c.self.inside.old_maps.ok.0) in
    rw (← c.self.view_is)
    (listed_front (IsMapAmong _) c.self.inside.old_maps.items c.self.inside.maps.items (c.args.id.number - 1) c.index.result.now c.shorter.result c.self.invariant.maps in_old c.index.ensures c.shorter.ensures)

pub returns-else-at-old-clause-lawful : goal.returns-else-at-old-clause-lawful
returns-else-at-old-clause-lawful c =
    rw (← c.self.view_is)
    (behind (IsMapAmong _) c.self.inside.old_maps.items c.self.inside.maps.items c.args.id.number c.len-old.result c.index-else-at-old.result.now c.shorter-else-at-old.result c.self.invariant.maps
    (omega (arith, c.len-old.ensures, c.self.inside.old_maps.ok.0)) c.if-at-old.false (number_in c.args.id.number _ c.requires (ap (λ (e : Entries). length e.maps) c.self.view_is)) c.index-else-at-old.ensures c.shorter-else-at-old.ensures)
