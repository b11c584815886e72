use Rattle.std.proofs.Common.{◌≡◌, ◌++◌, ap, sym, subst, arith, length}
use Rattle.rep_arena.specs.Entries.{Entries, IsMapAmong}
use Rattle.rep_arena.proofs.Lawful.{map_added}
use Rattle.rep_arena.proofs.arenas.Arena.put_map.Goals as goal

pub invariant_of-self-2 : goal.invariant_of-self-2
invariant_of-self-2 c =
    let s = c.self.inside in
    let same : length (s.old_maps.items ++ s.maps.items) ≡ length c.args.self.now.maps = ap (λ (e : Entries). length e.maps) c.self.view_is in
    map_added s.header (s.old_modules.items ++ s.modules.items) s.old_maps.items s.maps.items c.push.new.list.items c.args.f c.in_ok-stored.stored c.self.invariant
    (subst (λ (e : Entries). IsMapAmong e c.args.f) (sym c.self.view_is) c.requires.lawful) (let r = c.requires.room in omega arith) c.in_ok-push.ensures c.in_ok-stored.ensures
