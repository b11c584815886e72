use Rattle.std.proofs.Common.{◌≡◌, ◌++◌, ap, sym, arith, length}
use Rattle.rep_arena.specs.Entries.{Entries}
use Rattle.rep_arena.proofs.Lawful.{module_added}
use Rattle.rep_arena.proofs.arenas.Arena.put_module.Goals as goal

pub invariant_of-self-2 : goal.invariant_of-self-2
invariant_of-self-2 c =
    let s = c.self.inside in
    let same : length (s.old_modules.items ++ s.modules.items) ≡ length c.args.self.now.modules = ap (λ (e : Entries). length e.modules) c.self.view_is in
    module_added s.header c.args.self.now.header s.old_modules.items s.modules.items c.push.new.list.items (s.old_maps.items ++ s.maps.items) c.args.m c.in_ok-stored.stored c.self.invariant
    (sym (ap (λ (e : Entries). e.header) c.self.view_is)) c.requires.lawful (let r = c.requires.room in omega arith) c.in_ok-push.ensures c.in_ok-stored.ensures
