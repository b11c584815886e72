use Rattle.std.proofs.Common.{◌++◌, refl, ap, subst}
use Rattle.rep_arena.specs.Entries.{Entries, AreLawful}
use Rattle.rep_arena.specs.Marks.{Heights, module_numbers, map_numbers}
use Rattle.rep_arena.proofs.Cutting.{kept_parts, kept_is, kept_lawful, room_kept}
use Rattle.rep_arena.proofs.arenas.Arena.keep.Goals as goal

pub kept_maps-requires-clause-few : goal.kept_maps-requires-clause-few
kept_maps-requires-clause-few c = room_kept c.args.self.now c.args.mark c.args.modules.now (map_numbers c.args.maps.now) c.mark.inside.modules (subst AreLawful c.self.view_is c.self.invariant) c.requires (ap (λ (h : Heights). h.modules) c.mark.view_is)

pub invariant_of-self : goal.invariant_of-self
invariant_of-self c =
    let s = c.self.inside in
    let ids = module_numbers c.args.modules.now in
    let numbers = map_numbers c.args.maps.now in
    let mark : Heights = record { modules = c.mark.inside.modules; maps = c.mark.inside.maps } in
    let e : Entries = record { header = s.header; modules = s.old_modules.items ++ s.modules.items; maps = s.old_maps.items ++ s.maps.items } in
    kept_lawful e c.args.self.now mark c.args.mark c.self.view_is c.mark.view_is ids numbers _ _ (kept_parts c.mark.inside.modules _ _ s.old_modules.items s.modules.items _ _ _ c.truncate.ensures.items c.in_ok-kept_modules.ensures refl refl) (kept_parts c.mark.inside.maps _ _ s.old_maps.items s.maps.items _ _ _ c.truncate-2.ensures.items c.in_ok-kept_maps.ensures refl refl) c.self.invariant c.requires

pub returns-clause-kept : goal.returns-clause-kept
returns-clause-kept c =
    let s = c.self.inside in
    let ids = module_numbers c.args.modules.now in
    let numbers = map_numbers c.args.maps.now in
    let mark : Heights = record { modules = c.mark.inside.modules; maps = c.mark.inside.maps } in
    let e : Entries = record { header = s.header; modules = s.old_modules.items ++ s.modules.items; maps = s.old_maps.items ++ s.maps.items } in
    kept_is e c.args.self.now mark c.args.mark c.self.view_is c.mark.view_is ids numbers _ _ (kept_parts c.mark.inside.modules _ _ s.old_modules.items s.modules.items _ _ _ c.truncate.ensures.items c.in_ok-kept_modules.ensures refl refl) (kept_parts c.mark.inside.maps _ _ s.old_maps.items s.maps.items _ _ _ c.truncate-2.ensures.items c.in_ok-kept_maps.ensures refl refl)
