use Rattle.std.proofs.Common.{◌++◌, arith}
use Rattle.rep_arena.proofs.Cutting.{cut_lists, cut_is, cut_lawful}
use Rattle.rep_arena.proofs.arenas.Arena.release.Goals as goal

pub invariant_of-self : goal.invariant_of-self
invariant_of-self c =
    let s = c.self.inside in
    cut_lawful (record { header = s.header; modules = s.old_modules.items ++ s.modules.items; maps = s.old_maps.items ++ s.maps.items }) c.args.self.now (record { modules = c.mark.inside.modules; maps = c.mark.inside.maps }) c.args.mark
    c.self.view_is c.mark.view_is _ _ (cut_lists c.mark.inside.modules c.saturating_sub.result c.len.result s.old_modules.items s.modules.items _ _ c.truncate-2.ensures.items c.truncate.ensures.items c.saturating_sub.ensures (omega (arith, c.len.ensures, s.old_modules.ok.0))) (cut_lists c.mark.inside.maps c.saturating_sub-2.result c.len-2.result s.old_maps.items s.maps.items _ _ c.truncate-4.ensures.items c.truncate-3.ensures.items c.saturating_sub-2.ensures (omega (arith, c.len-2.ensures, s.old_maps.ok.0))) c.self.invariant c.requires

pub returns : goal.returns
returns c =
    let s = c.self.inside in
    cut_is (record { header = s.header; modules = s.old_modules.items ++ s.modules.items; maps = s.old_maps.items ++ s.maps.items }) c.args.self.now (record { modules = c.mark.inside.modules; maps = c.mark.inside.maps }) c.args.mark
    c.self.view_is c.mark.view_is _ _ (cut_lists c.mark.inside.modules c.saturating_sub.result c.len.result s.old_modules.items s.modules.items _ _ c.truncate-2.ensures.items c.truncate.ensures.items c.saturating_sub.ensures (omega (arith, c.len.ensures, s.old_modules.ok.0))) (cut_lists c.mark.inside.maps c.saturating_sub-2.result c.len-2.result s.old_maps.items s.maps.items _ _ c.truncate-4.ensures.items c.truncate-3.ensures.items c.saturating_sub-2.ensures (omega (arith, c.len-2.ensures, s.old_maps.ok.0)))
