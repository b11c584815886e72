use Rattle.std.proofs.Common.{ℕ, ◌≤◌, ◌⊎◌, ◌++◌, ◌∙◌, Contains, ap, sym, take, length, subst}
use Rattle.module_types.specs.declared.Map.{Map}
use Rattle.rep_arena.specs.Entries.{numbered, no_map}
use Rattle.rep_arena.specs.Marks.{module_numbers, renumbered}
use Rattle.rep_arena.proofs.Cutting.{names_map_number, kept_map_more, all_at}
use Rattle.rep_arena.proofs.keeping.kept_maps.Goals as goal

pub command_map-requires : goal.command_map-requires
command_map-requires c = names_map_number (length (c.args.old.now.items ++ c.args.maps.now.items)) c.args.kept.now c.loop-k.k c.loop-k-test.true c.requires.kept

pub renumbered-requires-clause-source : goal.renumbered-requires-clause-source
renumbered-requires-clause-source c =
    let at : ℕ → Map = numbered no_map (c.args.old.now.items ++ c.args.maps.now.items) in
    subst (λ (f : Map). (f.source ≤ c.args.modules_below) ⊎ Contains (module_numbers c.args.kept_modules.now) f.source) (sym c.in_ok-f.ensures)
    (all_at (λ n. ((at n).source ≤ c.args.modules_below) ⊎ Contains (module_numbers c.args.kept_modules.now) (at n).source) c.args.kept.now c.loop-k.k c.loop-k-test.true c.requires.sources)

pub renumbered-requires-clause-target : goal.renumbered-requires-clause-target
renumbered-requires-clause-target c =
    let at : ℕ → Map = numbered no_map (c.args.old.now.items ++ c.args.maps.now.items) in
    subst (λ (f : Map). (f.target ≤ c.args.modules_below) ⊎ Contains (module_numbers c.args.kept_modules.now) f.target) (sym c.in_ok-f.ensures)
    (all_at (λ n. ((at n).target ≤ c.args.modules_below) ⊎ Contains (module_numbers c.args.kept_modules.now) (at n).target) c.args.kept.now c.loop-k.k c.loop-k-test.true c.requires.targets)

pub loop-k-preserved : goal.loop-k-preserved
loop-k-preserved c =
    kept_map_more (λ n. renumbered c.args.modules_below (module_numbers c.args.kept_modules.now) (numbered no_map (c.args.old.now.items ++ c.args.maps.now.items) n)) c.args.kept.now c.loop-k.k (take _ c.args.maps.now.items) c.loop-k.all.items c.push-in-loop-k.new.self.items c.renumbered.result
    c.loop-k-test.true c.loop-k.invariant (c.renumbered.ensures ∙ ap (renumbered c.args.modules_below (module_numbers c.args.kept_modules.now)) c.in_ok-f.ensures) c.in_ok-push-2.ensures.items
