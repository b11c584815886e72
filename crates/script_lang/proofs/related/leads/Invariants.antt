use Rattle.std.proofs.Common.{◌↔◌, drop}
use Rattle.quiver_paths.specs.Path.{Leads}
use Rattle.script_lang.proofs.related.leads.Given as goal

-- the arrows that are left lead from here to the end exactly where all do from the start
abbrev pub invariant-loop-place : goal.invariant-loop-place
invariant-loop-place l = Leads l.quiver l.at (drop l.place-index l.arrows) l.end ↔ Leads l.quiver l.start l.arrows l.end
