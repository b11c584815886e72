use Rattle.std.proofs.Common.{◌++◌, length, take}
use Rattle.rep_arena.specs.Entries.{numbered, no_module}
use Rattle.rep_arena.proofs.Cutting.{names_number, kept_more}
use Rattle.rep_arena.proofs.keeping.kept_modules.Goals as goal

pub command_module-requires : goal.command_module-requires
command_module-requires c = names_number (length (c.args.old.now.items ++ c.args.modules.now.items)) c.args.kept.now c.loop-k.k c.loop-k-test.true c.requires.kept

pub loop-k-preserved : goal.loop-k-preserved
loop-k-preserved c =
    kept_more (numbered no_module (c.args.old.now.items ++ c.args.modules.now.items)) c.args.kept.now c.loop-k.k (take _ c.args.modules.now.items) c.loop-k.all.items c.push-in-loop-k.new.self.items c.in_ok-m.m
    c.loop-k-test.true c.loop-k.invariant c.in_ok-m.ensures c.in_ok-push-2.ensures.items
