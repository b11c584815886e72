use Rattle.std.proofs.Common.{arith}
use Rattle.claim_conditions.specs.Modules.{ModuleHolds}
use Rattle.claim_check.proofs.Named.{all_more}
use Rattle.claim_check.proofs.objects.modules_hold.Goals as goal

pub loop-m-preserved : goal.loop-m-preserved
loop-m-preserved c =
    all_more (ModuleHolds c.args.report.now.header) c.args.modules.now c.loop-m.m-index c.m-item.result c.loop-m.invariant (omega (arith, c.loop-m-test.true, c.loop-m.auto.m-index-end))
    c.m-item.is c.if-not-module_holds.ensures
