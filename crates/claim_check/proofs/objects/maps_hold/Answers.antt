use Rattle.std.proofs.Common.{arith}
use Rattle.report_types.specs.Holding.{IsHomomorphism}
use Rattle.claim_check.proofs.Named.{all_more}
use Rattle.claim_check.proofs.objects.maps_hold.Goals as goal

pub loop-f-preserved : goal.loop-f-preserved
loop-f-preserved c =
    all_more (IsHomomorphism c.args.report.now.header c.args.report.now.records) c.args.maps.now c.loop-f.f-index c.f-item.result c.loop-f.invariant
    (omega (arith, c.loop-f-test.true, c.loop-f.auto.f-index-end)) c.f-item.is c.if-not-map_holds.ensures
