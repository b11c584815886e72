use Rattle.report_types.specs.Holding.{IsHomomorphism}
use Rattle.claim_check.proofs.Named.{AllBelow}
use Rattle.claim_check.proofs.objects.maps_hold.Given as goal

abbrev pub invariant-loop-f : goal.invariant-loop-f
invariant-loop-f l = AllBelow (IsHomomorphism l.report.header l.report.records) l.maps l.f-index
