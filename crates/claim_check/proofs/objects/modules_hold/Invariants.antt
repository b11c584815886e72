use Rattle.claim_conditions.specs.Modules.{ModuleHolds}
use Rattle.claim_check.proofs.Named.{AllBelow}
use Rattle.claim_check.proofs.objects.modules_hold.Given as goal

abbrev pub invariant-loop-m : goal.invariant-loop-m
invariant-loop-m l = AllBelow (ModuleHolds l.report.header) l.modules l.m-index
