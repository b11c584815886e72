use Rattle.std.proofs.Common.{subst}
use Rattle.std.specs.Prelude.{All}
use Rattle.claim_conditions.specs.Modules.{ModuleHolds}
use Rattle.report_types.specs.Holding.{IsHomomorphism}
use Rattle.claim_check.proofs.Named.{not_modules, not_maps, all_objects}
use Rattle.claim_check.proofs.objects.first_failing_object.Goals as goal

pub returns-then-not-modules_hold : goal.returns-then-not-modules_hold
returns-then-not-modules_hold c =
    not_modules c.args.report.now.header c.args.report.now.records c.args.item.now.modules c.args.item.now.maps
    (subst (λ ms. All (ModuleHolds c.args.report.now.header) ms → ⊥) c.as_slice.ensures c.if-not-modules_hold.ensures)

pub returns-then-not-maps_hold : goal.returns-then-not-maps_hold
returns-then-not-maps_hold c =
    not_maps c.args.report.now.header c.args.report.now.records c.args.item.now.modules c.args.item.now.maps
    (subst (λ ms. All (ModuleHolds c.args.report.now.header) ms) c.as_slice.ensures c.if-not-modules_hold.ensures)
    (subst (λ fs. All (IsHomomorphism c.args.report.now.header c.args.report.now.records) fs → ⊥) c.as_slice-2.ensures c.if-not-maps_hold.ensures)

pub returns : goal.returns
returns c = all_objects c.args.report.now.header c.args.report.now.records c.args.item.now.modules c.args.item.now.maps
    (subst (λ ms. All (ModuleHolds c.args.report.now.header) ms) c.as_slice.ensures c.if-not-modules_hold.ensures)
    (subst (λ fs. All (IsHomomorphism c.args.report.now.header c.args.report.now.records) fs) c.as_slice-2.ensures c.if-not-maps_hold.ensures)
