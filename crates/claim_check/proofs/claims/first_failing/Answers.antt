use Rattle.std.proofs.Common.{subst}
use Rattle.std.specs.Prelude.{map}
use Rattle.claim_conditions.specs.Conditions.{IsAnswer}
use Rattle.claim_conditions.specs.Modules.{object_conditions}
use Rattle.report_types.specs.Numbers.{printed}
use Rattle.report_types.specs.Verdicts.{sides_by}
use Rattle.claim_check.proofs.Named.{record_maps}
use Rattle.claim_check.proofs.Verdicts.{found_in_objects, found_in_claim}
use Rattle.claim_check.proofs.claims.first_failing.Goals as goal

pub first_failing_object-requires-clause-maps : goal.first_failing_object-requires-clause-maps
first_failing_object-requires-clause-maps c = record_maps c.args.report.now c.requires.report c.args.k c.args.item.now c.requires.there

pub returns-in-Some : goal.returns-in-Some
returns-in-Some c w = found_in_objects c.args.report.now c.requires.report c.args.k c.args.item.now c.requires.there c.requires.behind (sides_by w) c.in-Some.which c.in-Some.ensures

pub returns : goal.returns
returns c w =
    found_in_claim c.args.report.now c.requires.report c.args.k c.args.item.now c.requires.there c.requires.behind (sides_by w) c.first_failing_of_kind.result
    (subst (IsAnswer (object_conditions c.args.report.now.header c.args.item.now.modules (map (printed c.args.report.now.records) c.args.item.now.maps))) c.in_default.is c.first_failing_object.ensures)
    (c.first_failing_of_kind.ensures w)
