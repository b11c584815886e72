use Rattle.report_types.proofs.Fronts.{named_below, claim_in_whole, module_in_whole, map_in_whole}
use Rattle.report_types.proofs.laws.names_are_earlier.Goals as goal

pub returns-clause-claims : goal.returns-clause-claims
returns-clause-claims c = λ report k n is. named_below k n report.records is

pub returns-clause-same_claim : goal.returns-clause-same_claim
returns-clause-same_claim c = λ report k n is. claim_in_whole k report.records n is

pub returns-clause-same_module : goal.returns-clause-same_module
returns-clause-same_module c = λ report k n is. module_in_whole k report.records n is

pub returns-clause-same_map : goal.returns-clause-same_map
returns-clause-same_map c = λ report k n is. map_in_whole k report.records n is
