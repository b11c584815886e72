use Rattle.alg_table.proofs.FormRows.{form_once}
use Rattle.alg_table.proofs.laws.normal_forms_are_unique.Goals as goal

pub returns : goal.returns
returns c = form_once
